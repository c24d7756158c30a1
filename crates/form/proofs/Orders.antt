-- Of two refusals the first that refuses is told: the second only if the first call refused nothing. Assumes nothing.
use mathlib.Core.Path.{◌≡◌, sym, ap, ◌∙◌}
use native.Mathlib.Omega.{arith}
use borrow.Author.Tests.{ne_eqb}
use Rattle.std.specs.Prelude.{Result, Ok, Err}
use Rattle.meaning.specs.Form as form
use Rattle.sets.specs.Vocabulary.{reason_number, refusal_of, refused_of}
use Rattle.sets.specs.declared.Refusal.{Refusal}
use Rattle.sets.proofs.OneAnswer.{reason_counts}

module _ {A : Type 0} (r : Result A Refusal) (first second : form.Refusal) (e : refused_of r ≡ first) where
  pub first_passed : (a : A) → r ≡ Ok a → form.or_else first second ≡ second
  unfolding form.or_else
  first_passed a h = ap (λ (x : form.Refusal). form.or_else x second) (sym e ∙ ap refused_of h)

  pub first_told : (f : Refusal) → r ≡ Err f → form.or_else first second ≡ refusal_of f
  unfolding form.or_else
  first_told f h =
      ap (λ (x : form.Refusal). form.or_else x second) (sym e ∙ ap refused_of h)
      ∙ simp (ne_eqb (reason_number f.reason) 0 (λ z. omega (arith, reason_counts f.reason)))
