-- The test of form over records, and over those of a policy whose counts are within their limits.
-- Assumes nothing.
use mathlib.Core.Bool.{Bool, false, ◌&&◌, and-false}
use mathlib.Core.List.{List, [], ◌∷◌, map}
use mathlib.Core.Path.{◌≡◌, refl, ap}
use Prim.Native.Nat.{◌≤◌, ◌<◌}
use borrow.Author.Tests.{le-leb, lt-leb}
use lib.ListN.{take}
use Rattle.std.proofs.lemmas.List.{take-map}
use Rattle.std.specs.List.{list_all}
use Rattle.meaning.specs.Fields.{fields}
use Rattle.meaning.specs.Form.{exceptions_in_form, policy_in_form, most_directives, most_exceptions}
use Rattle.meaning.specs.Records.{all_of}
use Rattle.sets.specs.declared.Directive.{Directive}
use Rattle.sets.specs.declared.Policy.{Policy}
use Rattle.sets.specs.Inner.{directives_of, exceptions_of, in_form}
use Rattle.sets.specs.Vocabulary.{directive_of, policy_set_of}

module _ {A B : Type 0} (f : A → B) (test : B → Bool) where
  pub all_mapped : (l : List A) → all_of test (map f l) ≡ list_all (λ (x : A). test (f x)) l
  unfolding all_of
  all_mapped [] = refl
  all_mapped (x ∷ l) = ap (λ (b : Bool). test (f x) && b) (all_mapped l)

module _ (s : Policy) (directives : s.directive_count ≤ most_directives) (exceptions : s.exception_count ≤ most_exceptions) where
  pub policy_within : policy_in_form fields (policy_set_of s)
      ≡ (list_all (λ (d : Directive). in_form (directive_of d)) (take s.directive_count s.directives)
      && exceptions_in_form fields (directives_of s) 0 (exceptions_of s))
  unfolding policy_in_form
  policy_within =
      simp (le-leb _ _ directives, le-leb _ _ exceptions)
      (ap (λ (b : Bool). b && exceptions_in_form fields (directives_of s) 0 (exceptions_of s)) (simp (take-map directive_of, all_mapped directive_of in_form)))

module _ (s : Policy) where
  pub many_directives : most_directives < s.directive_count → policy_in_form fields (policy_set_of s) ≡ false
  unfolding policy_in_form
  many_directives many = simp (lt-leb _ _ many)

  pub many_exceptions : most_exceptions < s.exception_count → policy_in_form fields (policy_set_of s) ≡ false
  unfolding policy_in_form
  many_exceptions many = simp (lt-leb _ _ many, and-false)
