-- An exception beside the directive that it names, which may be none; and the walk over exceptions, one by one. Assumes nothing.
use mathlib.Core.Bool.{Bool, true, false, ◌&&◌}
use mathlib.Core.List.{List, [], ◌∷◌, map}
use mathlib.Core.Path.{◌≡◌, refl, sym, ap, ◌∙◌}
use native.Mathlib.Omega.{arith}
use Prim.Native.Nat.{ℕ, zero, suc, ◌+◌, ◌-◌, ◌≤◌, ◌<◌}
use lib.Dec.{leb}
use lib.ListN.{length, drop, get_or}
use Rattle.meaning.specs.Blocks.{Block, inside}
use Rattle.meaning.specs.Fields.{fields}
use Rattle.meaning.specs.Form.{inside_of, block_in_form, exceptions_in_form}
use Rattle.meaning.specs.Records.{numbered}
use Rattle.meaning.specs.Rules.{Rule}
use Rattle.blocks.specs.Vocabulary.{block_of}
use Rattle.sets.specs.Empty.{zero_exception}
use Rattle.sets.specs.Vocabulary.{directive_of, exception_of}
use Rattle.sets.specs.declared.Directive.{Directive}
use Rattle.sets.specs.declared.Exception.{Exception}
use Rattle.sets.proofs.Walks.{slice_next, slice_over}

module _ (b : Block) where
  pub names_none : (n : ℕ) (ds : List Directive) → n ≡ 0 → inside_of (numbered (map directive_of ds) n) b ≡ false
  unfolding inside_of numbered
  names_none n ds e = simp e

  pub names_one : (n : ℕ) (ds : List Directive) (d : Directive) → ¬ (n ≡ 0) → n - 1 < length ds → d ≡ get_or ds (n - 1) d
      → inside_of (numbered (map directive_of ds) n) b ≡ inside b (block_of d.block)
  unfolding inside_of numbered
  names_one zero ds d h k e = absurd (h refl)
  names_one (suc n) [] d h k e = absurd (omega arith)
  names_one (suc zero) (x ∷ ds) d h k e = ap (λ (y : Directive). inside b (block_of y.block)) (sym e)
  names_one (suc (suc n)) (x ∷ ds) d h k e =
      let less : suc (suc n) - 1 ≡ suc (suc n - 1) = omega arith in
      names_one (suc n) ds d (λ z. omega arith) (omega arith) (e ∙ ap (λ (i : ℕ). get_or (x ∷ ds) i d) less)

  pub names_past : (n : ℕ) (ds : List Directive) → ¬ (n ≡ 0) → length ds ≤ n - 1 → inside_of (numbered (map directive_of ds) n) b ≡ false
  unfolding inside_of numbered
  names_past zero ds h k = absurd (h refl)
  names_past (suc n) [] h k = refl
  names_past (suc zero) (x ∷ ds) h k = absurd (omega arith)
  names_past (suc (suc n)) (x ∷ ds) h k = names_past (suc n) ds (λ z. omega arith) (omega arith)

-- the walk over exceptions, at exception i, where the one before it named `before`
module _ (ds : List Rule) (es : List Exception) (before : ℕ) where
  abbrev left : ℕ → ℕ → Bool
  left named j = exceptions_in_form fields ds named (map exception_of (drop j es))

  module _ (i : ℕ) (there : i < length es) where
    abbrev e : Exception
    e = get_or es i zero_exception

    first : left before i ≡ exceptions_in_form fields ds before (exception_of e ∷ map exception_of (drop (i + 1) es))
    first = ap (exceptions_in_form fields ds before) (slice_next exception_of es i zero_exception there)

    abbrev beside : Bool
    beside = leb before e.directive && inside_of (numbered ds e.directive) (block_of e.block) && block_in_form fields (block_of e.block)

    pub one_in_form : beside ≡ true → left before i ≡ left e.directive (i + 1)
    unfolding exceptions_in_form
    one_in_form h = first ∙ simp h

    pub one_out_of_form : beside ≡ false → left before i ≡ false
    unfolding exceptions_in_form
    one_out_of_form h = first ∙ simp h

  pub none_left : (i : ℕ) → length es ≤ i → left before i ≡ true
  unfolding exceptions_in_form
  none_left i h = ap (exceptions_in_form fields ds before) (slice_over exception_of es i h)
