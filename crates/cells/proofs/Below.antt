-- The cells below a field. Assumes nothing.
use mathlib.Core.Path.{◌≡◌, ap, sym, ◌∙◌, subst}
use mathlib.Core.Bool.{Bool, false, ◌||◌}
use mathlib.Core.List.{List, [], ◌∷◌}
use Prim.Native.Nat.{ℕ, ◌+◌, ◌<◌}
use native.Mathlib.Omega.{arith}
use native.Mathlib.Numerals.{add-one}
use borrow.Author.Tests.{le-ltb}
use lib.Bits.{bit_and, bit_xor, and_zero_l}
use lib.ListN.{length, get_or, drop_of_length-le}
use lib.Seq.{drop-cons}
use Rattle.meaning.specs.Fields.{range_none, range_more}
use Rattle.meaning.specs.Labels.{good}
use Rattle.meaning.specs.Listings.{Agree}
use Rattle.meaning.specs.Sizes.{mask_digits, accepting_directives}
use Rattle.meaning.proofs.ListingUnique.{agree_at}
use Rattle.cells.specs.declared.Left.{Left}
use Rattle.cells.specs.Cells.{Chart, free_from, asked_by, accepting, left_label, spot, left_at, step, cell_label, below, Same, Nothing}
use Rattle.cells.proofs.Freeing.{free_none}
use Rattle.cells.proofs.Labels.{label_nothing}

abbrev left : ℕ → ℕ → ℕ → Left
left r d e = record { rules = r; directives = d; exceptions = e }

-- the same digits, the same sets
pub same_digits : (a b : Left) → a.rules ≡ b.rules → a.directives ≡ b.directives → a.exceptions ≡ b.exceptions → a ≡ b
same_digits a b p q s = λ i. left (p i) (q i) (s i)

-- where nothing is left, nothing is asked for
nothing_asked_lem : (words : List ℕ) (e turning own : ℕ) → e ≡ 0 → own ≡ 0 → asked_by words e turning own ≡ false
unfolding asked_by
nothing_asked_lem words e turning own z o =
    let none : bit_and e turning ≡ 0 = ap (λ (x : ℕ). bit_and x turning) z ∙ and_zero_l turning in
    ap (λ (b : Bool). b || free_from mask_digits 0 words e own) (le-ltb 0 (bit_and e turning) (omega arith)) ∙ ap (free_from mask_digits 0 words e) o ∙ free_none mask_digits 0 words e

-- and the label is good
nothing_good : (words : List ℕ) (s : Left) → Nothing s → left_label words s ≡ good
unfolding left_label
nothing_good words s n =
    let own : accepting words s ≡ 0 = ap (λ (x : ℕ). bit_and x (get_or words accepting_directives 0)) n.no_directive ∙ and_zero_l (get_or words accepting_directives 0) in
    let other : bit_xor s.directives (accepting words s) ≡ 0 = (λ i. bit_xor (n.no_directive i) (own i)) in
    sym (label_nothing _ _ _ _ _ (nothing_asked_lem words _ _ _ n.no_exception own) (nothing_asked_lem words _ _ _ n.no_exception other) n.no_rule)

nothing_steps : (w : Chart) (field : ℕ) (s : Left) (strip : ℕ) → Nothing s → Nothing (step w field s strip)
unfolding left_at
nothing_steps w field s strip n =
    record {
      no_rule = gone s.rules (spot field strip) n.no_rule;
      no_directive = gone s.directives (spot field strip + 1) n.no_directive;
      no_exception = gone s.exceptions (spot field strip + 2) n.no_exception;
    }
  where
    gone : (x j : ℕ) → x ≡ 0 → bit_and x (get_or w.words j 0) ≡ 0
    gone x j e = ap (λ (y : ℕ). bit_and y (get_or w.words j 0)) e ∙ and_zero_l (get_or w.words j 0)

-- and so everywhere below
pub nothing_below : (w : Chart) (field : ℕ) (s : Left) (cell : List ℕ) → Nothing s → cell_label w field s cell ≡ good
nothing_below w field s [] n = nothing_good w.words s n
nothing_below w field s (strip ∷ cell) n = nothing_below w (field + 1) (step w field s strip) cell (nothing_steps w field s strip n)

module _ (w : Chart) (field : ℕ) where
  -- the fields from a field on, opened
  pub below_none : field ≡ length w.counts → below w field ≡ []
  below_none e = drop_of_length-le w.counts {i = field} (omega arith)

  pub below_more : field < length w.counts → below w field ≡ get_or w.counts field 0 ∷ below w (field + 1)
  below_more h = rw (add-one field) (drop-cons w.counts field 0 h)

  module _ (a b : Left) where
    pub same_if_equal : a ≡ b → Same w field a b
    same_if_equal e p i = ap (λ (s : Left). cell_label w field s p) e

    pub same_if_nothing : Nothing a × Nothing b → Same w field a b
    same_if_nothing n p i = nothing_below w field a p n.0 ∙ sym (nothing_below w field b p n.1)

    -- where no field is left, the labels decide
    pub same_last : field ≡ length w.counts → left_label w.words a ≡ left_label w.words b → Same w field a b
    same_last e l = subst (λ (ns : List ℕ). Agree ns (cell_label w field a) (cell_label w field b)) (sym (below_none e)) only
      where
        only : Agree [] (cell_label w field a) (cell_label w field b)
        only p range_none = l

    pub differ_last : field ≡ length w.counts → ¬ (left_label w.words a ≡ left_label w.words b) → ¬ Same w field a b
    differ_last e l s = l (subst (λ (ns : List ℕ). Agree ns (cell_label w field a) (cell_label w field b)) (below_none e) s [] range_none)

    -- else the strips of the field do
    pub same_strips : field < length w.counts
        → ((strip : ℕ) → strip < get_or w.counts field 0 → Same w (field + 1) (step w field a strip) (step w field b strip))
        → Same w field a b
    same_strips h each = subst (λ (ns : List ℕ). Agree ns (cell_label w field a) (cell_label w field b)) (sym (below_more h)) all
      where
        all : Agree (get_or w.counts field 0 ∷ below w (field + 1)) (cell_label w field a) (cell_label w field b)
        all p (range_more {x = strip} {p = q} l i) = each strip l q i

    pub differ_strip : (strip : ℕ) → field < length w.counts → strip < get_or w.counts field 0
        → ¬ Same w (field + 1) (step w field a strip) (step w field b strip)
        → ¬ Same w field a b
    differ_strip strip h l d s =
        d (agree_at (subst (λ (ns : List ℕ). Agree ns (cell_label w field a) (cell_label w field b)) (below_more h) s) strip l)
