-- The marks of the directives from which an exception takes the packet, exception by exception. Assumes nothing.
use mathlib.Core.Bool.{Bool, true, false, ◌&&◌, ◌||◌, cond, and-true, and-false, or-true, or-false, or_assoc}
use mathlib.Core.List.{List, [], ◌∷◌}
use mathlib.Core.Path.{◌≡◌, refl, sym, ap, ◌∙◌}
use native.Mathlib.Decide.{ℕ_discrete}
use native.Mathlib.Omega.{arith}
use Prim.Native.Nat.{ℕ, ◌+◌, ◌≤◌, ◌<◌}
use borrow.Author.Tests.{eq-eqb, ne_eqb, leb-true, leb-false}
use lib.Dec.{leb, eqb}
use lib.ListN.{length, get_or, set, replicate, length-set, get_or-replicate, length-replicate}
use lib.Seq.{get_or-set_same, get_or-set_other}
use Rattle.meaning.specs.Blocks.{Block, holds}
use Rattle.meaning.specs.Fields.{Packet}
use Rattle.meaning.specs.Form.{Exception, naming, most_directives}
use Rattle.meaning.specs.Records.{some_of}
use Rattle.labels.specs.Inner.{excepted_directive}

module _ (p : Packet) where
  -- an exception among these names n and holds p
  abbrev pub excepted_among : ℕ → List Exception → Bool
  excepted_among n es = some_of (λ (b : Block). holds b p) (naming n es)

  excepted_more : (n : ℕ) (e : Exception) (es : List Exception) → excepted_among n (e ∷ es) ≡ (eqb e.directive n && holds e.block p || excepted_among n es)
  unfolding naming some_of
  excepted_more n e es = by_test (eqb e.directive n)
    where
      by_test : (t : Bool)
          → some_of (λ (b : Block). holds b p) (cond t (e.block ∷ naming n es) (naming n es)) ≡ (t && holds e.block p || excepted_among n es)
      by_test true = refl
      by_test false = refl

  -- for a directive's number it comes to the same: the exception names it and holds p, or it is the directive marked
  named_and_held : (n : ℕ) (e : Exception) → 1 ≤ n → n ≤ most_directives → (eqb e.directive n && holds e.block p) ≡ eqb (excepted_directive p e) n
  named_and_held n e one most = by_tests (holds e.block p) (leb e.directive most_directives) refl
    where
      none : false ≡ eqb 0 n
      none = sym (ne_eqb 0 n (λ z. omega arith))

      by_tests : (h t : Bool) → leb e.directive most_directives ≡ t → (eqb e.directive n && h) ≡ eqb (cond (h && t) e.directive 0) n
      by_tests true true few = and-true (eqb e.directive n)
      by_tests true false many =
          let more : most_directives < e.directive = leb-false e.directive most_directives many in
          ap (λ (b : Bool). b && true) (ne_eqb e.directive n (λ z. omega arith)) ∙ none
      by_tests false t few = and-false (eqb e.directive n) ∙ none

  pub excepted_within : (e : Exception) → excepted_directive p e ≤ most_directives
  excepted_within e = by_tests (holds e.block p) (leb e.directive most_directives) refl
    where
      by_tests : (h t : Bool) → leb e.directive most_directives ≡ t → cond (h && t) e.directive 0 ≤ most_directives
      by_tests true true few = let most : e.directive ≤ most_directives = leb-true e.directive most_directives few in omega arith
      by_tests true false many = omega arith
      by_tests false t few = omega arith

  mark_set : (marks : List Bool) (k n : ℕ) → k < length marks → get_or (set marks k true) n false ≡ (get_or marks n false || eqb k n)
  mark_set marks k n h = elim (ℕ_discrete n k) [ yes e ↦ this e | no d ↦ other d ]
    where
      this : n ≡ k → get_or (set marks k true) n false ≡ (get_or marks n false || eqb k n)
      this e =
          let now = ap (λ (j : ℕ). get_or (set marks k true) j false) e ∙ get_or-set_same marks k true false h in
          now ∙ sym (ap (λ (b : Bool). get_or marks n false || b) (eq-eqb k n (sym e)) ∙ or-true (get_or marks n false))

      other : ¬ (n ≡ k) → get_or (set marks k true) n false ≡ (get_or marks n false || eqb k n)
      other d =
          let as_before = ap (λ (b : Bool). get_or marks n false || b) (ne_eqb k n (λ e. d (sym e))) ∙ or-false (get_or marks n false) in
          get_or-set_other marks k n true false d ∙ sym as_before

  -- what is marked, and what those left are yet to mark, is together what all mark
  pub record Marked (all left : List Exception) (marks : List Bool) : Type 0 where
    pub full : length marks ≡ most_directives
    pub at : (n : ℕ) → n < most_directives → (get_or marks n false || excepted_among (n + 1) left) ≡ excepted_among (n + 1) all

  pub marked_start : (es : List Exception) → Marked es es (replicate most_directives false)
  marked_start es =
      record {
        full = length-replicate most_directives false;
        at = λ n few. ap (λ (b : Bool). b || excepted_among (n + 1) es) (get_or-replicate most_directives n false false few);
      }

  -- an exception more, of which `named` is the directive that it takes the packet from, or 0
  module _ (all : List Exception) (e : Exception) (left : List Exception) (marks : List Bool) (m : Marked all (e ∷ left) marks) where
    more : (n : ℕ) → n < most_directives
        → (get_or marks n false || eqb (excepted_directive p e) (n + 1) || excepted_among (n + 1) left) ≡ excepted_among (n + 1) all
    more n few =
        or_assoc (get_or marks n false) (eqb (excepted_directive p e) (n + 1)) (excepted_among (n + 1) left)
        ∙ ap (λ (b : Bool). get_or marks n false || (b || excepted_among (n + 1) left)) (sym (named_and_held (n + 1) e (omega arith) (omega arith)))
        ∙ ap (λ (b : Bool). get_or marks n false || b) (sym (excepted_more (n + 1) e left))
        ∙ m.at n few

    pub marked_none : 0 ≡ excepted_directive p e → Marked all left marks
    marked_none none =
        record {
          full = m.full;
          at = λ n few. ap (λ (b : Bool). b || excepted_among (n + 1) left) (sym (as_before n)) ∙ more n few;
        }
      where
        as_before : (n : ℕ) → (get_or marks n false || eqb (excepted_directive p e) (n + 1)) ≡ get_or marks n false
        as_before n =
            ap (λ (b : Bool). get_or marks n false || b) (ne_eqb (excepted_directive p e) (n + 1) (λ z. omega (arith, none)))
            ∙ or-false (get_or marks n false)

    pub marked_some : (k : ℕ) → k + 1 ≡ excepted_directive p e → Marked all left (set marks k true)
    marked_some k named =
        record {
          full = length-set marks k true ∙ m.full;
          at = λ n few.
              ap (λ (b : Bool). b || excepted_among (n + 1) left)
              (mark_set marks k n (omega (arith, m.full, excepted_within e, named)) ∙ ap (λ (b : Bool). get_or marks n false || b) (same n))
              ∙ more n few;
        }
      where
        same : (n : ℕ) → eqb k n ≡ eqb (excepted_directive p e) (n + 1)
        same n =
            elim (ℕ_discrete k n) [
              | yes h ↦ eq-eqb k n h ∙ sym (eq-eqb (excepted_directive p e) (n + 1) (omega (arith, named)))
              | no h ↦ ne_eqb k n h ∙ sym (ne_eqb (excepted_directive p e) (n + 1) (λ z. h (omega (arith, named))))
            ]

  pub marked_end : (all : List Exception) (marks : List Bool) → Marked all [] marks
      → (n : ℕ) → n < most_directives → get_or marks n false ≡ excepted_among (n + 1) all
  unfolding some_of naming
  marked_end all marks m n few = sym (or-false (get_or marks n false)) ∙ m.at n few
