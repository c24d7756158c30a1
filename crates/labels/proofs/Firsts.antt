-- The first record that passes a test, by its place. Assumes nothing.
use mathlib.Core.Bool.{Bool, true, false, cond}
use mathlib.Core.List.{List, [], ◌∷◌, map}
use mathlib.Core.Path.{◌≡◌, refl, sym, ap, ◌∙◌}
use native.Mathlib.Numerals.{add-one}
use native.Mathlib.Omega.{arith}
use Prim.Native.Nat.{ℕ, suc, ◌+◌, ◌-◌, ◌≤◌}
use lib.ListN.{get_or}
use Rattle.std.specs.Prelude.{Some, None}
use Rattle.std.specs.List.{position_from}
use Rattle.meaning.specs.Records.{nothing, found, first_from}

module _ {A B : Type 0} (f : A → B) (test : B → Bool) where
  abbrev at : A → Bool
  at x = test (f x)

  pub first_none : (k : ℕ) (l : List A) → position_from at k l ≡ None → first_from (k + 1) test (map f l) ≡ nothing
  unfolding first_from
  first_none k [] e = refl
  first_none k (x ∷ l) e = by (first_none (k + 1) l) (test (f x)) refl e
    where
      by : (position_from at (k + 1) l ≡ None → first_from (k + 1 + 1) test (map f l) ≡ nothing)
          → (b : Bool) → test (f x) ≡ b → cond b (Some k) (position_from at (k + 1) l) ≡ None
          → cond (test (f x)) (found (k + 1) (f x)) (first_from (suc (k + 1)) test (map f l)) ≡ nothing
      by later true t h = cc
      by later false t h = simp t (ap (λ (n : ℕ). first_from n test (map f l)) (sym (add-one (k + 1))) ∙ later h)

  pub first_some : (k i : ℕ) (l : List A) (d : A) → position_from at k l ≡ Some i
      → (k ≤ i) × (first_from (k + 1) test (map f l) ≡ found (i + 1) (f (get_or l (i - k) d)))
  unfolding first_from
  first_some k i [] d e = cc
  first_some k i (x ∷ l) d e = by (first_some (k + 1) i l d) (test (f x)) refl e
    where
      by : (position_from at (k + 1) l ≡ Some i → (k + 1 ≤ i) × (first_from (k + 1 + 1) test (map f l) ≡ found (i + 1) (f (get_or l (i - (k + 1)) d))))
          → (b : Bool) → test (f x) ≡ b → cond b (Some k) (position_from at (k + 1) l) ≡ Some i
          → (k ≤ i) × (cond (test (f x)) (found (k + 1) (f x)) (first_from (suc (k + 1)) test (map f l)) ≡ found (i + 1) (f (get_or (x ∷ l) (i - k) d)))
      by left true t h =
          let same : k ≡ i = cc in
          let none : 0 ≡ i - k = omega arith in
          (omega arith, simp t (ap (λ (n : ℕ). found (n + 1) (f x)) same ∙ ap (λ (n : ℕ). found (i + 1) (f (get_or (x ∷ l) n d))) none))
      by left false t h =
          let later = left h in
          let less : suc (i - (k + 1)) ≡ i - k = omega (arith, later.0) in (
            omega (arith, later.0),
            simp t
                (ap (λ (n : ℕ). first_from n test (map f l)) (sym (add-one (k + 1)))
                ∙ later.1
                ∙ ap (λ (n : ℕ). found (i + 1) (f (get_or (x ∷ l) n d))) less),
          )
