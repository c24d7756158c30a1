-- The first record that passes a test: its number, and that none before it passes. Assumes nothing.
use mathlib.Core.Path.{◌≡◌, refl, ◌∙◌, ap, subst}
use mathlib.Core.Bool.{Bool, true, false, ◌||◌, cond}
use mathlib.Core.List.{List, [], ◌∷◌}
use mathlib.Core.Option.{some, some-injective, none-ne-some}
use Prim.Native.Nat.{ℕ, zero, suc, ◌+◌, ◌≤◌, ◌<◌}
use native.Mathlib.Omega.{arith}
use lib.Dec.{T}
use lib.ListN.{length, get_elem?}
use Rattle.meaning.specs.Records.{numbered, some_of, all_of, nothing, found, first_from, first}
use Rattle.meaning.proofs.Tests.{passed, failed, passes, tested, left, right}

module _ {A : Type 0} (test : A → Bool) where
  -- by places, counted from 0, where the first record has the number n
  abbrev NonePlaced : List A → ℕ → Type 0
  NonePlaced xs k = (j : ℕ) (y : A) → j < k → get_elem? xs j ≡ some y → ¬ T (test y)

  data Scanned (n : ℕ) (xs : List A) : Type 0 where
    scanned_none : first_from n test xs ≡ nothing → some_of test xs ≡ false → ((k : ℕ) → NonePlaced xs k) → Scanned n xs
    scanned_at : (k : ℕ) (x : A) → first_from n test xs ≡ found (n + k) x → some_of test xs ≡ true → get_elem? xs k ≡ some x → T (test x)
        → NonePlaced xs k → Scanned n xs

  none_first : (x : A) (xs : List A) (k : ℕ) → ¬ T (test x) → NonePlaced xs k → NonePlaced (x ∷ xs) (suc k)
  none_first x xs k h before zero y l e = subst (λ (z : A). ¬ T (test z)) (some-injective x y e) h
  none_first x xs k h before (suc j) y l e = before j y (omega arith) e

  none_at_zero : (xs : List A) → NonePlaced xs 0
  none_at_zero xs j y l e = absurd (omega arith)

  found_here : (n : ℕ) (x : A) (xs : List A) → T (test x) → Scanned n (x ∷ xs)
  unfolding first_from some_of
  found_here n x xs t =
      let e = passed (test x) t in
      scanned_at 0 x
      (ap (λ (b : Bool). cond b (found n x) (first_from (suc n) test xs)) e ∙ ap (λ (m : ℕ). found m x) (omega arith))
      (ap (λ (b : Bool). b || some_of test xs) e)
      refl
      t
      (none_at_zero (x ∷ xs))

  found_later : (n : ℕ) (x : A) (xs : List A) → ¬ T (test x) → Scanned (suc n) xs → Scanned n (x ∷ xs)
  unfolding first_from some_of
  found_later n x xs h (scanned_none e s before) =
      let f = failed (test x) h in
      scanned_none (ap (λ (b : Bool). cond b (found n x) (first_from (suc n) test xs)) f ∙ e) (ap (λ (b : Bool). b || some_of test xs) f ∙ s) below
    where
      below : (k : ℕ) → NonePlaced (x ∷ xs) k
      below zero = none_at_zero (x ∷ xs)
      below (suc k) = none_first x xs k h (before k)
  found_later n x xs h (scanned_at k y e s at t before) =
      let f = failed (test x) h in
      scanned_at (suc k) y
      (ap (λ (b : Bool). cond b (found n x) (first_from (suc n) test xs)) f ∙ e ∙ ap (λ (m : ℕ). found m y) (omega arith))
      (ap (λ (b : Bool). b || some_of test xs) f ∙ s)
      at
      t
      (none_first x xs k h before)

  scan : (n : ℕ) (xs : List A) → Scanned n xs
  unfolding first_from some_of
  scan n [] = scanned_none refl refl (λ k j y l e. absurd (none-ne-some y e))
  scan n (x ∷ xs) = elim (tested (test x)) [ yes t ↦ found_here n x xs t | no h ↦ found_later n x xs h (scan (suc n) xs) ]

  -- by numbers: no record below number i passes
  abbrev pub NoneBelow : List A → ℕ → Type 0
  NoneBelow xs i = (j : ℕ) (y : A) → j < i → numbered xs j ≡ some y → ¬ T (test y)

  pub data First (xs : List A) : Type 0 where
    first_none : first test xs ≡ nothing → ¬ T (some_of test xs) → ((i : ℕ) → NoneBelow xs i) → First xs
    first_at : (i : ℕ) (x : A) → first test xs ≡ found i x → T (some_of test xs) → numbered xs i ≡ some x → T (test x) → NoneBelow xs i → First xs

  below_number : (xs : List A) (k : ℕ) → NonePlaced xs k → NoneBelow xs (suc k)
  unfolding numbered
  below_number xs k before zero y l e = absurd (none-ne-some y e)
  below_number xs k before (suc j) y l e = before j y (omega arith) e

  pub first_cases : (xs : List A) → First xs
  unfolding numbered
  first_cases xs = from (scan 1 xs)
    where
      from : Scanned 1 xs → First xs
      from (scanned_none e s before) = first_none e (λ t. rw s at t) (λ i j y l. below_number xs i (before i) j y (omega arith))
      from (scanned_at k x e s at t before) = first_at (suc k) x (e ∙ ap (λ (n : ℕ). found n x) (omega arith)) (passes (some_of test xs) s) at t (below_number xs k before)

module _ {A : Type 0} where
  place_within : (xs : List A) (k : ℕ) (x : A) → get_elem? xs k ≡ some x → k < length xs
  place_within [] k x e = absurd (none-ne-some x e)
  place_within (y ∷ xs) zero x e = omega arith
  place_within (y ∷ xs) (suc k) x e = omega (arith, place_within xs k x e)

  -- a record's number runs from 1 to the count
  pub number_within : (xs : List A) (i : ℕ) (x : A) → numbered xs i ≡ some x → (1 ≤ i) × (i ≤ length xs)
  unfolding numbered
  number_within xs zero x e = absurd (none-ne-some x e)
  number_within xs (suc k) x e = (omega arith, place_within xs k x e)

-- tests that come out the same on every record find the same
module _ {A : Type 0} (ok test other : A → Bool) (same : (x : A) → T (ok x) → test x ≡ other x) where
  pub some_same : (xs : List A) → T (all_of ok xs) → some_of test xs ≡ some_of other xs
  unfolding some_of all_of
  some_same [] t = refl
  some_same (x ∷ xs) t = rw (same x (left (ok x) (all_of ok xs) t), some_same xs (right (ok x) (all_of ok xs) t))

  pub first_same : (n : ℕ) (xs : List A) → T (all_of ok xs) → first_from n test xs ≡ first_from n other xs
  unfolding first_from all_of
  first_same n [] t = refl
  first_same n (x ∷ xs) t = rw (same x (left (ok x) (all_of ok xs) t), first_same (suc n) xs (right (ok x) (all_of ok xs) t))
