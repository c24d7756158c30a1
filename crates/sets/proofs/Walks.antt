-- A walk over the records within a count, record by record, or over a slice of them: what is left at i. One law for every kind of record.
-- Assumes nothing.
use mathlib.Core.Bool.{Bool, true, false}
use mathlib.Core.List.{List, [], ◌∷◌, map}
use mathlib.Core.Option.{none, some}
use mathlib.Core.Path.{◌≡◌, refl, sym, ap, ◌∙◌}
use native.Mathlib.Numerals.{add-one}
use native.Mathlib.Omega.{arith}
use Prim.Native.Nat.{ℕ, zero, suc, ◌+◌, ◌-◌, ◌≤◌, ◌<◌, min}
use lib.ListN.{length, take, drop, get_or, get_elem?, length-map, length-take, drop_of_length-le, get_or-map}
use lib.Seq.{drop-cons, get_or-take}
use Rattle.meaning.specs.Records.{numbered, all_of}

module _ {A : Type 0} where
  element : (xs : List A) (i : ℕ) (d : A) → i < length xs → get_elem? xs i ≡ some (get_or xs i d)
  element [] i d h = absurd (omega arith)
  element (x ∷ xs) zero d h = refl
  element (x ∷ xs) (suc i) d h = element xs i d (omega arith)

  no_element : (xs : List A) (i : ℕ) → length xs ≤ i → get_elem? xs i ≡ none
  no_element [] i h = refl
  no_element (x ∷ xs) zero h = absurd (omega arith)
  no_element (x ∷ xs) (suc i) h = no_element xs i (omega arith)

  past : (xs : List A) (i : ℕ) → length xs < i → numbered xs i ≡ none
  unfolding numbered
  past xs zero h = refl
  past xs (suc i) h = no_element xs i (omega arith)

module _ {A B : Type 0} (f : A → B) (l : List A) (n : ℕ) where
  taken : length (take n (map f l)) ≡ min n (length l)
  taken = length-take n (map f l) ∙ ap (min n) (length-map l f)

  -- a record is left
  pub next : (i : ℕ) (d : A) → i < n → i < length l → drop i (take n (map f l)) ≡ f (get_or l i d) ∷ drop (i + 1) (take n (map f l))
  next i d h k =
      let within : i < length (take n (map f l)) = omega (arith, taken) in
      drop-cons (take n (map f l)) i (f d) within
      ∙ (λ j. (get_or-take n (map f l) i (f d) h ∙ get_or-map f l i d) j ∷ drop (sym (add-one i) j) (take n (map f l)))

  -- none is left
  pub over : (i : ℕ) → min n (length l) ≤ i → drop i (take n (map f l)) ≡ []
  over i h =
      let past : length (take n (map f l)) ≤ i = omega (arith, taken) in
      drop_of_length-le (take n (map f l)) past

  -- the record numbered k, and none past the last
  pub at_number : (k : ℕ) (d : A) → 1 ≤ k → k ≤ n → k ≤ length l → numbered (take n (map f l)) k ≡ some (f (get_or l (k - 1) d))
  unfolding numbered
  at_number zero d one h m = absurd (omega arith)
  at_number (suc i) d one h m =
      let within : i < length (take n (map f l)) = omega (arith, taken) in
      let less : i ≡ suc i - 1 = omega arith in
      element (take n (map f l)) i (f d) within
      ∙ ap some (get_or-take n (map f l) i (f d) (omega arith) ∙ get_or-map f l i d ∙ ap (λ (j : ℕ). f (get_or l j d)) less)

  pub past_number : (k : ℕ) → min n (length l) < k → numbered (take n (map f l)) k ≡ none
  past_number k h =
      let beyond : length (take n (map f l)) < k = omega (arith, taken) in
      past (take n (map f l)) k beyond

  module _ (test : B → Bool) where
    -- a test of all that are left, where the next passes, does not pass, or is none
    pub all_next : (i : ℕ) (d : A) → i < n → i < length l → test (f (get_or l i d)) ≡ true
        → all_of test (drop i (take n (map f l))) ≡ all_of test (drop (i + 1) (take n (map f l)))
    unfolding all_of
    all_next i d h k e = ap (all_of test) (next i d h k) ∙ simp e

    pub all_stop : (i : ℕ) (d : A) → i < n → i < length l → test (f (get_or l i d)) ≡ false → all_of test (drop i (take n (map f l))) ≡ false
    unfolding all_of
    all_stop i d h k e = ap (all_of test) (next i d h k) ∙ simp e

    pub all_over : (i : ℕ) → min n (length l) ≤ i → all_of test (drop i (take n (map f l))) ≡ true
    unfolding all_of
    all_over i h = ap (all_of test) (over i h)

-- the same of the records that a slice holds: a record is left, and none is left
module _ {A B : Type 0} (f : A → B) (l : List A) (i : ℕ) where
  pub slice_next : (d : A) → i < length l → map f (drop i l) ≡ f (get_or l i d) ∷ map f (drop (i + 1) l)
  slice_next d there = ap (map f) (drop-cons l i d there ∙ (λ j. get_or l i d ∷ drop (sym (add-one i) j) l))

  pub slice_over : length l ≤ i → map f (drop i l) ≡ []
  slice_over past = ap (map f) (drop_of_length-le l past)

-- what owning an array of records tells of its list
pub length_of_map : (A B : Type 0) (f : A → B) (l : List A) (n : ℕ) → length (map f l) ≡ n → length l ≡ n
length_of_map A B f l n e = sym (length-map l f) ∙ e
