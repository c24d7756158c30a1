-- Lists of records, numbered from 1.
use Rattle.std.specs.Prelude.{Bool, true, false, ◌&&◌, ◌||◌, cond, List, [], ◌∷◌, ℕ, zero, suc}
use Rattle.std.proofs.Math.Option.{Option, none}
use Rattle.std.proofs.Math.ListN.{get_elem?}

module _ {A : Type 0} where
  -- record i of the list, if there is one
  unfoldable pub numbered : List A → ℕ → Option A
  numbered xs zero = none
  numbered xs (suc i) = get_elem? xs i

  -- some record passes the test
  unfoldable pub some_of : (A → Bool) → List A → Bool
  some_of test [] = false
  some_of test (x ∷ xs) = test x || some_of test xs

  -- every record passes the test
  unfoldable pub all_of : (A → Bool) → List A → Bool
  all_of test [] = true
  all_of test (x ∷ xs) = test x && all_of test xs

  -- P holds of every record
  pub data Every (P : A → Type 0) : List A → Type 0 where
    every_none : Every P []
    every_more : {x : A} {xs : List A} → P x → Every P xs → Every P (x ∷ xs)

-- a record with its number, or nothing
pub data Found (A : Type 0) : Type 0 where
  nothing : Found A
  found : ℕ → A → Found A

module _ {A : Type 0} where
  -- the first record that passes the test, where the list's first has the number n
  unfoldable pub first_from : ℕ → (A → Bool) → List A → Found A
  first_from n test [] = nothing
  first_from n test (x ∷ xs) = cond (test x) (found n x) (first_from (suc n) test xs)

  -- the lowest-numbered record that passes the test
  abbrev pub first : (A → Bool) → List A → Found A
  first test xs = first_from 1 test xs

  -- its number, or 0
  unfoldable pub number_of : Found A → ℕ
  number_of nothing = 0
  number_of (found n x) = n
