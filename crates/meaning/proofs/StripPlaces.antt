-- A cut from places that a test finds rising. Assumes nothing.
use mathlib.Core.Path.{◌≡◌}
use mathlib.Core.Bool.{Bool, true, ◌&&◌}
use mathlib.Core.List.{List, [], ◌∷◌}
use Prim.Native.Nat.{ℕ, zero, suc, ◌<◌}
use native.Mathlib.Omega.{arith}
use lib.Dec.{T, ltb, ltb→lt}
use lib.ListN.{length, get_or}
use Rattle.meaning.specs.Strips.{Cut}
use Rattle.meaning.proofs.Tests.{left, right}

-- the places rise, and stay below n
unfoldable pub rising_below : ℕ → List ℕ → Bool
rising_below n [] = true
rising_below n (x ∷ []) = ltb x n
rising_below n (x ∷ y ∷ xs) = ltb x y && rising_below n (y ∷ xs)

pub rising_below_lem : (n : ℕ) (xs : List ℕ) → T (rising_below n xs) → (i : ℕ) → i < length xs → get_or xs i n < get_or xs (suc i) n
unfolding rising_below
rising_below_lem n [] t i h = absurd (omega arith)
rising_below_lem n (x ∷ []) t zero h = ltb→lt x n t
rising_below_lem n (x ∷ []) t (suc i) h = absurd (omega arith)
rising_below_lem n (x ∷ y ∷ xs) t zero h = ltb→lt x y (left (ltb x y) (rising_below n (y ∷ xs)) t)
rising_below_lem n (x ∷ y ∷ xs) t (suc i) h = rising_below_lem n (y ∷ xs) (right (ltb x y) (rising_below n (y ∷ xs)) t) i (omega arith)

abbrev pub cut_by : (n : ℕ) (xs : List ℕ) → get_or xs 0 n ≡ 0 → T (rising_below n xs) → Cut
cut_by n xs e t = record { size = n; places = xs; from_zero = e; rising = rising_below_lem n xs t }
