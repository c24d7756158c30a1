-- A line that is skipped, by its first byte. Assumes nothing.
use mathlib.Core.Bool.{true}
use mathlib.Core.List.{List, [], ◌∷◌}
use mathlib.Core.Path.{◌≡◌, refl}
use native.Mathlib.Omega.{arith}
use Prim.Native.Nat.{ℕ}
use lib.Dec.{eqb}
use lib.ListN.{length, get_or}
use Rattle.records.specs.Records.{skipped}

pub skipped_none : (line : List ℕ) → length line ≡ 0 → skipped line ≡ true
skipped_none [] e = refl
skipped_none (x ∷ xs) e = absurd (omega arith)

pub skipped_some : (line : List ℕ) → (length line ≡ 0 → ⊥) → skipped line ≡ eqb (get_or line 0 0) 35
skipped_some [] some = absurd (some refl)
skipped_some (x ∷ xs) some = refl
