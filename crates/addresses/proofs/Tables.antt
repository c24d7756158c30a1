-- A table of what a function gives, place by place: its rule, once over all entries. Assumes nothing.
use mathlib.Core.List.{List, [], ◌∷◌}
use mathlib.Core.Path.{◌≡◌, ap, ◌∙◌}
use native.Mathlib.Nat.{le_of_suc-le-suc, not-suc-le-zero}
use native.Mathlib.Omega.{arith}
use Prim.Native.Nat.{ℕ, zero, suc, ◌+◌, ◌<◌}
use lib.ListN.{get_or}

-- the values of f at n numbers from i on
abbrev pub tabled : (ℕ → ℕ) → ℕ → ℕ → List ℕ
tabled f i zero = []
tabled f i (suc n) = f i ∷ tabled f (suc i) n

pub entry : (f : ℕ → ℕ) (n i k : ℕ) → k < n → get_or (tabled f i n) k 0 ≡ f (i + k)
entry f zero i k h = absurd (not-suc-le-zero h)
entry f (suc n) i zero h = ap f (omega arith)
entry f (suc n) i (suc k) h = entry f n (suc i) k (le_of_suc-le-suc h) ∙ ap f (omega arith)
