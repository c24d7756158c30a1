-- Masks: sets of records as numbers, a binary digit for each record.
use Rattle.std.specs.Prelude.{Bool, cond, List, [], ◌∷◌, ℕ, ◌+◌, ◌*◌}

-- the records of a list that pass a test: the first record's digit is the lowest
unfoldable pub mask : {A : Type 0} → (A → Bool) → List A → ℕ
mask test [] = 0
mask test (x ∷ xs) = cond (test x) 1 0 + 2 * mask test xs
