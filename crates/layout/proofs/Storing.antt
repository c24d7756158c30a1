-- Numbers stored one after the other. Assumes nothing.
use mathlib.Core.List.{List, ◌++◌, append_assoc}
use mathlib.Core.Path.{◌≡◌, sym, ap, ◌∙◌}
use Prim.Native.Nat.{ℕ, ◌+◌, ◌-◌, ◌≤◌, ◌<◌}
use native.Mathlib.Numerals.{add-one}
use native.Mathlib.Omega.{arith}
use lib.ListN.{length, get_or, take, drop, set}
use lib.Seq.{sets, sets-eq, take-suc, drop-drop}
use Rattle.meaning.proofs.BufferStores.{sets_more}

-- one more number of v is stored
pub number_stored : (l v : List ℕ) (at i : ℕ) → i < length v → set (sets l at (take i v)) (at + i) (get_or v i 0) ≡ sets l at (take (i + 1) v)
number_stored l v at i h = sets_more l v at i (get_or v i 0) (omega arith) (rw (add-one i) (take-suc v i 0 h))

-- numbers laid over a part of a list are stored there one after the other
pub laid_over : (l part numbers : List ℕ) (at : ℕ) → at + length numbers ≤ length l → part ≡ numbers
    → take at l ++ (part ++ drop (at + length numbers - at) (drop at l)) ≡ sets l at numbers
laid_over l part numbers at room same =
    let so_many : at + (at + length numbers - at) ≡ at + length numbers = omega arith in
    (λ i. take at l ++ (same i ++ (drop-drop (at + length numbers - at) at l ∙ ap (λ (k : ℕ). drop k l) so_many) i))
    ∙ sym (append_assoc (take at l) numbers (drop (at + length numbers) l))
    ∙ sym (sets-eq numbers l at room)
