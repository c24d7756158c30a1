-- Laws of equal bytes. Assumes nothing.
use mathlib.Core.Bool.{Bool, true, false, ◌&&◌, and-false}
use mathlib.Core.List.{List, [], ◌∷◌}
use mathlib.Core.Path.{◌≡◌, refl, ap, ap₂, sym, ◌∙◌}
use native.Mathlib.Numerals.{add-one}
use Prim.Native.Nat.{ℕ, suc, ◌+◌, ◌≤◌, ◌<◌}
use lib.Dec.{eqb}
use lib.ListN.{length, drop, get_or, drop_of_length-le}
use lib.Seq.{drop-cons}
use Rattle.parts.specs.Parts.{same}

-- other lengths, other bytes
pub same_length : (s w : List ℕ) → (length s ≡ length w → ⊥) → same s w ≡ false
same_length [] [] ne = absurd (ne refl)
same_length [] (y ∷ ys) ne = refl
same_length (x ∷ xs) [] ne = refl
same_length (x ∷ xs) (y ∷ ys) ne = ap (λ (b : Bool). eqb x y && b) (same_length xs ys (λ e. ne (ap suc e))) ∙ and-false (eqb x y)

-- past both ends, and at a place of both
pub same_end : (s w : List ℕ) (i : ℕ) → length s ≤ i → length w ≤ i → same (drop i s) (drop i w) ≡ true
same_end s w i h k = ap₂ same (drop_of_length-le s h) (drop_of_length-le w k)

pub same_at : (s w : List ℕ) (i : ℕ) → i < length s → i < length w → same (drop i s) (drop i w) ≡ (eqb (get_or s i 0) (get_or w i 0) && same (drop (i + 1) s) (drop (i + 1) w))
same_at s w i h k =
    ap₂ same (drop-cons s i 0 h) (drop-cons w i 0 k) ∙ ap (λ (j : ℕ). eqb (get_or s i 0) (get_or w i 0) && same (drop j s) (drop j w)) (sym (add-one i))
