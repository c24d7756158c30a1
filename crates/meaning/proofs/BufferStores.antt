-- Numbers stored one behind the other. Assumes nothing.
use mathlib.Core.Path.{◌≡◌, refl, sym, ap, ◌∙◌}
use mathlib.Core.List.{List, [], ◌∷◌, ◌++◌}
use Prim.Native.Nat.{ℕ, zero, suc, ◌+◌, ◌≤◌}
use native.Mathlib.Nat.{add-zero, add-suc, suc-add}
use native.Mathlib.Omega.{arith}
use lib.ListN.{length, take, set}
use lib.Seq.{sets, length-take-le}

-- one run of stores behind another
pub sets_append : (xs ys l : List ℕ) (i : ℕ) → sets l i (xs ++ ys) ≡ sets (sets l i xs) (i + length xs) ys
sets_append [] ys l i = ap (λ (k : ℕ). sets l k ys) (sym (add-zero i))
sets_append (x ∷ xs) ys l i =
    sets_append xs ys (set l i x) (suc i)
    ∙ ap (λ (k : ℕ). sets (sets (set l i x) (suc i) xs) k ys) (suc-add i (length xs) ∙ sym (add-suc i (length xs)))

-- one number more of a list is stored
pub sets_more : (l vs : List ℕ) (i k x : ℕ) → k ≤ length vs → take (k + 1) vs ≡ take k vs ++ (x ∷ [])
    → set (sets l i (take k vs)) (i + k) x ≡ sets l i (take (k + 1) vs)
sets_more l vs i k x within one_more =
    let long : length (take k vs) ≡ k = length-take-le k vs within in
    sym
    (ap (sets l i) one_more ∙ sets_append (take k vs) (x ∷ []) l i
    ∙ ap (λ (n : ℕ). set (sets l i (take k vs)) (i + n) x) long)

-- past the end of a list nothing is stored
set_past : (l : List ℕ) (i x : ℕ) → length l ≤ i → set l i x ≡ l
set_past [] i x h = refl
set_past (y ∷ l) zero x h = absurd (omega (arith, h))
set_past (y ∷ l) (suc i) x h = ap (λ (r : List ℕ). y ∷ r) (set_past l i x (omega arith))

pub sets_past : (vs l : List ℕ) (i : ℕ) → length l ≤ i → sets l i vs ≡ l
sets_past [] l i h = refl
sets_past (x ∷ vs) l i h = ap (λ (r : List ℕ). sets r (suc i) vs) (set_past l i x h) ∙ sets_past vs l (suc i) (omega arith)
