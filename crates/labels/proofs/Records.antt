-- The records within a count as a slice of their array holds them. Assumes nothing.
use mathlib.Core.List.{List, map}
use mathlib.Core.Path.{◌≡◌, sym, ap, ◌∙◌}
use Prim.Native.Nat.{ℕ, min}
use lib.ListN.{length, take}
use Rattle.std.proofs.lemmas.List.{take-map, take_min}

module _ {A B : Type 0} (f : A → B) where
  pub within_count : (l : List A) (n m most : ℕ) → length l ≡ most → m ≡ min n most → take n (map f l) ≡ map f (take m l)
  within_count l n m most full e =
      take-map f n l ∙ ap (map f) (sym (take_min n l)) ∙ ap (λ (k : ℕ). map f (take (min n k) l)) full ∙ ap (λ (k : ℕ). map f (take k l)) (sym e)
