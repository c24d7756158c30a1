-- The mask of records within a count, where a record stands for its f. Assumes nothing.
use mathlib.Core.Path.{◌≡◌, sym, ap, ◌∙◌}
use mathlib.Core.Bool.{Bool}
use mathlib.Core.List.{List, map}
use Prim.Native.Nat.{ℕ}
use lib.ListN.{take}
use Rattle.std.proofs.lemmas.List.{take-map}
use Rattle.layout.specs.Masks.{mask}
use Rattle.layout.proofs.MaskLaws.{mask_map}

pub mask_within : {A B : Type 0} (f : A → B) (test : B → Bool) (records : List A) (count : ℕ) {m : ℕ}
    → m ≡ mask (λ (a : A). test (f a)) (take count records)
    → m ≡ mask test (take count (map f records))
mask_within f test records count is_mask = is_mask ∙ sym (mask_map test f (take count records)) ∙ sym (ap (mask test) (take-map f count records))
