-- On a strip of a field cut at its places no mask changes. Assumes nothing.
use mathlib.Core.List.{List, ◌++◌}
use mathlib.Core.Path.{◌≡◌}
use Prim.Native.Nat.{ℕ, suc, ◌≤◌, ◌<◌}
use Rattle.meaning.specs.Blocks.{Span}
use Rattle.meaning.specs.Strips.{strips, place}
use Rattle.meaning.proofs.RecordsEvery.{every_between}
use Rattle.layout.proofs.MaskLaws.{mask_same}
use Rattle.places.specs.Places.{PlacesOf}
use Rattle.places.proofs.PlacesCut.{places_cut, spans_constant}
use Rattle.strips.specs.Charts.{holding}

-- the mask of a run of the spans is the same at a number of a strip and at the place where the strip begins
pub holding_constant : (n : ℕ) (ss : List Span) (xs : List ℕ) (places : PlacesOf n ss xs) (i x : ℕ) → i < strips (places_cut n ss xs places)
    → place (places_cut n ss xs places) i ≤ x
    → x < place (places_cut n ss xs places) (suc i)
    → (before ts after : List Span)
    → ss ≡ before ++ ts ++ after
    → holding ts (place (places_cut n ss xs places) i) ≡ holding ts x
holding_constant n ss xs places i x h from to before ts after e =
    mask_same (every_between before ts after (rw e at (spans_constant n ss xs places i x h from to)))
