-- The places are found, and then their masks filled. Assumes nothing.
use mathlib.Core.Path.{subst, ◌∙◌}
use Prim.Native.Nat.{ℕ}
use Rattle.places.specs.Places.{PlacedField}
use Rattle.strips.proofs.Masking.{field_charted}
use Rattle.strips.proofs.chart_field.Goals as goal

pub returns : goal.returns
returns c =
    let args = c.args in
    let placed = c.place_field-count in
    let found =
    subst (λ (blocks : ℕ). PlacedField args.numbers.now args.field args.size blocks placed.new.places placed.result) c.all.ensures placed.ensures in
    field_charted found (placed.auto.places ∙ c.requires.numbers_len.2) c.mask_field.ensures
