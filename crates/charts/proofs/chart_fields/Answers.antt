use mathlib.Core.Path.{◌∙◌}
use borrow.Author.Rules.{rules}
use Rattle.charts.proofs.FieldWalk.{fields_end, fields_more, masks_part, places_part}
use Rattle.charts.proofs.chart_fields.Goals as goal

pub loop-field-preserved : goal.loop-field-preserved
loop-field-preserved c =
    let below = c.loop-field-test.true in
    let w = c.loop-field.invariant in
    let filled = c.chart_field in
    fields_more _ _ _ _ _ _ _ _ _ _ _ below c.size_of.ensures filled.ensures (filled.auto.masks ∙ masks_part _ _ _ _ _ below w)
    (filled.auto.places ∙ places_part _ _ _ _ _ below w) (search rules) (search rules) w

pub returns : goal.returns
returns c = fields_end _ _ _ _ _ c.loop-field-test.false c.loop-field.invariant
