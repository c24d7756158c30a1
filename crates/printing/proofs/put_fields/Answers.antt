use mathlib.Core.List.{map}
use mathlib.Core.Path.{ap}
use lib.Seq.{take_all}
use Rattle.printing.specs.Inner.{spelled}
use Rattle.printing.proofs.Spacing.{no_fields, fields_more, fields_same}
use Rattle.printing.proofs.put_fields.Goals as goal

pub loop-field-init : goal.loop-field-init
loop-field-init c = no_fields _

pub loop-field-preserved : goal.loop-field-preserved
loop-field-preserved c = fields_more _ _ _ c.loop-field-test.true c.loop-field.invariant c.put_field.ensures

pub returns : goal.returns
returns c = fields_same (ap (map spelled) (take_all _ _ c.loop-field-test.false)) c.loop-field.invariant
