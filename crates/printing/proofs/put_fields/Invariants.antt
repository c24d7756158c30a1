-- It puts field by field.
use mathlib.Core.List.{map}
use lib.ListN.{take}
use Rattle.printing.specs.Inner.{PutFields, spelled}
use Rattle.printing.proofs.put_fields.Given as goal

abbrev pub invariant-loop-field : goal.invariant-loop-field
invariant-loop-field l = PutFields l.initial.output (map spelled (take l.field-index l.fields)) l.output
