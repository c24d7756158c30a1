-- The first field, the others, the line's end.
use Rattle.putting.proofs.Putting.{on_then}
use Rattle.printing.proofs.put_line.Goals as goal

pub returns : goal.returns
returns c = on_then c.put_bytes.ensures (on_then c.put_fields.ensures.fields c.put_byte.ensures)
