-- It puts a dot, then the octet.
use mathlib.Core.Path.{ap}
use Rattle.putting.proofs.Putting.{on_same, on_then}
use Rattle.putting.specs.Spelling.{decimal}
use Rattle.putting.proofs.Output.put_octet.Goals as goal

pub returns : goal.returns
returns c = on_then c.put_byte.ensures (on_same (ap decimal c.from.ensures) c.put_decimal.ensures)
