-- Octet by octet.
use mathlib.Core.Path.{ap}
use Rattle.putting.proofs.Putting.{on_same, on_then}
use Rattle.putting.specs.Spelling.{decimal, quad}
use Rattle.putting.proofs.Output.put_quad.Goals as goal

pub returns : goal.returns
unfolding quad
returns c = on_then (on_same (ap decimal c.from.ensures) c.put_decimal.ensures) (on_then c.put_octet.ensures (on_then c.put_octet-2.ensures c.put_octet-3.ensures))
