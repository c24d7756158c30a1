-- The place of the strip, and the number before the place of the next.
use mathlib.Core.Path.{sym}
use native.Mathlib.Omega.{arith}
use Rattle.lister.proofs.RowLaws.{span_until}
use Rattle.lister.proofs.span_of.Goals as goal

pub returns : goal.returns
returns c = sym (span_until c.args.places.now c.args.field c.args.strip c.args.next (omega (arith, c.requires.next_in_bounds)))
