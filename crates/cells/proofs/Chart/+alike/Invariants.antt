-- It compares strip by strip, down to the labels.
use Prim.Native.Nat.{◌-◌}
use lib.ListN.{length}
use Rattle.cells.specs.Cells.{chart_of}
use Rattle.cells.proofs.Comparing.{Compared}
use Rattle.cells.proofs.Chart.+alike.Given as goal

abbrev pub invariant-loop-strip : goal.invariant-loop-strip
invariant-loop-strip l =
    Compared (chart_of l.self) l.field l.a l.b l.strip-end l.strip l.before.0 l.before.1

abbrev pub decreases-alike : goal.decreases-alike
decreases-alike l = length l.self.now.counts.now - l.field
