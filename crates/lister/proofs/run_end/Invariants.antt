-- It goes from strip to strip while they are alike.
use Rattle.cells.specs.Cells.{chart_of}
use Rattle.lister.proofs.Ending.{Reached}
use Rattle.lister.proofs.run_end.Given as goal

abbrev pub invariant-loop-next : goal.invariant-loop-next
invariant-loop-next l = Reached (chart_of l.chart) l.field l.left l.end l.strip l.next l.before
