use mathlib.Core.Path.{sym}
use Rattle.putting.proofs.Putting.{on_nothing, on_same, on_then}
use Rattle.report.proofs.RowLines.{lines_more}
use Rattle.report.proofs.put_rows.Goals as goal

pub loop-i-init : goal.loop-i-init
loop-i-init c = on_nothing _

pub loop-i-preserved : goal.loop-i-preserved
loop-i-preserved c =
    on_same (sym (lines_more c.args.rows.now c.loop-i.i)) (on_then c.loop-i.invariant c.put_row.ensures)
