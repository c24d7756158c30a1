-- Row by row.
use Rattle.putting.specs.Putting.{PutOn}
use Rattle.report.specs.Inner.{row_lines}
use Rattle.report.proofs.put_rows.Given as goal

abbrev pub invariant-loop-i : goal.invariant-loop-i
invariant-loop-i l = PutOn l.initial.output (row_lines l.rows l.i) l.output
