-- Kind, rule and bounds, as a line. Assumes nothing.
use mathlib.Core.Path.{◌∙◌, refl}
use Rattle.putting.proofs.Putting.{on_same}
use Rattle.report.proofs.RowLines.{row_line_lem}
use Rattle.report.proofs.put_row.Goals as goal

pub returns : goal.returns
returns c =
    on_same (row_line_lem _ _ _ _ _ refl refl (c.from-block.ensures ∙ c.bounds_at.ensures)) c.put_block.ensures
