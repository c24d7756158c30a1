-- The invariant: reading stands at the cursor with what is read so far, which is kept. Assumes nothing.
use Prim.Native.Nat.{◌+◌, ◌-◌}
use lib.ListN.{length}
use Rattle.texts.specs.Texts.{all_read, read_before}
use Rattle.texts.proofs.Reading.{Reading}
use Rattle.texts.proofs.read_lines.Given as goal

abbrev pub invariant-loop-cursor : goal.invariant-loop-cursor
invariant-loop-cursor g l =
    let m = g.R.LineByLine in Reading m.said all_read read_before m.none l.text l.cursor.at l.cursor.line l.read × m.kept l.read

abbrev pub decreases-loop-cursor : goal.decreases-loop-cursor
decreases-loop-cursor g l = (length l.text + 1) - l.cursor.at
