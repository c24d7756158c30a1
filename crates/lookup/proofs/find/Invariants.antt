-- The invariant: the record wanted is the one that is left to count, from the cursor on. Assumes nothing.
use Prim.Native.Nat.{◌+◌, ◌-◌}
use lib.ListN.{length}
use Rattle.lookup.proofs.Seeking.{Seeks}
use Rattle.lookup.proofs.find.Given as goal

abbrev pub invariant-loop-cursor : goal.invariant-loop-cursor
invariant-loop-cursor l = Seeks l.word l.text l.n l.cursor l.left

abbrev pub decreases-loop-cursor : goal.decreases-loop-cursor
decreases-loop-cursor l = (length l.text + 1) - l.cursor.at
