-- The invariant: the fields so far are read, and their bounds stand in front. Assumes nothing.
use Prim.Native.Nat.{◌-◌}
use Rattle.meaning.specs.Sizes.{field_count}
use Rattle.records.proofs.Fieldwise.{Read}
use Rattle.records.proofs.read_block.Given as goal

abbrev pub invariant-loop-i : goal.invariant-loop-i
invariant-loop-i l = Read l.line l.k l.i l.bounds

abbrev pub decreases-loop-i : goal.decreases-loop-i
decreases-loop-i l = field_count - l.i
