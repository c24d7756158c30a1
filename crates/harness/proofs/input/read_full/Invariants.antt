-- Each turn reads at least a byte.
use Rattle.std.proofs.Common.{length, ◌-◌, ◌≤◌}
use Rattle.harness.proofs.input.read_full.Given as goal

abbrev pub invariant-loop-end : goal.invariant-loop-end
invariant-loop-end g l = l.end ≤ length l.buffer

abbrev pub decreases-loop-end : goal.decreases-loop-end
decreases-loop-end g l = length l.buffer - l.end
