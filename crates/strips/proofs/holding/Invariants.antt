-- The invariant: the mask is that of the spans from block j on. Assumes nothing.
use Prim.Native.Nat.{◌+◌, ◌≤◌}
use Rattle.strips.proofs.SpanMasks.{HoldingFrom}
use Rattle.strips.proofs.holding.Given as goal

abbrev pub invariant-loop-j : goal.invariant-loop-j
invariant-loop-j l = (l.first ≤ l.j) × HoldingFrom l.numbers l.field l.x (l.first + l.count) l.j l.mask
