-- The invariant: the exceptions of the directives so far, by what they ask for. Assumes nothing.
use lib.ListN.{length}
use Rattle.front.proofs.FrontWords.{TurnedUpTo}
use Rattle.front.proofs.put_turning.Given as goal

abbrev pub invariant-loop-directive : goal.invariant-loop-directive
invariant-loop-directive l = TurnedUpTo l.fn.policy (length l.yielded) l.accept l.deny
