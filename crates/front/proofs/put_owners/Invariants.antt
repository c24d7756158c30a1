-- It writes the exceptions of directive after directive. Assumes nothing.
use Rattle.sets.specs.Inner.{exceptions_of}
use Rattle.front.proofs.FrontWords.{OwnersUpTo}
use Rattle.front.proofs.put_owners.Given as goal

abbrev pub invariant-loop-i : goal.invariant-loop-i
invariant-loop-i l = OwnersUpTo l.policy.directive_count (exceptions_of l.policy) l.initial.words l.i l.words
