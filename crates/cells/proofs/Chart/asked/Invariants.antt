-- It looks for an exception that asks, and then for a directive without exceptions.
use Rattle.cells.proofs.Freeing.{Freeing}
use Rattle.cells.proofs.Chart.asked.Given as goal

abbrev pub invariant-loop-rest : goal.invariant-loop-rest
invariant-loop-rest l = Freeing l.self.words.now l.exceptions l.turning l.own l.rest

abbrev pub decreases-loop-rest : goal.decreases-loop-rest
decreases-loop-rest l = l.rest
