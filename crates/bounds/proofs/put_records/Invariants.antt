-- The invariant: the bounds of the blocks of the records below i are stored. Assumes nothing.
use Rattle.layout.specs.Passed.{Computes}
use Rattle.blocks.specs.declared.Block.{Block}
use Rattle.blocks.specs.Vocabulary.{block_of}
use Rattle.bounds.proofs.BlockWalk.{StoredUpTo}
use Rattle.bounds.proofs.put_records.Given as goal

abbrev pub invariant-loop-i : goal.invariant-loop-i
invariant-loop-i g l =
    (made : g.row.T.Denot → Block) → Computes g.F.Fn l.block made
    → StoredUpTo (λ x. block_of (made x)) l.records l.before l.initial.numbers l.i l.numbers
