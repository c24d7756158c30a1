-- The invariant: what is marked, and what the exceptions left are yet to mark, is together what all mark. Assumes nothing.
use mathlib.Core.List.{map}
use lib.ListN.{drop}
use Rattle.blocks.specs.Vocabulary.{packet_of}
use Rattle.sets.specs.Inner.{exceptions_of}
use Rattle.sets.specs.Vocabulary.{exception_of}
use Rattle.labels.proofs.Marks.{Marked}
use Rattle.labels.proofs.excepted.Given as goal

abbrev pub invariant-loop-exception : goal.invariant-loop-exception
invariant-loop-exception l =
    Marked (packet_of l.packet) (exceptions_of l.fn.policy) (map exception_of (drop l.exception-index l.exception-items)) l.marks
