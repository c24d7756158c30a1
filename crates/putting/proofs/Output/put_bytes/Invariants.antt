-- It puts byte by byte.
use lib.ListN.{take}
use Rattle.putting.specs.Putting.{PutOn}
use Rattle.putting.proofs.Output.put_bytes.Given as goal

abbrev pub invariant-loop-byte : goal.invariant-loop-byte
invariant-loop-byte l = PutOn l.initial.self (take l.byte-index l.bytes) l.self
