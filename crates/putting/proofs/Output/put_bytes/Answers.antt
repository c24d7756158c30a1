use lib.Seq.{take_all}
use Rattle.putting.proofs.Putting.{on_nothing, on_more, on_same}
use Rattle.putting.proofs.Output.put_bytes.Goals as goal

pub loop-byte-init : goal.loop-byte-init
loop-byte-init c = on_nothing _

pub loop-byte-preserved : goal.loop-byte-preserved
loop-byte-preserved c = on_more _ _ c.loop-byte-test.true c.loop-byte.invariant c.put_byte.ensures

pub returns : goal.returns
returns c = on_same (take_all _ _ c.loop-byte-test.false) c.loop-byte.invariant
