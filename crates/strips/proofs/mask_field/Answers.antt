use Rattle.strips.proofs.Masking.{masking_start, masking_more}
use Rattle.strips.proofs.mask_field.Goals as goal

pub loop-i-init : goal.loop-i-init
loop-i-init c = masking_start _ _ _ _ _ c.requires.numbers_len.1

pub loop-i-preserved : goal.loop-i-preserved
loop-i-preserved c = masking_more _ _ _ _ _ _ _ c.loop-i-test.true c.requires.places_len
    c.holding.ensures c.holding-in-loop-i.ensures c.holding-in-loop-i-2.ensures c.loop-i.invariant
