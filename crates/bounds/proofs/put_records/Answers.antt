use mathlib.Core.Path.{refl, ap}
use Rattle.std.proofs.lemmas.Fn.{says_at}
use Rattle.blocks.specs.Vocabulary.{block_of}
use Rattle.bounds.specs.Spans.{numbers_of}
use Rattle.bounds.proofs.BlockWalk.{blocks_more}
use Rattle.bounds.proofs.put_records.Goals as goal

pub loop-i-init : goal.loop-i-init
unfolding numbers_of
loop-i-init g c = λ made gives. refl

pub loop-i-preserved : goal.loop-i-preserved
loop-i-preserved g c = λ made gives.
    let is_made = gives _ _ (says_at g.F.Fn c.block.ensures refl) in
    blocks_more _ _ _ _ (λ x. refl) _ _ c.loop-i-test.true c.index-records-i.is (ap block_of is_made) (c.loop-i.invariant made gives) c.put_block.ensures
