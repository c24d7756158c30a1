use Rattle.front.proofs.FrontWords.{owners_end, owners_more}
use Rattle.front.proofs.put_owners.Goals as goal

pub loop-i-preserved : goal.loop-i-preserved
loop-i-preserved c = owners_more _ _ _ _ _ _ c.loop-i-test.true c.exceptions_of.ensures c.loop-i.invariant

pub returns : goal.returns
returns c = owners_end _ _ _ _ _ c.loop-i-test.false c.loop-i.invariant
