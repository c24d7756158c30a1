-- The number that the label carries, or 0. Assumes nothing.
use Rattle.meaning.specs.Labels.{rule}
use Rattle.sets.proofs.Label.rule.Goals as goal

pub returns-in-Good : goal.returns-in-Good
unfolding rule
returns-in-Good c = simp c.in-Good.is

pub returns-in-Conflict : goal.returns-in-Conflict
unfolding rule
returns-in-Conflict c = simp c.in-Conflict.is

pub returns-in-Wrong : goal.returns-in-Wrong
unfolding rule
returns-in-Wrong c = simp c.in-Wrong.is

pub returns-in-Unasked : goal.returns-in-Unasked
unfolding rule
returns-in-Unasked c = simp c.in-Unasked.is

pub returns-in-UnmetAccept : goal.returns-in-UnmetAccept
unfolding rule
returns-in-UnmetAccept c = simp c.in-UnmetAccept.is

pub returns-in-UnmetDeny : goal.returns-in-UnmetDeny
unfolding rule
returns-in-UnmetDeny c = simp c.in-UnmetDeny.is
