-- One number for each case. Assumes nothing.
use Rattle.meaning.specs.Labels.{kind}
use Rattle.sets.proofs.Label.kind.Goals as goal

pub returns-in-Good : goal.returns-in-Good
unfolding kind
returns-in-Good c = simp c.in-Good.is

pub returns-in-Conflict : goal.returns-in-Conflict
unfolding kind
returns-in-Conflict c = simp c.in-Conflict.is

pub returns-in-Wrong : goal.returns-in-Wrong
unfolding kind
returns-in-Wrong c = simp c.in-Wrong.is

pub returns-in-Unasked : goal.returns-in-Unasked
unfolding kind
returns-in-Unasked c = simp c.in-Unasked.is

pub returns-in-UnmetAccept : goal.returns-in-UnmetAccept
unfolding kind
returns-in-UnmetAccept c = simp c.in-UnmetAccept.is

pub returns-in-UnmetDeny : goal.returns-in-UnmetDeny
unfolding kind
returns-in-UnmetDeny c = simp c.in-UnmetDeny.is
