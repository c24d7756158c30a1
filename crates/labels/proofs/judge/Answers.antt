-- The rows of the table of kinds. Assumes nothing.
use mathlib.Core.Path.{◌∙◌}
use Rattle.meaning.specs.Labels.{judged}
use Rattle.meaning.specs.Rules.{same_action}
use Rattle.labels.proofs.judge.Goals as goal

pub returns-in-true-true-default : goal.returns-in-true-true-default
unfolding judged
returns-in-true-true-default c = simp (c.in-true-true-default.is-0, c.in-true-true-default.is-1)

pub returns-in-true-false-default : goal.returns-in-true-false-default
unfolding same_action
returns-in-true-false-default c = c.judge_one.ensures ∙ simp (c.in-true-false-default.is-0, c.in-true-false-default.is-1)

pub returns-in-false-true-default : goal.returns-in-false-true-default
unfolding same_action
returns-in-false-true-default c =
    c.judge_one-in-false-true-default.ensures ∙ simp (c.in-false-true-default.is-0, c.in-false-true-default.is-1)

pub returns-in-false-false-Some : goal.returns-in-false-false-Some
unfolding judged
returns-in-false-false-Some c = simp (c.in-false-false-Some.is-0, c.in-false-false-Some.is-1, c.in-false-false-Some.is-2)

pub returns-in-false-false-None : goal.returns-in-false-false-None
unfolding judged
returns-in-false-false-None c = simp (c.in-false-false-None.is-0, c.in-false-false-None.is-1, c.in-false-false-None.is-2)
