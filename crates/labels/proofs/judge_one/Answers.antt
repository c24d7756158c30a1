-- The rows of the table of kinds where one action is asked. Assumes nothing.
use mathlib.Core.Path.{sym, ap, ◌∙◌}
use Rattle.std.specs.Prelude.{Option}
use Rattle.meaning.specs.Labels.{judged}
use Rattle.meaning.specs.Rules.{same_action}
use Rattle.sets.specs.Vocabulary.{action_of}
use Rattle.labels.specs.Answers.{decided_of}
use Rattle.labels.specs.Inner.{one_asked}
use Rattle.labels.specs.declared.Decided.{Decided}
use Rattle.labels.proofs.Judging.{one_done, one_not_done, same_as}
use Rattle.labels.proofs.judge_one.Goals as goal

pub returns-then-eq : goal.returns-then-eq
returns-then-eq c =
    let a = action_of c.args.asked in
    sym
    (ap (λ (d : Option Decided). one_asked a (decided_of d)) c.in_default-Some.is-1
    ∙ one_done _ _ a (sym (same_as _ _) ∙ sym c.eq.ensures ∙ c.if-eq.true))

pub returns-else-eq : goal.returns-else-eq
returns-else-eq c =
    let a = action_of c.args.asked in
    sym
    (ap (λ (d : Option Decided). one_asked a (decided_of d)) c.in_default-Some.is-1
    ∙ one_not_done _ _ a (sym (same_as _ _) ∙ sym c.eq.ensures ∙ c.if-eq.false))

pub returns-in-Accept-None : goal.returns-in-Accept-None
unfolding judged same_action
returns-in-Accept-None c = simp (c.in-Accept-None.is-0, c.in-Accept-None.is-1)

pub returns-in-Deny-None : goal.returns-in-Deny-None
unfolding judged same_action
returns-in-Deny-None c = simp (c.in-Deny-None.is-0, c.in-Deny-None.is-1)
