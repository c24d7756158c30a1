-- By cases of the action. Assumes nothing.
use denote.Enum.Bare.{sameb}
use mathlib.Core.Path.{◌≡◌, refl, ◌∙◌}
use Rattle.meaning.specs.Rules.{accept, same_action}
use Rattle.sets.specs.Vocabulary.{action_of}
use Rattle.sets.specs.contracts.Action.{the_type}
use Rattle.sets.specs.declared.Action.TheVariants.{Accept, Deny}
use Rattle.sets.specs.declared.Action.{Action}
use Rattle.front.proofs.accepts.Goals as goal

by_action : (action : Action) → sameb the_type action Accept ≡ same_action accept (action_of action)
unfolding same_action
by_action Accept = refl
by_action Deny = refl

pub returns : goal.returns
returns c = c.eq.ensures ∙ by_action c.args.action
