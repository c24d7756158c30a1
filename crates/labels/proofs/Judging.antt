-- The rows of the table of kinds where one action is asked. Assumes nothing.
use mathlib.Core.Bool.{true, false}
use mathlib.Core.Path.{◌≡◌, refl}
use denote.Enum.Bare.{sameb}
use Prim.Native.Nat.{ℕ}
use Rattle.meaning.specs.Labels.{good, wrong, judged}
use Rattle.meaning.specs.Records.{found}
use Rattle.meaning.specs.Rules as rules
use Rattle.meaning.specs.Rules.{same_action}
use Rattle.sets.specs.contracts.Action.{the_type}
use Rattle.sets.specs.declared.Action.TheVariants.{Deny, Accept}
use Rattle.sets.specs.declared.Action.{Action}
use Rattle.sets.specs.Vocabulary.{action_of}
use Rattle.labels.specs.Inner.{one_asked}

-- the test of two actions that the program makes
pub same_as : (a b : Action) → sameb the_type a b ≡ same_action (action_of b) (action_of a)
unfolding same_action
same_as Deny Deny = refl
same_as Deny Accept = refl
same_as Accept Deny = refl
same_as Accept Accept = refl

module _ (n : ℕ) (r : rules.Rule) where
  pub one_done : (a : rules.Action) → same_action a r.action ≡ true → one_asked a (found n r) ≡ good
  unfolding judged same_action
  one_done rules.accept e = simp e
  one_done rules.deny e = simp e

  pub one_not_done : (a : rules.Action) → same_action a r.action ≡ false → one_asked a (found n r) ≡ wrong n
  unfolding judged same_action
  one_not_done rules.accept e = simp e
  one_not_done rules.deny e = simp e
