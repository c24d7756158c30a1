-- For each public call: its contract leaves one answer. Assumes nothing.
use mathlib.Core.Path.{◌≡◌, refl, sym, ap, ◌∙◌}
use Rattle.std.specs.Prelude.{Option, Some, None, Result}
use Rattle.meaning.specs.Labels as labels
use Rattle.meaning.specs.Records.{Found, nothing, found}
use Rattle.meaning.specs.Rules as rules
use Rattle.blocks.specs.declared.Packet.{Packet}
use Rattle.contracts.specs.Answers.{OneAnswer}
use Rattle.contracts.proofs.Answering.{one_answer, one_standing}
use Rattle.blocks.specs.Vocabulary.{block_from}
use Rattle.sets.specs.declared.Action.TheVariants.{Deny, Accept}
use Rattle.sets.specs.declared.Action.{Action}
use Rattle.sets.specs.declared.Label.TheVariants.{Good, Conflict, Wrong, Unasked, UnmetAccept, UnmetDeny}
use Rattle.sets.specs.declared.Label.{Label}
use Rattle.sets.specs.declared.Policy.{Policy}
use Rattle.sets.specs.declared.Refusal.{Refusal}
use Rattle.sets.specs.declared.Rules.{Rules}
use Rattle.sets.specs.Vocabulary.{action_of, label_of, told_or}
use Rattle.sets.proofs.OneAnswer.{one_told}
use Rattle.labels.specs.Answers.{decided_of, labelled, LabelledAs}
use Rattle.labels.specs.declared.Decided.{Decided}
use Rattle.labels.proofs.deciding.Reads as deciding_call
use Rattle.labels.proofs.label.Reads as label_call
use Rattle.labels.proofs.label_of.Reads as label_of_call
use Rattle.labels.proofs.lowest_asking.Reads as lowest_asking_call

abbrev action_from : rules.Action → Action
action_from rules.deny = Deny
action_from rules.accept = Accept

abbrev decided_from : Found rules.Rule → Option Decided
decided_from nothing = None
decided_from (found n r) = Some (record { number = n; rule = record { action = action_from r.action; block = block_from r.block } })

abbrev label_from : labels.Label → Label
label_from labels.good = Good
label_from labels.conflict = Conflict
label_from (labels.wrong n) = Wrong n
label_from (labels.unasked n) = Unasked n
label_from labels.unmet_accept = UnmetAccept
label_from labels.unmet_deny = UnmetDeny

action_back : (a : Action) → action_from (action_of a) ≡ a
action_back Deny = refl
action_back Accept = refl

decided_back : (d : Option Decided) → decided_from (decided_of d) ≡ d
decided_back None = refl
decided_back (Some d) = λ i. Some (record { number = d.number; rule = record { action = action_back d.rule.action i; block = d.rule.block } })

label_back : (l : Label) → label_from (label_of l) ≡ l
label_back Good = refl
label_back Conflict = refl
label_back (Wrong n) = refl
label_back (Unasked n) = refl
label_back UnmetAccept = refl
label_back UnmetDeny = refl

pub one_decided : (x : Found rules.Rule) (r s : Option Decided) → decided_of r ≡ x → decided_of s ≡ x → r ≡ s
one_decided = one_standing decided_of decided_from decided_back

pub one_label : (x : labels.Label) (r s : Label) → label_of r ≡ x → label_of s ≡ x → r ≡ s
one_label = one_standing label_of label_from label_back

-- two refusals are the same, and so are two labels, as what stands beside a refusal is a label too
pub one_labelled : (rules : Rules) (policy : Policy) (packet : Packet) (r s : Result Label Refusal)
    → LabelledAs rules policy packet r → LabelledAs rules policy packet s → r ≡ s
one_labelled rules policy packet r s a b =
    one_told Good _ (label_from (labelled rules policy packet)) r s a.refusal b.refusal (back r a.label) (back s b.label)
  where
    back : (t : Result Label Refusal) → label_of (told_or Good t) ≡ labelled rules policy packet → told_or Good t ≡ label_from (labelled rules policy packet)
    back t e = sym (label_back (told_or Good t)) ∙ ap label_from e

pub label_once : OneAnswer (label_call.Post)
label_once κs a r s after after' e f = one_labelled _ _ _ r s e f

pub label_of_once : OneAnswer (label_of_call.Post)
label_of_once κs a r s after after' e f = one_label _ r s e f

pub deciding_once : OneAnswer (deciding_call.Post)
deciding_once κs a r s after after' e f = one_decided _ r s e f

pub lowest_asking_once : OneAnswer (lowest_asking_call.Post)
lowest_asking_once κs a r s after after' e f = one_answer _ r s e f
