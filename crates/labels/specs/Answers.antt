-- What the answers of this crate stand for, and what its calls answer.
use Rattle.std.specs.Prelude.{cond, ◌≡◌, ℕ, zero, suc, eqb, Option, Some, None, Result}
use Rattle.meaning.specs.Fields as fields
use Rattle.meaning.specs.Form.{table_of, policy_of, refuse_label}
use Rattle.meaning.specs.Labels as labels
use Rattle.meaning.specs.Records.{Found, nothing, found}
use Rattle.meaning.specs.Rules as rules
use Rattle.blocks.specs.declared.Packet.{Packet}
use Rattle.blocks.specs.Vocabulary.{packet_of}
use Rattle.sets.specs.declared.Label.TheVariants.{Good}
use Rattle.sets.specs.declared.Label.{Label}
use Rattle.sets.specs.declared.Policy.{Policy}
use Rattle.sets.specs.declared.Refusal.{Refusal}
use Rattle.sets.specs.declared.Rules.{Rules}
use Rattle.sets.specs.Vocabulary.{rule_of, rule_set_of, policy_set_of, label_of, refused_of, told_or}
use Rattle.labels.specs.declared.Decided.{Decided}

-- a rule with its number, or nothing
abbrev pub decided_of : Option Decided → Found rules.Rule
decided_of None = nothing
decided_of (Some d) = found d.number (rule_of d.rule)

-- a number that is 0 where there is none, as an answer tells it
abbrev pub number_told : ℕ → Option ℕ
number_told zero = None
number_told (suc n) = Some (suc n)

-- "Labels, verdict and listing give 14 with zeros elsewhere": a refused call tells the label good, of kind 0 and rule 0.
abbrev pub labelled : Rules → Policy → Packet → labels.Label
labelled rules policy packet =
    cond (eqb (refuse_label fields.fields (rule_set_of rules) (policy_set_of policy) (packet_of packet)).number 0)
    (labels.label (table_of (rule_set_of rules)) (policy_of (policy_set_of policy)) (packet_of packet))
    labels.good

-- what the label call answers
pub record LabelledAs (rules : Rules) (policy : Policy) (packet : Packet) (r : Result Label Refusal) : Type 0 where
  pub refusal : refused_of r ≡ refuse_label fields.fields (rule_set_of rules) (policy_set_of policy) (packet_of packet)
  pub label : label_of (told_or Good r) ≡ labelled rules policy packet
