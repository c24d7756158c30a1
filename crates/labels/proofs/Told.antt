-- What the label call tells: the packet's label where all is in form, and kind 0 and rule 0 where something is refused. Assumes
-- nothing.
use mathlib.Core.Path.{◌≡◌, ap, ◌∙◌}
use borrow.Author.Tests.{ne_eqb}
use lib.Dec.{T}
use Rattle.meaning.specs.Fields.{fields, IsPacket}
use Rattle.meaning.specs.Form.{table_of, policy_of, rules_in_form, policy_in_form, unrefused}
use Rattle.meaning.specs.Labels as labels
use Rattle.meaning.proofs.FormLaws.{in_form_unrefused}
use Rattle.blocks.specs.declared.Packet.{Packet}
use Rattle.blocks.specs.Vocabulary.{packet_of}
use Rattle.std.specs.Prelude.{Result}
use Rattle.sets.specs.declared.Label.TheVariants.{Good}
use Rattle.sets.specs.declared.Label.{Label}
use Rattle.sets.specs.declared.Policy.{Policy}
use Rattle.sets.specs.declared.Refusal.{Refusal}
use Rattle.sets.specs.declared.Rules.{Rules}
use Rattle.sets.specs.Vocabulary.{rule_set_of, policy_set_of, label_of, refused_of, told_or}
use Rattle.labels.specs.Answers.{LabelledAs}

module _ (rules : Rules) (policy : Policy) (packet : Packet) (r : Result Label Refusal) (told : LabelledAs rules policy packet r) where
  pub label_in_form : T (rules_in_form fields (rule_set_of rules)) → T (policy_in_form fields (policy_set_of policy)) → IsPacket fields (packet_of packet)
      → (refused_of r ≡ unrefused)
      × (label_of (told_or Good r) ≡ labels.label (table_of (rule_set_of rules)) (policy_of (policy_set_of policy)) (packet_of packet))
  label_in_form t u i =
      let none = in_form_unrefused fields (rule_set_of rules) (policy_set_of policy) (packet_of packet) t u i in
      (told.refusal ∙ none, told.label ∙ simp none)

  pub label_refused : ((refused_of r).number ≡ 0 → ⊥) → (labels.kind (label_of (told_or Good r)) ≡ 0) × (labels.rule (label_of (told_or Good r)) ≡ 0)
  unfolding labels.kind labels.rule
  label_refused h =
      let zeros : label_of (told_or Good r) ≡ labels.good = told.label ∙ simp (← told.refusal, ne_eqb _ 0 h) in
      (ap labels.kind zeros, ap labels.rule zeros)
