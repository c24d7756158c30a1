-- For each public call: its contract leaves one answer. Assumes nothing.
use Rattle.std.specs.Prelude.{◌≡◌, Result}
use mathlib.Core.Path.{refl}
use Rattle.meaning.specs.Form as form
use Rattle.contracts.specs.Answers.{OneAnswer}
use Rattle.sets.specs.Vocabulary.{refused_of}
use Rattle.sets.specs.declared.Refusal.{Refusal}
use Rattle.sets.proofs.OneAnswer.{one_told}
use Rattle.form.proofs.refuse_label.Reads as refuse_label_call
use Rattle.form.proofs.refuse_packet.Reads as refuse_packet_call
use Rattle.form.proofs.refuse_policy.Reads as refuse_policy_call
use Rattle.form.proofs.refuse_rules.Reads as refuse_rules_call
use Rattle.form.proofs.refuse_sets.Reads as refuse_sets_call

-- two answers that hand nothing back
one_refused : (x : form.Refusal) (r s : Result (Unit {0}) Refusal) → refused_of r ≡ x → refused_of s ≡ x → r ≡ s
one_refused x r s e f = one_told tt x tt r s e f refl refl

pub refuse_rules_once : OneAnswer (refuse_rules_call.Post)
refuse_rules_once κs a r s after after' e f = one_refused _ r s e f

pub refuse_policy_once : OneAnswer (refuse_policy_call.Post)
refuse_policy_once κs a r s after after' e f = one_refused _ r s e f

pub refuse_packet_once : OneAnswer (refuse_packet_call.Post)
refuse_packet_once κs a r s after after' e f = one_refused _ r s e f

pub refuse_sets_once : OneAnswer (refuse_sets_call.Post)
refuse_sets_once κs a r s after after' e f = one_refused _ r s e f

pub refuse_label_once : OneAnswer (refuse_label_call.Post)
refuse_label_once κs a r s after after' e f = one_refused _ r s e f
