-- For each public call: its contract leaves one answer. Assumes nothing.
use Rattle.std.specs.Prelude.{List, [], ◌∷◌, ◌≡◌, ℕ, ◌-◌, ◌≤◌, get_or, Result, Ok, Err}
use mathlib.Core.Path.{refl, ap, sym, ◌∙◌}
use native.Mathlib.Omega.{arith}
use Rattle.meaning.specs.Form as form
use Rattle.meaning.specs.Form.{unrefused}
use Rattle.contracts.specs.Answers.{OneAnswer}
use Rattle.contracts.proofs.Answering.{one_answer, one_standing}
use Rattle.sets.specs.Vocabulary.{reason_number, refusal_of, refused_of, told_or}
use Rattle.sets.specs.declared.Reason.TheVariants.{TooLong, Unended, UnknownWord, FieldCount, ActionUnread, AddressUnread, AddressUnfit, ProtocolUnread, PortUnread, RangeFalls, NoDirective, OutsideDirective, Full, OutOfForm}
use Rattle.sets.specs.declared.Reason.{Reason}
use Rattle.sets.specs.declared.Refusal.{Refusal}
use Rattle.sets.proofs.Label.kind.Reads as label_kind_call
use Rattle.sets.proofs.Label.rule.Reads as label_rule_call
use Rattle.sets.proofs.Policy.empty.Reads as policy_empty_call
use Rattle.sets.proofs.Reason.number.Reads as reason_number_call
use Rattle.sets.proofs.Rules.empty.Reads as rules_empty_call

-- the reasons, in the order of their numbers
abbrev pub reasons : List Reason
reasons =
    TooLong ∷
    Unended ∷
    UnknownWord ∷
    FieldCount ∷
    ActionUnread ∷
    AddressUnread ∷
    AddressUnfit ∷
    ProtocolUnread ∷
    PortUnread ∷
    RangeFalls ∷
    NoDirective ∷
    OutsideDirective ∷
    Full ∷
    OutOfForm ∷
    []

abbrev pub reason_from : ℕ → Reason
reason_from n = get_or reasons (n - 1) OutOfForm

reason_back : (r : Reason) → reason_from (reason_number r) ≡ r
reason_back TooLong = refl
reason_back Unended = refl
reason_back UnknownWord = refl
reason_back FieldCount = refl
reason_back ActionUnread = refl
reason_back AddressUnread = refl
reason_back AddressUnfit = refl
reason_back ProtocolUnread = refl
reason_back PortUnread = refl
reason_back RangeFalls = refl
reason_back NoDirective = refl
reason_back OutsideDirective = refl
reason_back Full = refl
reason_back OutOfForm = refl

abbrev pub refusal_from : form.Refusal → Refusal
refusal_from r = record { reason = reason_from r.number; line = r.line; field = r.field }

pub one_refusal : (x : form.Refusal) (r s : Refusal) → refusal_of r ≡ x → refusal_of s ≡ x → r ≡ s
one_refusal = one_standing refusal_of refusal_from (λ r. ap (λ (n : Reason). record { reason = n; line = r.line; field = r.field }) (reason_back r.reason))

-- a refusal is not the answer of a call that is not refused
pub reason_counts : (r : Reason) → 1 ≤ reason_number r
reason_counts TooLong = omega arith
reason_counts Unended = omega arith
reason_counts UnknownWord = omega arith
reason_counts FieldCount = omega arith
reason_counts ActionUnread = omega arith
reason_counts AddressUnread = omega arith
reason_counts AddressUnfit = omega arith
reason_counts ProtocolUnread = omega arith
reason_counts PortUnread = omega arith
reason_counts RangeFalls = omega arith
reason_counts NoDirective = omega arith
reason_counts OutsideDirective = omega arith
reason_counts Full = omega arith
reason_counts OutOfForm = omega arith

refused_some : (r : Refusal) → ¬ (unrefused ≡ refusal_of r)
refused_some r e = omega (arith, reason_counts r.reason, ap (λ (x : form.Refusal). x.number) e)

-- two answers with the same refusal, and the same value beside it, are equal
pub one_told : {A : Type 0} (zero : A) (x : form.Refusal) (y : A) (r s : Result A Refusal)
    → refused_of r ≡ x → refused_of s ≡ x → told_or zero r ≡ y → told_or zero s ≡ y → r ≡ s
one_told zero x y (Ok a) (Ok b) e f g h = ap Ok (g ∙ sym h)
one_told zero x y (Ok a) (Err t) e f g h = absurd (refused_some t (e ∙ sym f))
one_told zero x y (Err r) (Ok b) e f g h = absurd (refused_some r (f ∙ sym e))
one_told zero x y (Err r) (Err t) e f g h = ap Err (one_refusal x r t e f)

pub rules_empty_once : OneAnswer (rules_empty_call.Post)
rules_empty_once κs a r s after after' e f = one_answer _ r s e f

pub policy_empty_once : OneAnswer (policy_empty_call.Post)
policy_empty_once κs a r s after after' e f = one_answer _ r s e f

pub label_kind_once : OneAnswer (label_kind_call.Post)
label_kind_once κs a r s after after' e f = one_answer _ r s e f

pub label_rule_once : OneAnswer (label_rule_call.Post)
label_rule_once κs a r s after after' e f = one_answer _ r s e f

pub reason_number_once : OneAnswer (reason_number_call.Post)
reason_number_once κs a r s after after' e f = one_answer _ r s e f
