-- What the types of this crate stand for in `meaning`.
use Rattle.std.specs.Prelude.{ℕ, map, Result, Ok, Err}
use Rattle.meaning.specs.Form as form
use Rattle.meaning.specs.Labels as labels
use Rattle.meaning.specs.Rules as rules
use Rattle.blocks.specs.Vocabulary.{block_of}
use Rattle.sets.specs.declared.Action.TheVariants.{Deny, Accept}
use Rattle.sets.specs.declared.Action.{Action}
use Rattle.sets.specs.declared.Directive.{Directive}
use Rattle.sets.specs.declared.Exception.{Exception}
use Rattle.sets.specs.declared.Label.TheVariants.{Good, Conflict, Wrong, Unasked, UnmetAccept, UnmetDeny}
use Rattle.sets.specs.declared.Label.{Label}
use Rattle.sets.specs.declared.Policy.{Policy}
use Rattle.sets.specs.declared.Reason.TheVariants.{TooLong, Unended, UnknownWord, FieldCount, ActionUnread, AddressUnread, AddressUnfit, ProtocolUnread, PortUnread, RangeFalls, NoDirective, OutsideDirective, Full, OutOfForm}
use Rattle.sets.specs.declared.Reason.{Reason}
use Rattle.sets.specs.declared.Refusal.{Refusal}
use Rattle.sets.specs.declared.Rule.{Rule}
use Rattle.sets.specs.declared.Rules.{Rules}

abbrev pub action_of : Action → rules.Action
action_of Deny = rules.deny
action_of Accept = rules.accept

abbrev pub rule_of : Rule → rules.Rule
rule_of r = record { action = action_of r.action; block = block_of r.block }

abbrev pub rule_set_of : Rules → form.RuleSet
rule_set_of s = record { count = s.count; records = map rule_of s.records }

-- a directive's record, an action and a block as a rule's
abbrev pub directive_of : Directive → rules.Rule
directive_of d = record { action = action_of d.action; block = block_of d.block }

abbrev pub exception_of : Exception → form.Exception
exception_of e = record { directive = e.directive; block = block_of e.block }

abbrev pub policy_set_of : Policy → form.PolicySet
policy_set_of s =
    record {
      directive_count = s.directive_count;
      directives = map directive_of s.directives;
      exception_count = s.exception_count;
      exceptions = map exception_of s.exceptions;
    }

-- a label, whose number is `kind` and whose rule is `rule` in the paper's table
abbrev pub label_of : Label → labels.Label
label_of Good = labels.good
label_of Conflict = labels.conflict
label_of (Wrong n) = labels.wrong n
label_of (Unasked n) = labels.unasked n
label_of UnmetAccept = labels.unmet_accept
label_of UnmetDeny = labels.unmet_deny

-- the numbers of refusal
abbrev pub reason_number : Reason → ℕ
reason_number TooLong = 1
reason_number Unended = 2
reason_number UnknownWord = 3
reason_number FieldCount = 4
reason_number ActionUnread = 5
reason_number AddressUnread = 6
reason_number AddressUnfit = 7
reason_number ProtocolUnread = 8
reason_number PortUnread = 9
reason_number RangeFalls = 10
reason_number NoDirective = 11
reason_number OutsideDirective = 12
reason_number Full = 13
reason_number OutOfForm = 14

abbrev pub refusal_of : Refusal → form.Refusal
refusal_of r = record { number = reason_number r.reason; line = r.line; field = r.field }

-- what an answer refuses: "A call not refused gives number, line and field 0"
abbrev pub refused_of : {A : Type 0} → Result A Refusal → form.Refusal
refused_of (Ok a) = form.unrefused
refused_of (Err r) = refusal_of r

-- what an answer hands back, where `zero` stands beside a refusal
abbrev pub told_or : {A : Type 0} → A → Result A Refusal → A
told_or zero (Ok a) = a
told_or zero (Err r) = zero
