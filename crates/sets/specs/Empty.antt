-- The empty sets, and what it is for a set to be zero past its count.
use Rattle.std.specs.Prelude.{List, ◌≡◌, ℕ, ◌-◌, length, drop, replicate}
use Rattle.meaning.specs.Form.{most_rules, most_directives, most_exceptions}
use Rattle.blocks.specs.declared.Block.{Block}
use Rattle.blocks.specs.declared.Span.{Span}
use Rattle.sets.specs.declared.Action.TheVariants.{Deny}
use Rattle.sets.specs.declared.Directive.{Directive}
use Rattle.sets.specs.declared.Exception.{Exception}
use Rattle.sets.specs.declared.Policy.{Policy}
use Rattle.sets.specs.declared.Rule.{Rule}
use Rattle.sets.specs.declared.Rules.{Rules}

-- the zero records: "a zero record's action is deny"
abbrev pub zero_span : Span
zero_span = record { low = 0; high = 0 }

abbrev pub zero_block : Block
zero_block = record { source = zero_span; destination = zero_span; protocol = zero_span; port = zero_span }

abbrev pub zero_rule : Rule
zero_rule = record { action = Deny; block = zero_block }

abbrev pub zero_directive : Directive
zero_directive = record { action = Deny; block = zero_block }

abbrev pub zero_exception : Exception
zero_exception = record { directive = 0; block = zero_block }

-- "the empty set, all records zero"
abbrev pub empty_rules : Rules
empty_rules = record { count = 0; records = replicate most_rules zero_rule }

abbrev pub empty_policy : Policy
empty_policy =
    record {
      directive_count = 0;
      directives = replicate most_directives zero_directive;
      exception_count = 0;
      exceptions = replicate most_exceptions zero_exception;
    }

-- what lies past a count is zero
abbrev pub zero_past : {A : Type 0} → A → ℕ → List A → Type 0
zero_past zero count records = drop count records ≡ replicate (length records - count) zero

-- "Anything handed back with a count is zero past that count"
abbrev pub RulesZeroPast : Rules → Type 0
RulesZeroPast s = zero_past zero_rule s.count s.records

abbrev pub PolicyZeroPast : Policy → Type 0
PolicyZeroPast s = zero_past zero_directive s.directive_count s.directives × zero_past zero_exception s.exception_count s.exceptions
