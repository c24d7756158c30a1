-- The set of the records listed.
use Rattle.std.specs.Prelude.{List, ◌++◌, ℕ, ◌-◌, length, replicate}
use Rattle.meaning.specs.Form.{most_rules, most_directives, most_exceptions}
use Rattle.sets.specs.Empty.{zero_rule, zero_directive, zero_exception}
use Rattle.sets.specs.declared.Directive.{Directive}
use Rattle.sets.specs.declared.Exception.{Exception}
use Rattle.sets.specs.declared.Policy.{Policy}
use Rattle.sets.specs.declared.Rule.{Rule}
use Rattle.sets.specs.declared.Rules.{Rules}

-- n records: those listed, and zero records behind them
abbrev pub padded : {A : Type 0} → ℕ → A → List A → List A
padded n zero xs = xs ++ replicate (n - length xs) zero

abbrev pub rule_set : List Rule → Rules
rule_set rs = record { count = length rs; records = padded most_rules zero_rule rs }

abbrev pub policy_set : List Directive → List Exception → Policy
policy_set ds es =
    record {
      directive_count = length ds;
      directives = padded most_directives zero_directive ds;
      exception_count = length es;
      exceptions = padded most_exceptions zero_exception es;
    }
