-- Words of private contracts; no public contract uses them. And the law of reading line by line, which the `impl` cites.
use Rattle.std.specs.Prelude.{List, [], ℕ, ◌+◌, ◌≡◌, refl, set}
use Rattle.sets.specs.Empty.{empty_rules}
use Rattle.sets.specs.declared.Rule.{Rule}
use Rattle.sets.specs.declared.Rules.{Rules}
use Rattle.texts.specs.Texts.{Said, goes, stops}
use Rattle.rule_text.specs.RuleTexts.{rule_line, on_rule_line}
use Rattle.rule_text.specs.declared.RulesRead.{RulesRead}

-- the set with one rule more
abbrev pub rule_added : Rules → Rule → Rules
rule_added s r = record { count = s.count + 1; records = set s.records s.count r }

-- no rule is read yet
abbrev pub no_rules_read : RulesRead
no_rules_read = record { rules = empty_rules }

-- what a line makes of the set of the rules read so far
abbrev pub line_said : RulesRead → List ℕ → Said RulesRead
line_said read line =
    on_rule_line (rule_line read.rules.count line) (goes read) (λ r. goes (record { rules = rule_added read.rules r })) stops

-- an empty line says nothing
pub none_said : (read : RulesRead) → line_said read [] ≡ goes read
unfolding rule_line
none_said read = refl
