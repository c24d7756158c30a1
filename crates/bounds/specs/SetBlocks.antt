-- The blocks of a rule set and a policy, in the order in which their bounds stand.
use Rattle.std.specs.Prelude.{List, ◌++◌, map, ◌≡◌, ◌≤◌, length}
use Rattle.meaning.specs.Blocks.{Block}
use Rattle.meaning.specs.Form as form
use Rattle.meaning.specs.Rules as rules
use Rattle.sets.specs.declared.Policy.{Policy}
use Rattle.sets.specs.declared.Rules.{Rules}
use Rattle.sets.specs.Inner.{directives_of, exceptions_of}
use Rattle.sets.specs.Vocabulary.{rule_set_of}

-- the counts are within their limits
pub record Limited (r : Rules) (p : Policy) : Type 0 where
  pub few_rules : r.count ≤ form.most_rules
  pub few_directives : p.directive_count ≤ form.most_directives
  pub few_exceptions : p.exception_count ≤ form.most_exceptions

-- the rules within the count
abbrev pub rules_of : Rules → List rules.Rule
rules_of r = form.table_of (rule_set_of r)

-- their blocks
abbrev pub rule_blocks : Rules → List Block
rule_blocks r = map (λ (x : rules.Rule). x.block) (rules_of r)

abbrev pub directive_blocks : Policy → List Block
directive_blocks p = map (λ (x : rules.Rule). x.block) (directives_of p)

abbrev pub exception_blocks : Policy → List Block
exception_blocks p = map (λ (x : form.Exception). x.block) (exceptions_of p)

-- all blocks: those of the rules, of the directives and of the exceptions
abbrev pub all_blocks : Rules → Policy → List Block
all_blocks r p = rule_blocks r ++ directive_blocks p ++ exception_blocks p

-- there are as many blocks as the counts say
pub record BlocksCounted (r : Rules) (p : Policy) : Type 0 where
  pub rules : length (rule_blocks r) ≡ r.count
  pub directives : length (directive_blocks p) ≡ p.directive_count
  pub exceptions : length (exception_blocks p) ≡ p.exception_count
