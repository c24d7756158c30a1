-- The empty sets are in form, hold nothing within their counts, and are zero past them. Assumes nothing.
use mathlib.Core.List.{[]}
use mathlib.Core.Path.{◌≡◌, refl}
use Rattle.meaning.specs.Fields.{fields}
use Rattle.meaning.specs.Form.{unrefused, or_else, table_of, directives_from, policy_of, rules_in_form, exceptions_in_form, policy_in_form, refuse_rules, refuse_policy, refuse_sets}
use Rattle.meaning.specs.Records.{all_of}
use Rattle.sets.specs.Empty.{empty_rules, empty_policy, RulesZeroPast, PolicyZeroPast}
use Rattle.sets.specs.Vocabulary.{rule_set_of, policy_set_of}

pub empty_table : table_of (rule_set_of empty_rules) ≡ []
empty_table = refl

pub empty_directives : (policy_of (policy_set_of empty_policy)).directives ≡ []
unfolding policy_of directives_from
empty_directives = refl

pub empty_sets_in_form : refuse_sets fields (rule_set_of empty_rules) (policy_set_of empty_policy) ≡ unrefused
unfolding refuse_sets refuse_rules refuse_policy or_else rules_in_form policy_in_form exceptions_in_form all_of
empty_sets_in_form = refl

pub empty_rules_zero : RulesZeroPast empty_rules
empty_rules_zero = refl

pub empty_policy_zero : PolicyZeroPast empty_policy
empty_policy_zero = (refl, refl)
