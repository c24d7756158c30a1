-- The set is in form just if its count is within the limit, and all rules within it are. Assumes nothing.
use mathlib.Core.Path.{sym, ◌∙◌}
use borrow.Author.Rules.{rules}
use borrow.Author.Tests.{le-leb, lt-leb}
use lib.ListN.{take}
use Rattle.std.proofs.lemmas.Iterator.{YieldsList-from_slice}
use Rattle.std.proofs.lemmas.Iterator.Search.{all_from_yields_List}
use Rattle.std.proofs.lemmas.List.{take-map}
use Rattle.meaning.specs.Form.{rules_in_form}
use Rattle.sets.specs.declared.Rule.{Rule}
use Rattle.sets.specs.Vocabulary.{rule_of}
use Rattle.sets.specs.Inner.{in_form}
use Rattle.form.proofs.Records.{all_mapped}
use Rattle.form.proofs.rules_in_form.Goals as goal

pub returns-then-rules-le-MOST_RULES : goal.returns-then-rules-le-MOST_RULES
unfolding rules_in_form
returns-then-rules-le-MOST_RULES c =
    let s = c.args.rules in
    all_from_yields_List (λ (r : Rule). in_form (rule_of r)) _ _ _ c.all.ensures.ran
    (YieldsList-from_slice (take s.count s.records) (search rules)) (λ x b q k. search rules)
    ∙ sym (simp (le-leb _ _ c.if-rules-le-MOST_RULES.true, take-map rule_of, all_mapped rule_of in_form))

pub returns-else-rules-le-MOST_RULES : goal.returns-else-rules-le-MOST_RULES
unfolding rules_in_form
returns-else-rules-le-MOST_RULES c = simp (lt-leb _ _ c.if-rules-le-MOST_RULES.false)
