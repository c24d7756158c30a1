-- Each test is made in turn, and the first that fails settles it. Assumes nothing.
use native.Mathlib.Omega.{arith}
use mathlib.Core.Path.{sym, ◌∙◌}
use borrow.Author.Rules.{rules}
use lib.ListN.{take}
use Rattle.std.proofs.lemmas.Iterator.{YieldsList-from_slice}
use Rattle.std.proofs.lemmas.Iterator.Search.{all_from_yields_List}
use Rattle.sets.specs.declared.Directive.{Directive}
use Rattle.sets.specs.Vocabulary.{directive_of}
use Rattle.sets.specs.Inner.{in_form}
use Rattle.form.proofs.Records.{many_directives, many_exceptions, policy_within}
use Rattle.form.proofs.policy_in_form.Goals as goal

pub returns-then-policy-gt-MOST_DIRECTIVES : goal.returns-then-policy-gt-MOST_DIRECTIVES
returns-then-policy-gt-MOST_DIRECTIVES c = grind (arith, many_directives, many_exceptions)

pub returns-then-all : goal.returns-then-all
returns-then-all c =
    let s = c.args.policy in
    let all =
    all_from_yields_List (λ (d : Directive). in_form (directive_of d)) _ _ _ c.all.ensures.ran
    (YieldsList-from_slice (take s.directive_count s.directives) (search rules)) (λ x b q k. search rules) in
    let passed = sym all ∙ c.if-all.true in
    c.exceptions_in_form.ensures ∙ sym (policy_within s c.if-policy-gt-MOST_DIRECTIVES.false c.if-policy-gt-MOST_EXCEPTIONS.false ∙ simp passed)

pub returns-else-all : goal.returns-else-all
returns-else-all c =
    let s = c.args.policy in
    let all =
    all_from_yields_List (λ (d : Directive). in_form (directive_of d)) _ _ _ c.all.ensures.ran
    (YieldsList-from_slice (take s.directive_count s.directives) (search rules)) (λ x b q k. search rules) in
    let failed = sym all ∙ c.if-all.false in
    c.if-all.false ∙ sym (policy_within s c.if-policy-gt-MOST_DIRECTIVES.false c.if-policy-gt-MOST_EXCEPTIONS.false ∙ simp failed)
