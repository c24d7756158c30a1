-- The first refusal is told. Assumes nothing.
use mathlib.Core.Path.{◌≡◌, ap, sym, ◌∙◌}
use borrow.Author.Rules.{rules}
use Rattle.std.specs.Prelude.{Err}
use Rattle.meaning.specs.Form.{refuse_sets}
use Rattle.sets.specs.Vocabulary.{refused_of}
use Rattle.form.proofs.Orders.{first_passed, first_told}
use Rattle.form.proofs.refuse_sets.Goals as goal

pub returns-in_err-refuse_rules : goal.returns-in_err-refuse_rules
unfolding refuse_sets
returns-in_err-refuse_rules c =
    let told : c.from_residual.result ≡ Err c.in_err-refuse_rules.field-0.0 = search rules in
    ap refused_of told ∙ sym (first_told _ _ _ c.refuse_rules.ensures _ c.in_err-refuse_rules.was)

pub returns : goal.returns
unfolding refuse_sets
returns c = c.refuse_policy.ensures ∙ sym (first_passed _ _ _ c.refuse_rules.ensures _ c.in_ok-refuse_rules.was)
