-- The first refusal is told. Assumes nothing.
use mathlib.Core.Path.{◌≡◌, ap, sym, ◌∙◌}
use borrow.Author.Rules.{rules}
use Rattle.std.specs.Prelude.{Err}
use Rattle.meaning.specs.Form.{refuse_label}
use Rattle.sets.specs.Vocabulary.{refused_of}
use Rattle.form.proofs.Orders.{first_passed, first_told}
use Rattle.form.proofs.refuse_label.Goals as goal

pub returns-in_err-refuse_sets : goal.returns-in_err-refuse_sets
unfolding refuse_label
returns-in_err-refuse_sets c =
    let told : c.from_residual.result ≡ Err c.in_err-refuse_sets.field-0.0 = search rules in
    ap refused_of told ∙ sym (first_told _ _ _ c.refuse_sets.ensures _ c.in_err-refuse_sets.was)

pub returns : goal.returns
unfolding refuse_label
returns c = c.refuse_packet.ensures ∙ sym (first_passed _ _ _ c.refuse_sets.ensures _ c.in_ok-refuse_sets.was)
