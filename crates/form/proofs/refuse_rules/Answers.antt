-- What is not in form is refused. Assumes nothing.
use mathlib.Core.Path.{◌∙◌}
use Rattle.meaning.specs.Form.{refuse_rules}
use Rattle.form.proofs.refuse_rules.Goals as goal

pub returns : goal.returns
unfolding refuse_rules
returns c = c.refuse_unless.ensures ∙ simp c.rules_in_form.ensures
