-- What is not in form is refused. Assumes nothing.
use mathlib.Core.Path.{◌∙◌}
use Rattle.meaning.specs.Form.{refuse_policy}
use Rattle.form.proofs.refuse_policy.Goals as goal

pub returns : goal.returns
unfolding refuse_policy
returns c = c.refuse_unless.ensures ∙ simp c.policy_in_form.ensures
