-- What is not in form is refused. Assumes nothing.
use mathlib.Core.Path.{◌∙◌}
use Rattle.meaning.specs.Form.{refuse_packet}
use Rattle.form.proofs.refuse_packet.Goals as goal

pub returns : goal.returns
unfolding refuse_packet
returns c = c.refuse_unless.ensures ∙ simp c.in_form.ensures
