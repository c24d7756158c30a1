-- The third field is read by its own reader. Assumes nothing.
use mathlib.Core.Path.{sym, ap, ◌∙◌}
use Rattle.sets.specs.declared.Reason.TheVariants.{ProtocolUnread, RangeFalls}
use Rattle.records.specs.Readers.{Reader, check}
use Rattle.records.proofs.Fieldwise.{reads_protocol}
use Rattle.records.proofs.read_field.Goals as goal

pub returns-in-2 : goal.returns-in-2
returns-in-2 c =
    let a = c.args in
    let by = reads_protocol a.field c.in-2.is in
    c.check.ensures ∙ ap (check ProtocolUnread RangeFalls) c.protocol.ensures ∙ ap (λ (r : Reader). r a.text.now) (sym by)
