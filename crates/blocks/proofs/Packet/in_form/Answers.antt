-- A packet is in form if the widest block holds it. Assumes nothing.
use mathlib.Core.Path.{◌∙◌, sym}
use Rattle.meaning.specs.Fields.{widths}
use Rattle.blocks.specs.Vocabulary.{packet_of}
use Rattle.blocks.proofs.Widest.{packet_form_by_widest}
use Rattle.blocks.proofs.Packet.in_form.Goals as goal

pub returns : goal.returns
returns c = c.holds.ensures ∙ sym (packet_form_by_widest widths (packet_of c.args.self))
