-- A block is in form if it rises and lies inside the widest. Assumes nothing.
use mathlib.Core.Path.{◌∙◌, sym}
use Rattle.meaning.specs.Fields.{widths}
use Rattle.blocks.specs.Vocabulary.{block_of}
use Rattle.blocks.proofs.Widest.{block_form_by_widest}
use Rattle.blocks.proofs.Block.in_form.Goals as goal

pub returns-then-rising : goal.returns-then-rising
returns-then-rising c = c.inside.ensures ∙ sym (block_form_by_widest widths (block_of c.args.self) ∙ simp (← c.rising.ensures, c.if-rising.true))

pub returns-else-rising : goal.returns-else-rising
returns-else-rising c =
    c.if-rising.false ∙ sym (block_form_by_widest widths (block_of c.args.self) ∙ simp (← c.rising.ensures, c.if-rising.false))
