-- A directive asks for its own action where its block holds the packet and no exception does, for the other where one does.
-- Assumes nothing.
use mathlib.Core.Bool.{Bool, not}
use mathlib.Core.Path.{sym, ap, ◌∙◌}
use Rattle.meaning.specs.Blocks.{holds}
use Rattle.blocks.specs.Vocabulary.{block_of, packet_of}
use Rattle.sets.specs.Vocabulary.{action_of}
use Rattle.labels.specs.Inner.{asked_by}
use Rattle.labels.proofs.Asking.{own_excepted, other_asked}
use Rattle.labels.proofs.Judging.{same_as}
use Rattle.labels.proofs.asks.Goals as goal

pub returns-then-not-excepted : goal.returns-then-not-excepted
returns-then-not-excepted c = c.holds.ensures ∙ simp (c.if-not-excepted.true, ← same_as, ← c.eq.ensures, c.if-eq.true)

pub returns-else-not-excepted : goal.returns-else-not-excepted
returns-else-not-excepted c =
    let a = action_of c.args.action in
    let own = action_of c.args.directive.now.action in
    let held = holds (block_of c.args.directive.now.block) (packet_of c.args.packet) in
    ap not c.if-not-excepted.false
    ∙ sym (ap (λ (x : Bool). asked_by a own x held) c.if-not-excepted.false ∙ own_excepted a own held (sym (same_as _ _) ∙ sym c.eq.ensures ∙ c.if-eq.true))

pub returns-else-eq : goal.returns-else-eq
returns-else-eq c =
    let a = action_of c.args.action in
    let own = action_of c.args.directive.now.action in
    let held = holds (block_of c.args.directive.now.block) (packet_of c.args.packet) in
    sym (other_asked a own held c.args.excepted (sym (same_as _ _) ∙ sym c.eq.ensures ∙ c.if-eq.false))
