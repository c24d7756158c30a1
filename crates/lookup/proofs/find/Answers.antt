use mathlib.Core.Path.{◌∙◌}
use native.Mathlib.Omega.{arith}
use Rattle.lines.proofs.Stepping.{found_after}
use Rattle.lookup.proofs.Seeking.{line_told, seek_past, seek_other}
use Rattle.lookup.proofs.find.Goals as goal

pub loop-cursor-preserved-then-is_named : goal.loop-cursor-preserved-then-is_named
loop-cursor-preserved-then-is_named c =
    let next = c.behind-cursor in
    let line = c.line_at-line in
    let at = c.loop-cursor in
    let a = c.args in
    let told = line_told a.text line.result at.cursor.at a.word.now c.is_named.result line.ensures c.is_named.ensures in
    let moved = found_after a.text line.result at.cursor line.ensures (omega arith) (omega arith) next.result next.ensures in
    seek_past a.word.now c.requires a.text.now a.n at.cursor at.left at.invariant (omega arith) next.result moved
    (told ∙ c.if-is_named.true) c.if-left-eq1.false c.saturating_sub-left.result c.saturating_sub-left.ensures

pub loop-cursor-preserved : goal.loop-cursor-preserved
loop-cursor-preserved c =
    let next = c.behind-cursor in
    let line = c.line_at-line in
    let at = c.loop-cursor in
    let a = c.args in
    let told = line_told a.text line.result at.cursor.at a.word.now c.is_named.result line.ensures c.is_named.ensures in
    let moved = found_after a.text line.result at.cursor line.ensures (omega arith) (omega arith) next.result next.ensures in
    seek_other a.word.now c.requires a.text.now a.n at.cursor at.left at.invariant (omega arith) next.result moved (told ∙ c.if-is_named.false)
