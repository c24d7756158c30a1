use Rattle.std.proofs.Common.{rules}
use Rattle.cells.proofs.Comparing.{compared_end, compared_more, compared_skip, compared_stop, told_last}
use Rattle.cells.proofs.Telling.{told_false, told_true}
use Rattle.cells.proofs.Chart.+alike.Goals as goal

pub returns-then-field-self : goal.returns-then-field-self
returns-then-field-self t c =
    told_last _ _ _ _ c.eq-then-field-self.result c.if-field-self.true (search rules)

pub returns-then-not-alike : goal.returns-then-not-alike
returns-then-not-alike t c =
    let differ = told_false c.if-not-alike.true c.alike.ensures in
    compared_stop _ _ _ _ _ _ _ _ c.loop-strip.invariant _ _ c.loop-strip-test.true c.left_at.ensures c.left_at-in-loop-strip.ensures
    differ

pub loop-strip-preserved-then-eq-2 : goal.loop-strip-preserved-then-eq-2
loop-strip-preserved-then-eq-2 t c =
    compared_skip _ _ _ _ _ _ _ _ c.loop-strip.invariant _ _ c.loop-strip-test.true c.left_at.ensures c.left_at-in-loop-strip.ensures
    (search rules)

pub loop-strip-preserved : goal.loop-strip-preserved
loop-strip-preserved t c =
    let same = told_true c.if-not-alike.false c.alike.ensures in
    compared_more _ _ _ _ _ _ _ _ c.loop-strip.invariant _ _ c.loop-strip-test.true c.left_at.ensures c.left_at-in-loop-strip.ensures same

pub returns : goal.returns
returns t c = compared_end _ _ _ _ _ _ _ _ c.loop-strip.invariant c.loop-strip-test.false
