use mathlib.Core.Path.{refl}
use native.Mathlib.Omega.{arith}
use Rattle.cells.proofs.Telling.{told_false, told_true}
use Rattle.lister.proofs.Ending.{reached_end, reached_more, reached_start, reached_stop}
use Rattle.lister.proofs.run_end.Goals as goal

pub left_at-before-requires : goal.left_at-before-requires
left_at-before-requires c =
    omega (arith, c.requires.field_in_bounds, c.requires.strip_in_bounds, c.requires.formed.long, c.requires.formed.few c.args.field)

pub loop-next-init : goal.loop-next-init
loop-next-init c =
    reached_start _ _ _ _ _ _ c.requires.formed refl c.requires.strip_in_bounds c.left_at-before.ensures

pub left_at-here-requires : goal.left_at-here-requires
left_at-here-requires c =
    omega (arith, c.requires.field_in_bounds, c.requires.formed.long, c.loop-next.invariant.few, c.loop-next-test.true)

pub alike-requires : goal.alike-requires
alike-requires c =
    record { field_in_bounds = omega (arith, c.requires.field_in_bounds); formed = c.requires.formed }

pub loop-next-preserved : goal.loop-next-preserved
loop-next-preserved c =
    let same = told_true c.if-not-alike.false c.alike.ensures in
    reached_more _ _ _ _ _ _ _ c.loop-next.invariant _ c.loop-next-test.true c.left_at-here.ensures same

pub returns-then-not-alike : goal.returns-then-not-alike
returns-then-not-alike c =
    let differ = told_false c.if-not-alike.true c.alike.ensures in
    reached_stop _ _ _ _ _ _ _ c.loop-next.invariant _ c.left_at-here.ensures differ

pub returns : goal.returns
returns c = reached_end _ _ _ _ _ _ _ c.loop-next.invariant c.loop-next-test.false
