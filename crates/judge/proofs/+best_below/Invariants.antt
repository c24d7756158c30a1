-- It walks strip by strip, down to the labels, and passes over what cannot be better. Assumes nothing.
use Prim.Native.Nat.{◌-◌}
use Rattle.meaning.specs.Sizes.{field_count}
use Rattle.cells.specs.Cells.{chart_of}
use Rattle.judge.proofs.Walking.{Walked}
use Rattle.judge.proofs.+best_below.Given as goal

abbrev pub invariant-loop-strip : goal.invariant-loop-strip
invariant-loop-strip l =
    Walked (chart_of l.chart) l.field l.left l.fn.limit l.strip-end l.strip l.best l.limit l.before

abbrev pub decreases-best_below : goal.decreases-best_below
decreases-best_below l = field_count - l.field
