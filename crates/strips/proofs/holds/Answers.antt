-- By the first test, on the span of block j. Assumes nothing.
use mathlib.Core.Path.{ap, ◌∙◌}
use Prim.Native.Nat.{ℕ}
use native.Mathlib.Omega.{arith}
use lib.Dec.{leb}
use Rattle.bounds.specs.Spans.{span_in}
use Rattle.strips.proofs.SpanMasks.{within_from, within_below}
use Rattle.strips.proofs.holds.Goals as goal

pub returns-then-from-x : goal.returns-then-from-x
returns-then-from-x c =
    let args = c.args in
    ap (leb args.x) c.from-then-from-x.ensures ∙ within_from (span_in args.numbers.now args.field args.j) args.x (omega (arith, c.from.ensures))

pub returns-else-from-x : goal.returns-else-from-x
returns-else-from-x c =
    let args = c.args in
    ap (λ (low : ℕ). leb low args.x) c.from.ensures ∙ within_below (span_in args.numbers.now args.field args.j) args.x (omega (arith, c.from.ensures))
