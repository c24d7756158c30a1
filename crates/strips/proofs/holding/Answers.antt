use mathlib.Core.Path.{◌∙◌}
use native.Mathlib.Omega.{arith}
use Rattle.layout.proofs.Folding.{byte_is_digit}
use Rattle.strips.proofs.SpanMasks.{holding_start, holding_next}
use Rattle.strips.proofs.holding.Goals as goal

pub loop-j-init : goal.loop-j-init
loop-j-init c = (omega arith, holding_start _ _ _ _)

pub loop-j-preserved : goal.loop-j-preserved
loop-j-preserved c = (
  omega arith,
  holding_next _ _ _ _ (omega arith) (omega arith) (omega arith) c.loop-j.invariant.1 c.holds.ensures
      (c.from.ensures ∙ byte_is_digit c.holds.result),
)
