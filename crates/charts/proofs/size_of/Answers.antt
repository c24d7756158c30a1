-- By the widest block. Assumes nothing.
use mathlib.Core.Path.{◌∙◌, ap}
use Prim.Native.Nat.{ℕ, ◌+◌}
use Rattle.meaning.specs.Buffers.{bounds}
use Rattle.charts.proofs.FieldSizes.{size_is}
use Rattle.charts.proofs.size_of.Goals as goal

pub returns : goal.returns
returns c =
    let widest = c.into-widest.ensures ∙ ap bounds c.widest.ensures in
    ap (λ (high : ℕ). high + 1) c.from.ensures ∙ size_is _ _ widest c.requires
