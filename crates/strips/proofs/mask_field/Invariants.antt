-- The invariant: the masks at the first i places are filled. Assumes nothing.
use Prim.Native.Nat.{◌+◌}
use Rattle.bounds.specs.Spans.{spans_in}
use Rattle.strips.proofs.Masking.{Masking}
use Rattle.strips.proofs.mask_field.Given as goal

abbrev pub invariant-loop-i : goal.invariant-loop-i
invariant-loop-i l =
    let b = l.blocks in
    Masking (spans_in l.numbers l.field 0 b.rules) (spans_in l.numbers l.field b.rules b.directives)
    (spans_in l.numbers l.field (b.rules + b.directives) b.exceptions) l.places l.masks l.i
