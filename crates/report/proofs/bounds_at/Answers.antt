-- The bounds, copied. Assumes nothing.
use mathlib.Core.Path.{◌∙◌, refl}
use Prim.Native.Nat.{◌+◌}
use borrow.Author.Rules.{rules}
use Rattle.meaning.specs.Sizes.{block_bounds}
use Rattle.report.proofs.RowLines.{bounds_copied}
use Rattle.report.proofs.bounds_at.Goals as goal

pub returns : goal.returns
returns c =
    let a = c.args in
    c.write_numbers.ensures ∙ bounds_copied _ a.rows.now a.from (a.from + block_bounds) refl (search rules) c.requires
