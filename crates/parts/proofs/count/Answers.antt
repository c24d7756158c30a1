-- There is one part more than separators. Assumes nothing.
use mathlib.Core.Path.{◌≡◌, ap, ◌∙◌}
use Prim.Native.Nat.{◌+◌, ℕ}
use borrow.Author.Rules.{rules}
use lib.Dec.{eqb}
use Rattle.std.specs.List.{count_by}
use Rattle.parts.proofs.Parting.{parts_count}
use Rattle.parts.proofs.count.Goals as goal

pub returns : goal.returns
returns c =
    let counted : c.count.result ≡ count_by (λ x. eqb x c.args.separator) c.args.text.now = search rules in
    ap (λ (n : ℕ). n + 1) counted ∙ parts_count c.args.separator c.args.text.now
