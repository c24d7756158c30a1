-- It is what the toolchain's library spells.
use mathlib.Core.Path.{◌∙◌}
use borrow.Author.Rules.{rules}
use Rattle.putting.proofs.Decimals.{fewest_decimal}
use Rattle.putting.proofs.Putting.{on_same}
use Rattle.putting.proofs.Output.put_decimal.Goals as goal

pub returns : goal.returns
returns c = on_same (c.decimal-count.ensures.digits ∙ fewest_decimal _ _ (search rules) c.decimal-count.ensures.len) c.put_bytes.ensures
