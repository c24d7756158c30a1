-- The table is the powers of two, and its rule is known for every entry. Assumes nothing.
use mathlib.Core.Path.{ap, ◌∙◌}
use native.Mathlib.Omega.{arith}
use Rattle.addresses.specs.Addresses.{size_of}
use Rattle.addresses.proofs.Tables.{entry}
use Rattle.addresses.proofs.size.Goals as goal

pub returns : goal.returns
returns c = entry size_of 33 0 c.args.length (omega arith) ∙ ap size_of (omega arith)
