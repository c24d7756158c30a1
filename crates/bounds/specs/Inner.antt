-- Words of private contracts; no public contract uses them.
use Rattle.std.specs.Prelude.{List, ℕ, ◌*◌}
use Rattle.std.proofs.lemmas.List.Edits.{sets}
use Rattle.meaning.specs.Blocks.{Block}
use Rattle.meaning.specs.Sizes.{block_bounds}
use Rattle.bounds.specs.Spans.{numbers_of}

-- an array with the numbers of blocks stored in it, behind those of so many others
abbrev pub put_behind : List ℕ → ℕ → List Block → List ℕ
put_behind numbers before blocks = sets numbers (block_bounds * before) (numbers_of blocks)
