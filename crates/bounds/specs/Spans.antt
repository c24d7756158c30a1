-- The spans of blocks in an array of numbers: block after block, low and high of each field.
use Rattle.std.specs.Prelude.{List, [], ◌∷◌, ◌++◌, ◌≡◌, ℕ, zero, suc, ◌+◌, ◌*◌, length, get_or, take}
use Rattle.meaning.specs.Blocks.{Span, Block}
use Rattle.meaning.specs.Buffers.{bounds}
use Rattle.meaning.specs.Sizes.{block_bounds}

-- the numbers of blocks, one after the other
unfoldable pub numbers_of : List Block → List ℕ
numbers_of [] = []
numbers_of (b ∷ bs) = bounds b ++ numbers_of bs

-- the numbers of the blocks stand in front of an array
abbrev pub InFront : List Block → List ℕ → Type 0
InFront blocks numbers = take (length (numbers_of blocks)) numbers ≡ numbers_of blocks

-- the span of block j in a field, both counted from 0
abbrev pub span_in : List ℕ → ℕ → ℕ → Span
span_in numbers field j = record { low = get_or numbers (block_bounds * j + 2 * field) 0; high = get_or numbers (block_bounds * j + 2 * field + 1) 0 }

-- the spans of so many blocks from block j on
unfoldable pub spans_in : List ℕ → ℕ → ℕ → ℕ → List Span
spans_in numbers field j zero = []
spans_in numbers field j (suc count) = span_in numbers field j ∷ spans_in numbers field (j + 1) count
