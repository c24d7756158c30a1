-- The lent buffer of numbers that takes a listing.
use Rattle.std.specs.Prelude.{List, [], ◌∷◌, ◌++◌, ℕ, ◌+◌, ◌*◌, ◌/◌, length, take, drop}
use Rattle.meaning.specs.Blocks.{Block}
use Rattle.meaning.specs.Labels.{Label, kind, rule}
use Rattle.meaning.specs.Listings.{Listed}

-- "Low and high of source, destination, protocol, port."
unfoldable pub bounds : Block → List ℕ
bounds [] = []
bounds (s ∷ b) = s.low ∷ s.high ∷ bounds b

-- the block with these bounds, a low and a high one for each span
unfoldable pub spans_of : List ℕ → Block
spans_of [] = []
spans_of (low ∷ []) = []
spans_of (low ∷ high ∷ numbers) = record { low = low; high = high } ∷ spans_of numbers

-- the numbers of a block: kind, rule, bounds
unfoldable pub row : Listed Label → List ℕ
row b = kind b.label ∷ rule b.label ∷ bounds b.block

-- the numbers of blocks, one after the other
unfoldable pub rows : List (Listed Label) → List ℕ
rows [] = []
rows (b ∷ bs) = row b ++ rows bs

-- the numbers that a block takes: ten for four fields
abbrev pub row_length : List ℕ → ℕ
row_length ns = 2 + 2 * length ns

-- "Room is the length divided by the numbers a block takes, rounded down."
abbrev pub room : List ℕ → List ℕ → ℕ
room ns buffer = length buffer / row_length ns

-- numbers written from the front of a buffer; every other number keeps its old value
abbrev pub over : List ℕ → List ℕ → List ℕ
over front buffer = front ++ drop (length front) buffer

-- "The first blocks that fit are written from the front."
unfoldable pub written : List ℕ → List (Listed Label) → List ℕ → List ℕ
written ns blocks buffer = over (rows (take (room ns buffer) blocks)) buffer
