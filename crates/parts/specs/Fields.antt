-- "A field is the part of the line between two tabs, the line's two ends standing for tabs."
use Rattle.std.specs.Prelude.{cond, List, [], ℕ, ◌-◌, eqb, length}
use Rattle.parts.specs.Parts.{Piece, piece, parts}
use Rattle.parts.specs.Words.{tab}

-- field n, counted from 1, with its place; "one that the line lacks is the empty part at its end", and so is field 0
abbrev pub field_piece : List ℕ → ℕ → Piece
field_piece line n = cond (eqb n 0) (record { place = length line; bytes = [] }) (piece tab line (n - 1))

-- its bytes
abbrev pub field : List ℕ → ℕ → List ℕ
field line n = (field_piece line n).bytes

-- how many fields a line has
abbrev pub field_count : List ℕ → ℕ
field_count line = length (parts tab line)
