-- "What reading carries from line to line is the text, the next place and the line number."
use Rattle.std.specs.Prelude.{List, ℕ, ◌+◌, min, length, drop}
use Rattle.parts.specs.Parts.{Piece, part}
use Rattle.parts.specs.Words.{newline}
use Rattle.lines.specs.declared.Cursor.{Cursor}
use Rattle.lines.specs.declared.Lines.{Lines}

-- the bytes of the line from a place on, without its byte 10; none past the end
abbrev pub line_at : List ℕ → ℕ → List ℕ
line_at text at = part newline (drop at text) 0

-- that line with its place; past the end, the empty part there
abbrev pub line_from : List ℕ → ℕ → Piece
line_from text at = record { place = min at (length text); bytes = line_at text at }

-- the place behind that line and its byte 10
abbrev pub place_after : List ℕ → ℕ → ℕ
place_after text at = (min at (length text) + length (line_at text at)) + 1

-- the largest place that a machine word holds
abbrev pub last_place : ℕ
last_place = 18446744073709551615

-- the place behind a line of this length, as far as a machine word holds it
abbrev pub place_behind : ℕ → ℕ → ℕ
place_behind at size = min ((at + size) + 1) last_place

-- the largest line number that 32 bits hold
abbrev pub last_line : ℕ
last_line = 4294967295

-- the next line's number, as far as 32 bits hold it
abbrev pub line_after : ℕ → ℕ
line_after line = min (line + 1) last_line

-- the cursor behind the line at a cursor
abbrev pub cursor_after : List ℕ → Cursor → Cursor
cursor_after text c = record { at = place_after text c.at; line = line_after c.line }

-- the cursor behind a line of this length at a cursor
abbrev pub cursor_behind : Cursor → ℕ → Cursor
cursor_behind c size = record { at = place_behind c.at size; line = line_after c.line }

-- the reader behind its line
abbrev pub next_of : Lines → Lines
next_of r = record { text = r.text; at = place_after r.text.now r.at; line = line_after r.line }
