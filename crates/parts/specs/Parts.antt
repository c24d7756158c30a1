-- The parts of a text between separators: lines by byte 10, fields by tabs, and what dots, slashes and minus signs part.
use Rattle.std.specs.Prelude.{Bool, true, false, ◌&&◌, cond, List, [], ◌∷◌, ℕ, ◌+◌, eqb, length, get_or}
use Rattle.std.specs.Borrow.{Bor}
use Rattle.contracts.specs.Answers.{Seen}

-- one byte more at the front of the first part
abbrev pub onto : ℕ → List (List ℕ) → List (List ℕ)
onto x [] = (x ∷ []) ∷ []
onto x (p ∷ ps) = (x ∷ p) ∷ ps

-- what stands between two separators, the text's two ends standing for separators
abbrev pub parts : ℕ → List ℕ → List (List ℕ)
parts sep [] = [] ∷ []
parts sep (x ∷ xs) = cond (eqb x sep) ([] ∷ parts sep xs) (onto x (parts sep xs))

-- part n, counted from 0; the empty text, where there are fewer
abbrev pub part : ℕ → List ℕ → ℕ → List ℕ
part sep xs n = get_or (parts sep xs) n []

-- a part of a text with the place where it starts
pub record Piece : Type 0 where
  pub place : ℕ
  pub bytes : List ℕ

-- the parts with their places, where the first starts at a place and one separator stands behind each
abbrev pub pieces_from : ℕ → List (List ℕ) → List Piece
pieces_from at [] = []
pieces_from at (p ∷ ps) = record { place = at; bytes = p } ∷ pieces_from ((at + length p) + 1) ps

-- the parts of a whole text, with their places
abbrev pub pieces : ℕ → List ℕ → List Piece
pieces sep xs = pieces_from 0 (parts sep xs)

-- part n with its place; where there are fewer, the empty part at the end
abbrev pub piece : ℕ → List ℕ → ℕ → Piece
piece sep xs n = get_or (pieces sep xs) n (record { place = length xs; bytes = [] })

-- a piece as a part of the caller's slice: the same memory, from the piece's place on
abbrev pub shown : Bor (List ℕ) → Piece → Seen
shown s p = ((s.ref_ptr.0, p.place + s.ref_ptr.1), p.bytes)

-- the same bytes
abbrev pub same : List ℕ → List ℕ → Bool
same [] [] = true
same [] (y ∷ ys) = false
same (x ∷ xs) [] = false
same (x ∷ xs) (y ∷ ys) = eqb x y && same xs ys
