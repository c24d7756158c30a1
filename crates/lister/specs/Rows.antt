-- Blocks of strips as rows of numbers, and rows in a buffer.
use Rattle.std.specs.Prelude.{cond, List, [], ◌∷◌, ◌++◌, ◌≡◌, ℕ, ◌+◌, ◌*◌, ◌-◌, ◌/◌, ltb, length, get_or, take, drop}
use Rattle.std.proofs.lemmas.List.Edits.{sets}
use Rattle.meaning.specs.Blocks.{Span, Block}
use Rattle.meaning.specs.Buffers as buffers
use Rattle.meaning.specs.Labels.{Label, kind, rule}
use Rattle.meaning.specs.Listings.{Listed}
use Rattle.meaning.specs.Sizes.{field_count, row_numbers, field_places}

-- the bounds of the first fields in a row, which come after its kind and rule
abbrev pub bounds : ℕ → List ℕ → List ℕ
bounds field row = take (2 * field) (drop 2 row)

-- the row with the kind and rule of a label
unfoldable pub labelled_row : List ℕ → Label → List ℕ
labelled_row row l = kind l ∷ rule l ∷ bounds field_count row

-- r is the row with the kind and rule of the label
abbrev pub RowLabelled : List ℕ → Label → List ℕ → Type 0
RowLabelled row l r = r ≡ labelled_row row l

-- r is the row with the bounds of a field behind those of the fields before
pub record RowWith (row : List ℕ) (field : ℕ) (s : Span) (r : List ℕ) : Type 0 where
  pub more : bounds (field + 1) r ≡ bounds field row ++ (s.low ∷ s.high ∷ [])

-- The places of all fields stand one after the other. The numbers of a field from where strip `low` begins to where
-- strip `high` has ended:
abbrev pub span_at : List ℕ → ℕ → ℕ → ℕ → Span
span_at places field low high = record { low = get_or places (field_places * field + low) 0; high = get_or places (field_places * field + (high + 1)) 0 - 1 }

-- a block of strips, from a field on, as a block of numbers
abbrev pub stretched : List ℕ → ℕ → Block → Block
stretched places field [] = []
stretched places field (s ∷ b) = span_at places field s.low s.high ∷ stretched places (field + 1) b

-- a listed block of strips as a row, where the bounds of the fields before stand in front
abbrev pub row_of : List ℕ → ℕ → List ℕ → Listed Label → List ℕ
row_of places field front b = kind b.label ∷ rule b.label ∷ (front ++ buffers.bounds (stretched places field b.block))

-- a row written as row t of a buffer, if there is room for the whole of it
unfoldable pub row_at : List ℕ → ℕ → List ℕ → List ℕ
row_at buffer t row = cond (ltb t (length buffer / row_numbers)) (sets buffer (row_numbers * t) row) buffer

-- rows written from row t on
abbrev pub rows_from : List ℕ → ℕ → List (List ℕ) → List ℕ
rows_from buffer t [] = buffer
rows_from buffer t (r ∷ rs) = rows_from (row_at buffer t r) (t + 1) rs
