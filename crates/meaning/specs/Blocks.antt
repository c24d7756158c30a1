-- Blocks, what they hold, and narrowing.
use Rattle.std.specs.Prelude.{Bool, true, false, ◌&&◌, cond, List, [], ◌∷◌, map, ℕ, zero, suc, ◌-◌, min, max, T, leb}
use Rattle.meaning.specs.Fields.{Packet}

-- "A low and a high bound for each field, both included." That no low is above its high is a matter of form (see Form).
pub record Span : Type 0 where
  pub low : ℕ
  pub high : ℕ

abbrev pub Block : Type 0
Block = List Span

-- the span holds x
unfoldable pub within : Span → ℕ → Bool
within s x = leb s.low x && leb x s.high

-- the block holds p: each span its number
unfoldable pub holds : Block → Packet → Bool
holds [] [] = true
holds [] (x ∷ p) = false
holds (s ∷ b) [] = false
holds (s ∷ b) (x ∷ p) = within s x && holds b p

-- the same, as a statement
abbrev pub Holds : Block → Packet → Type 0
Holds b p = T (holds b p)

-- b lies inside c, bound by bound; equal bounds are inside
unfoldable pub inside : Block → Block → Bool
inside [] [] = true
inside [] (t ∷ c) = false
inside (s ∷ b) [] = false
inside (s ∷ b) (t ∷ c) = leb t.low s.low && leb s.high t.high && inside b c

-- a field of size n, open
abbrev pub whole : ℕ → Span
whole n = record { low = 0; high = n - 1 }

-- the widest block, open in all fields
abbrev pub widest : List ℕ → Block
widest ns = map whole ns

-- "The field becomes the numbers it shares with the bounds given": they lie between the higher low and the lower high.
abbrev pub shared : Span → Span → Span
shared s bounds = record { low = max s.low bounds.low; high = min s.high bounds.high }

-- some number is shared
unfoldable pub shares : Span → Span → Bool
shares s bounds = leb (shared s bounds).low (shared s bounds).high

-- "Where it shares none, or the bounds fall, the block stays as it was."
unfoldable pub narrow_span : Span → Span → Span
narrow_span s bounds = cond (shares s bounds) (shared s bounds) s

-- Narrowing a block in its field k, counted from 0, keeps the others as they were.
unfoldable pub narrow : ℕ → Span → Block → Block
narrow k bounds [] = []
narrow zero bounds (s ∷ b) = narrow_span s bounds ∷ b
narrow (suc k) bounds (s ∷ b) = s ∷ narrow k bounds b

-- "The answer says so": whether numbers were shared.
unfoldable pub narrows : ℕ → Span → Block → Bool
narrows k bounds [] = false
narrows zero bounds (s ∷ b) = shares s bounds
narrows (suc k) bounds (s ∷ b) = narrows k bounds b

-- whether bounds given for field k hold p
unfoldable pub bounded : ℕ → Span → Packet → Bool
bounded k bounds [] = false
bounded zero bounds (x ∷ p) = within bounds x
bounded (suc k) bounds (x ∷ p) = bounded k bounds p

-- One narrowing after another, each given by its field and its bounds.
unfoldable pub narrow_all : List (ℕ × Span) → Block → Block
narrow_all [] b = b
narrow_all (n ∷ ns) b = narrow_all ns (narrow n.0 n.1 b)

-- whether each of them shared numbers
unfoldable pub narrows_all : List (ℕ × Span) → Block → Bool
narrows_all [] b = true
narrows_all (n ∷ ns) b = narrows n.0 n.1 b && narrows_all ns (narrow n.0 n.1 b)
