-- The first cell of the lowest rank.
use Rattle.std.specs.Prelude.{Option, Some, None, List, ◌≡◌, ℕ, ◌≤◌, ◌<◌, drop}
use Rattle.meaning.specs.Fields.{InRange}
use Rattle.meaning.specs.Labels.{Label}
use Rattle.meaning.specs.Sizes.{good_rank}
use Rattle.meaning.specs.Form.{most_rules}
use Rattle.meaning.proofs.VerdictRanks.{rank, FirstOf}
use Rattle.cells.specs.declared.Left.{Left}
use Rattle.cells.specs.Cells.{Chart, cell_label}
use Rattle.judge.specs.declared.Best.{Best}

-- the rank of a cell's label: 0 for conflict, the rule's number, and behind every rule unmet and good
abbrev pub cell_rank : Chart → ℕ → Left → List ℕ → ℕ
cell_rank w field s cell = rank most_rules (cell_label w field s cell)

-- n is the rank of the label
abbrev pub RankOf : Label → ℕ → Type 0
RankOf l n = n ≡ rank most_rules l

-- no cell has a rank below the limit
abbrev pub NoneBelow : List ℕ → (List ℕ → ℕ) → ℕ → Type 0
NoneBelow ns r limit = (q : List ℕ) → InRange ns q → limit ≤ r q

-- the cell is the first of the lowest rank, and this rank is n, below the limit
pub record FirstBelow (ns : List ℕ) (r : List ℕ → ℕ) (limit n : ℕ) (cell : List ℕ) : Type 0 where
  pub first_of : FirstOf ns r cell
  pub is_rank : n ≡ r cell
  pub is_below : n < limit

-- the best of the cells, if it is better than the limit: the first of the lowest rank, whose strips stand behind those of so many
-- fields; there is none, if no cell is better
abbrev pub BetterThan : List ℕ → (List ℕ → ℕ) → ℕ → ℕ → Option Best → Type 0
BetterThan ns r field limit None = NoneBelow ns r limit
BetterThan ns r field limit (Some b) = FirstBelow ns r limit b.rank (drop field b.strips)

-- the best of all cells: the first of the lowest rank, or none if none is below the rank of good
abbrev pub BestOf : List ℕ → (List ℕ → ℕ) → Option Best → Type 0
BestOf ns r None = NoneBelow ns r good_rank
BestOf ns r (Some b) = FirstBelow ns r good_rank b.rank b.strips
