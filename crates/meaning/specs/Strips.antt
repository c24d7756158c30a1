-- Strips: the stretches of a field between neighbouring places.
use Rattle.std.specs.Prelude.{◌≡◌, Bool, true, false, ◌&&◌, ◌||◌, List, [], ◌∷◌, map, ℕ, suc, ◌-◌, ◌≤◌, ◌<◌, eqb, length, get_or}
use Rattle.meaning.specs.Blocks.{Block}
use Rattle.meaning.specs.Fields.{Packet}
use Rattle.meaning.specs.Listings.{Listed}
use Rattle.meaning.specs.Policies.{Policy, Directive}
use Rattle.meaning.specs.Records.{some_of, all_of}
use Rattle.meaning.specs.Rules.{Rule, Table}

-- A field cut at places: they rise from 0, each once, and none is past the field's largest number.
pub record Cut : Type 0 where
  pub size : ℕ
  pub places : List ℕ
  pub from_zero : get_or places 0 size ≡ 0
  pub rising : (i : ℕ) → i < length places → get_or places i size < get_or places (suc i) size

-- the number of strips: one begins at each place
abbrev pub strips : Cut → ℕ
strips c = length c.places

-- the place where strip i begins; the size, if i is past the last
abbrev pub place : Cut → ℕ → ℕ
place c i = get_or c.places i c.size

-- the sizes of cut fields
abbrev pub sizes : List Cut → List ℕ
sizes cs = map (λ (c : Cut). c.size) cs

-- their numbers of strips
abbrev pub counts : List Cut → List ℕ
counts cs = map strips cs

-- the packet p lies in the cell of the strips `cell`, one for each field
pub data InCell : List Cut → List ℕ → Packet → Type 0 where
  cell_none : InCell [] [] []
  cell_more : {c : Cut} {cs : List Cut} {i x : ℕ} {cell : List ℕ} {p : Packet}
      → i < strips c
      → place c i ≤ x
      → x < place c (suc i)
      → InCell cs cell p
      → InCell (c ∷ cs) (i ∷ cell) (x ∷ p)

-- the low corner of a cell
unfoldable pub corner : List Cut → List ℕ → Packet
corner [] cell = []
corner (c ∷ cs) [] = []
corner (c ∷ cs) (i ∷ cell) = place c i ∷ corner cs cell

-- a block of strips as a block of numbers: from where its first strip begins to where its last has ended
unfoldable pub stretch : List Cut → Block → Block
stretch [] b = []
stretch (c ∷ cs) [] = []
stretch (c ∷ cs) (s ∷ b) = record { low = place c s.low; high = place c (suc s.high) - 1 } ∷ stretch cs b

module _ {L : Type 0} where
  -- f is constant on strips: at a packet it is what h is at the packet's cell
  abbrev pub ByCells : List Cut → (List ℕ → L) → (Packet → L) → Type 0
  ByCells cs h f = (cell : List ℕ) (p : Packet) → InCell cs cell p → f p ≡ h cell

  -- a listed block of strips as a listed block of numbers
  abbrev pub lift : List Cut → Listed L → Listed L
  lift cs b = record { block = stretch cs b.block; label = b.label }

-- x is a place, or the size
unfoldable pub is_place : Cut → ℕ → Bool
is_place c x = eqb x c.size || some_of (λ (y : ℕ). eqb x y) c.places

-- the cuts have a place where the block begins and one where it has just ended, in every field
unfoldable pub cut_at : List Cut → Block → Bool
cut_at [] [] = true
cut_at [] (s ∷ b) = false
cut_at (c ∷ cs) [] = false
cut_at (c ∷ cs) (s ∷ b) = is_place c s.low && is_place c (suc s.high) && cut_at cs b

-- the same for the block and the exceptions of a directive
unfoldable pub cut_for_directive : List Cut → Directive → Bool
cut_for_directive cs d = cut_at cs d.block && all_of (cut_at cs) d.exceptions

-- the same for every block of a table and a policy
unfoldable pub cut_for : List Cut → Table → Policy → Bool
cut_for cs rules policy = all_of (λ (r : Rule). cut_at cs r.block) rules && all_of (cut_for_directive cs) policy.directives
