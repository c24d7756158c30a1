-- The fault listing, over any labels of which one is good.
use Rattle.std.specs.Prelude.{◌≡◌, cond, List, [], ◌∷◌, ◌++◌, map, ℕ, suc, ◌≤◌, ◌<◌}
use Rattle.meaning.specs.Blocks.{Span, Block, holds}
use Rattle.meaning.specs.Fields.{Packet, InRange, Before}
use Rattle.meaning.specs.Labels.{Label, label}
use Rattle.meaning.specs.Policies.{Policy}
use Rattle.meaning.specs.Records.{Every}
use Rattle.meaning.specs.Rules.{Table}

-- a block of the listing
pub record Listed (L : Type 0) : Type 0 where
  pub block : Block
  pub label : L

-- what it is for blocks to be listed for labels
abbrev pub Lister : Type 0 → Type 1
Lister L = (Packet → L) → List (Listed L) → Type 0

module _ {L : Type 0} where
  -- f with its first number fixed at x, as labels of the other numbers
  abbrev pub at : (Packet → L) → ℕ → Packet → L
  at f x p = f (x ∷ p)

  -- the labels f and g are the same for every packet in range
  abbrev pub Agree : List ℕ → (Packet → L) → (Packet → L) → Type 0
  Agree ns f g = (p : Packet) → InRange ns p → f p ≡ g p

  -- a block of the later fields, with the first field from low to high
  abbrev pub widen : ℕ → ℕ → Listed L → Listed L
  widen low high b = record { block = record { low = low; high = high } ∷ b.block; label = b.label }

  -- "Gather maximal runs of neighbours whose labels agree": the first field, of size n, falls into runs from `low` on. The
  -- blocks are those that Inner lists for each run, as met; ns are the sizes of the fields that Inner is left with.
  pub data Runs (ns : List ℕ) (Inner : Lister L) (n : ℕ) (f : Packet → L) : ℕ → List (Listed L) → Type 0 where
    no_more : {low : ℕ} → n ≤ low → Runs ns Inner n f low []
    run : {low high : ℕ} {blocks later : List (Listed L)}
        → low ≤ high
        → high < n
        -- the run's numbers agree, and the neighbour after them, if there is one, does not
        → ((x : ℕ) → low ≤ x → x ≤ high → Agree ns (at f low) (at f x))
        → (suc high < n → ¬ Agree ns (at f low) (at f (suc high)))
        -- its blocks, and those of the later runs
        → Inner (at f low) blocks
        → Runs ns Inner n f (suc high) later
        → Runs ns Inner n f low (map (widen low high) blocks ++ later)

module _ {L : Type 0} (good : L) where
  -- "Each last run of one label that is not good is a block": no field is left, and l is the label.
  pub data Last (l : L) : List (Listed L) → Type 0 where
    is_good : l ≡ good → Last l []
    at_fault : ¬ (l ≡ good) → Last l (record { block = []; label = l } ∷ [])

  -- "Inside each run do the same" for the next field.
  abbrev pub Listing : List ℕ → Lister L
  Listing [] f blocks = Last (f []) blocks
  Listing (n ∷ ns) f blocks = Runs ns (Listing ns) n f 0 blocks

-- The fault listing of a table and a policy.
abbrev pub FaultListing : List ℕ → Table → Policy → List (Listed Label) → Type 0
FaultListing ns rules policy blocks = Listing Label.good ns (label rules policy) blocks

module _ {L : Type 0} where
  -- what a listing tells of p: the labels of its blocks that hold p, one for each such block
  unfoldable pub told : Packet → List (Listed L) → List L
  told p [] = []
  told p (b ∷ bs) = cond (holds b.block p) (b.label ∷ told p bs) (told p bs)

  -- what it has to tell of a packet whose label is l: nothing if l is good, and l, once, if it is not
  pub data Tells (good l : L) (ls : List L) : Type 0 where
    tells_good : l ≡ good → ls ≡ [] → Tells good l ls
    tells_fault : ¬ (l ≡ good) → ls ≡ l ∷ [] → Tells good l ls

  -- "Order: as met, which is the order of the low corners": each block's comes before those of the later blocks.
  abbrev pub low_corner : Listed L → Packet
  low_corner b = map (λ (s : Span). s.low) b.block

  pub data InOrder : List (Listed L) → Type 0 where
    order_none : InOrder []
    order_more : {b : Listed L} {bs : List (Listed L)} → Every (λ c. Before (low_corner b) (low_corner c)) bs → InOrder bs → InOrder (b ∷ bs)
