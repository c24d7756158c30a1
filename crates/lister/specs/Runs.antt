-- Runs of strips, and the listing below a field.
use Rattle.std.specs.Prelude.{List, ◌≡◌, ℕ, ◌+◌, ◌*◌, ◌^◌, ◌≤◌, ◌<◌, length, get_or}
use Rattle.meaning.specs.Labels.{Label, good}
use Rattle.meaning.specs.Listings.{Listed}
use Rattle.meaning.specs.Sizes.{field_places, all_places}
use Rattle.meaning.proofs.LabelKinds.{same_label, same_label_iff}
use Rattle.meaning.proofs.ListingExists.{listing_of}
use Rattle.cells.specs.declared.Left.{Left}
use Rattle.cells.specs.Cells.{Chart, step, cell_label, below, Same}

-- the run of strips of a field that begins at `strip` has just ended at `next`; the field has `count` strips
pub record RunEnd (w : Chart) (field : ℕ) (s : Left) (count strip next : ℕ) : Type 0 where
  pub rises : strip < next
  pub within : next ≤ count
  pub agrees : (i : ℕ) → strip ≤ i → i < next → Same w (field + 1) (step w field s strip) (step w field s i)
  pub stops : next < count → ¬ Same w (field + 1) (step w field s strip) (step w field s next)

-- the places of all fields stand one after the other; each strip begins at a number of 32 bits, and the number before its end is one
pub record Placed (counts places : List ℕ) : Type 0 where
  pub long : length places ≡ all_places
  pub begins : (field strip : ℕ) → strip < get_or counts field 0 → get_or places (field_places * field + strip) 0 < 2 ^ 32
  pub ends_above : (field strip : ℕ) → strip < get_or counts field 0 → 0 < get_or places (field_places * field + (strip + 1)) 0
  pub ends : (field strip : ℕ) → strip < get_or counts field 0 → get_or places (field_places * field + (strip + 1)) 0 ≤ 2 ^ 32

-- the listing of the cells below a field
unfoldable pub blocks_below : Chart → ℕ → Left → List (Listed Label)
blocks_below w field s = listing_of same_label same_label_iff good (below w field) (cell_label w field s)
