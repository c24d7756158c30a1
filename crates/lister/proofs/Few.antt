-- How many blocks the cells can have, where no field has more strips than sets within their limits make. Assumes nothing.
use mathlib.Core.Path.{◌≡◌, ap}
use mathlib.Core.List.{List, [], ◌∷◌}
use Prim.Native.Nat.{ℕ, suc, ◌^◌, ◌≤◌}
use native.Mathlib.Omega.{arith}
use lib.ListN.{length, get_or}
use Rattle.meaning.specs.Labels.{good}
use Rattle.meaning.specs.Records.{Every, every_none, every_more}
use Rattle.meaning.specs.Sizes.{field_count, most_listed, most_strips}
use Rattle.meaning.proofs.ListingCount.{listing_few, power}
use Rattle.cells.specs.declared.Left.{Left}
use Rattle.cells.specs.Cells.{Chart, Formed, cell_label, below}
use Rattle.lister.specs.Runs.{blocks_below}
use Rattle.lister.proofs.Listing.{blocks_listed}

-- numbers that are at most m wherever they stand
every_at_most : (m : ℕ) (ns : List ℕ) → ((j : ℕ) → get_or ns j 0 ≤ m) → Every (λ n. n ≤ m) ns
every_at_most m [] h = every_none
every_at_most m (n ∷ ns) h = every_more (h 0) (every_at_most m ns (λ j. h (suc j)))

pub blocks_few : (w : Chart) (s : Left) → length w.counts ≡ field_count → Formed w → length (blocks_below w 0 s) ≤ most_listed
blocks_few w s so_many f =
    omega (
      arith,
      listing_few good (below w 0) (cell_label w 0 s) (blocks_below w 0 s) (blocks_listed w 0 s),
      power most_strips (every_at_most most_strips w.counts f.few),
      ap (λ (k : ℕ). most_strips ^ k) so_many,
    )
