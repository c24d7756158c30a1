-- The verdict over cells gives the verdict over packets, at the cell's low corner. Assumes nothing.
use mathlib.Core.Path.{◌≡◌, ap}
use mathlib.Core.List.{List}
use Prim.Native.Nat.{ℕ}
use native.Mathlib.Omega.{arith}
use Rattle.meaning.specs.Fields.{Packet, InRange}
use Rattle.meaning.specs.Labels.{Label, good}
use Rattle.meaning.specs.Rules.{Action}
use Rattle.meaning.specs.Strips.{Cut, sizes, counts, corner, ByCells}
use Rattle.meaning.specs.Verdicts.{verdict_at, conforms, IsVerdict}
use Rattle.meaning.proofs.LabelKinds.{Numbered}
use Rattle.meaning.proofs.StripCells.{cell_of, packet_in_range, cell_in_range, corner_in_cell, before_corner}
use Rattle.meaning.proofs.VerdictRanks.{rank, FirstOf, first_is_verdict, first_good_conforms}

module _ (cs : List Cut) (r : List ℕ → ℕ) (s : Packet → ℕ) (rs : ByCells cs r s) where
  pub first_lifts : (cell : List ℕ) → FirstOf (counts cs) r cell → FirstOf (sizes cs) s (corner cs cell)
  first_lifts cell o =
      let here = corner_in_cell cs o.in_range in
      let e : s (corner cs cell) ≡ r cell = rs cell (corner cs cell) here in
      record {
        in_range = packet_in_range here;
        lowest_rank = λ q i. let w = cell_of cs i in omega (arith, e, rs w.cell q w.lies, o.lowest_rank w.cell (cell_in_range w.lies));
        first = λ q i b.
            let w = cell_of cs i in
            omega (arith, e, rs w.cell q w.lies, o.first w.cell (cell_in_range w.lies) (before_corner cs o.in_range w.lies b));
      }

-- the verdict on labels that are constant on strips: at the corner of the first cell of the lowest rank
module _
    (cs : List Cut)
    (f : Packet → Label)
    (asking : Action → Packet → ℕ)
    (by_cells : ByCells cs (λ cell. f (corner cs cell)) f)
    (b : ℕ)
    (numbered : (q : Packet) → InRange (sizes cs) q → Numbered b (f q))
    (cell : List ℕ)
    (o : FirstOf (counts cs) (λ c. rank b (f (corner cs c))) cell)
  where
    first_corner : FirstOf (sizes cs) (λ q. rank b (f q)) (corner cs cell)
    first_corner = first_lifts cs (λ c. rank b (f (corner cs c))) (λ q. rank b (f q)) (λ c q s. ap (rank b) (by_cells c q s)) cell o

    pub corner_is_verdict : ¬ (f (corner cs cell) ≡ good) → IsVerdict (sizes cs) f asking (verdict_at f asking (corner cs cell))
    corner_is_verdict bad = first_is_verdict (sizes cs) f asking b numbered (corner cs cell) first_corner bad

    pub good_corner_conforms : f (corner cs cell) ≡ good → IsVerdict (sizes cs) f asking (conforms (sizes cs))
    good_corner_conforms e = first_good_conforms (sizes cs) f asking b numbered (corner cs cell) first_corner e
