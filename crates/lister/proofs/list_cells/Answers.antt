-- The listing below the first field is the whole.
use native.Mathlib.Omega.{arith}
use Rattle.cells.specs.Cells.{chart_of}
use Rattle.lister.proofs.Few.{blocks_few}
use Rattle.lister.proofs.list_cells.Goals as goal

pub list_below-requires : goal.list_below-requires
list_below-requires c =
    let a = c.args in
    record {
      field_le_field_count = (omega arith, c.requires.counts_len);
      formed = c.requires.formed;
      placed = c.requires.placed;
      left_bound = omega (arith, blocks_few (chart_of a.chart.now) a.left c.requires.counts_len c.requires.formed);
    }
