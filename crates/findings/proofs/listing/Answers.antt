-- The listing over the cells of the chart. Assumes nothing.
use Rattle.findings.proofs.Answering.{all_counts, chart_formed, listing_told, places_placed}
use Rattle.findings.proofs.listing.Goals as goal

pub list_cells-requires : goal.list_cells-requires
list_cells-requires c =
    let pre = c.requires in
    record {
      counts_len = all_counts pre.limited pre.charted;
      formed = chart_formed pre.limited pre.charted;
      placed = places_placed pre.limited pre.charted;
    }

pub returns : goal.returns
returns c =
    let listed = c.list_cells.ensures in
    let pre = c.requires in
    listing_told pre.limited pre.charted _ _ _ listed.value listed.buffer_after
