-- It lists run by run, down to the labels.
use mathlib.Core.Path.{◌≡◌}
use Prim.Native.Nat.{◌-◌}
use lib.ListN.{get_or}
use Rattle.meaning.specs.Sizes.{field_count}
use Rattle.cells.specs.Cells.{chart_of}
use Rattle.lister.proofs.Walking.{ToldTo}
use Rattle.lister.proofs.+list_below.Given as goal

abbrev pub invariant-loop-strip : goal.invariant-loop-strip
invariant-loop-strip l =
    record {
      listed : ToldTo (chart_of l.chart) l.places l.field l.left l.row l.initial.rows.buffer.now l.initial.rows.total (get_or l.chart.counts.now l.field 0) l.strip l.rows.total l.rows.buffer.now;
      same_buffer : l.rows.buffer.ghost_name ≡ l.initial.rows.buffer.ghost_name;
    }

abbrev pub decreases-loop-strip : goal.decreases-loop-strip
decreases-loop-strip l = get_or l.chart.counts.now l.field 0 - l.strip

abbrev pub decreases-list_below : goal.decreases-list_below
decreases-list_below l = field_count - l.field
