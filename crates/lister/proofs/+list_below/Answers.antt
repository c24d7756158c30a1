use mathlib.Core.List.{List}
use mathlib.Core.Path.{◌≡◌, ◌∙◌, ap, refl, subst, sym}
use Rattle.std.proofs.Common.{rules}
use Rattle.sets.specs.Vocabulary.{label_of}
use Prim.Native.Nat.{ℕ}
use native.Mathlib.Omega.{arith}
use lib.ListN.{length}
use Rattle.meaning.specs.Blocks.{Span}
use Rattle.meaning.specs.Labels.{Label, good}
use Rattle.cells.proofs.Telling.{told_true}
use Rattle.cells.specs.Cells.{chart_of, left_label}
use Rattle.lister.proofs.Listing.{fault_listed, good_listed, nothing_listed}
use Rattle.lister.proofs.Walking.{listing_end, listing_more, listing_room, listing_start, none_told, one_told, placed_run}
use Rattle.lister.specs.Rows.{RowWith, labelled_row, row_at}
use Rattle.lister.proofs.+list_below.Goals as goal

pub returns-then-is_nothing : goal.returns-then-is_nothing
returns-then-is_nothing t c =
    let a = c.args in
    let w = chart_of a.chart.now in
    let is-nothing = told_true c.if-is_nothing.true c.is_nothing.ensures in
    let told = none_told w a.places.now a.field a.left a.row a.rows.now.buffer.now a.rows.now.total (nothing_listed w a.field a.left is-nothing) in
    record { same_buffer = refl; total = told.0; buffer_after = told.1 }

pub returns-else-ne : goal.returns-else-ne
returns-else-ne t c =
    let a = c.args in
    let w = chart_of a.chart.now in
    let good_label : label_of c.label-label.result ≡ good = search rules in
    let is_good : left_label a.chart.now.words.now a.left ≡ good = sym c.label-label.ensures ∙ good_label in
    let last : a.field ≡ length a.chart.now.counts.now = omega (arith, c.if-field-eq-FIELDS.true, c.requires.field_le_field_count) in
    let told = none_told w a.places.now a.field a.left a.row a.rows.now.buffer.now a.rows.now.total (good_listed w a.field a.left last is_good) in
    record { same_buffer = refl; total = told.0; buffer_after = told.1 }

pub overflow_add-rows : goal.overflow_add-rows
overflow_add-rows t c =
    let a = c.args in
    let w = chart_of a.chart.now in
    let label = left_label a.chart.now.words.now a.left in
    let fault_label : ¬ (label_of c.label-label.result ≡ good) = search rules in
    let is-fault : ¬ (label ≡ good) = λ e. fault_label (c.label-label.ensures ∙ e) in
    let one = ap length (fault_listed w a.field a.left label (omega (arith, c.if-field-eq-FIELDS.true, c.requires.field_le_field_count)) refl is-fault) in
    omega (arith, one, c.requires.left_bound)

pub returns-then-ne : goal.returns-then-ne
returns-then-ne t c =
    let a = c.args in
    let w = chart_of a.chart.now in
    let label = left_label a.chart.now.words.now a.left in
    let fault_label : ¬ (label_of c.label-label.result ≡ good) = search rules in
    let is-fault : ¬ (label ≡ good) = λ e. fault_label (c.label-label.ensures ∙ e) in
    let label-row = c.labelled_row.ensures ∙ ap (λ (l : Label). labelled_row a.row l) c.label-label.ensures in
    let last : a.field ≡ length a.chart.now.counts.now = omega (arith, c.if-field-eq-FIELDS.true, c.requires.field_le_field_count) in
    let listed = fault_listed w a.field a.left label last refl is-fault in
    let written = c.write_row.ensures ∙ ap (λ (z : List ℕ). row_at a.rows.now.buffer.now a.rows.now.total z) label-row in
    let told = one_told w a.places.now a.field a.left a.row a.rows.now.buffer.now a.rows.now.total label _ c.if-field-eq-FIELDS.true listed written in
    record { same_buffer = refl; total = told.0; buffer_after = told.1 }

pub loop-strip-init : goal.loop-strip-init
loop-strip-init t c =
    let a = c.args in
    record {
      listed =
          listing_start (chart_of a.chart.now) a.places.now a.field a.left a.row a.rows.now.buffer.now a.rows.now.total _ c.requires.formed
          (omega (arith, c.requires.field_le_field_count, c.if-field-eq-FIELDS.false)) refl;
      same_buffer = refl;
    }

pub left_at-here-requires : goal.left_at-here-requires
left_at-here-requires t c =
    omega (arith, c.requires.field_le_field_count, c.if-field-eq-FIELDS.false, c.requires.formed.long, c.loop-strip.invariant.listed.few, c.loop-strip-test.true)

pub run_end-next-requires : goal.run_end-next-requires
run_end-next-requires t c =
    record {
      field_in_bounds = omega (arith, c.requires.field_le_field_count, c.if-field-eq-FIELDS.false);
      strip_in_bounds = c.loop-strip-test.true;
      formed = c.requires.formed;
    }

pub span_of-requires : goal.span_of-requires
span_of-requires t c =
    let a = c.args in
    let run = c.run_end-next.ensures in
    let limits = c.requires.field_le_field_count in
    let last = c.if-field-eq-FIELDS.false in
    let placed = placed_run (chart_of a.chart.now) a.places.now a.field a.left _ _ _ c.requires.placed c.loop-strip.invariant.listed.is_count run in
    record {
      next_in_bounds = (omega (arith, limits, last, c.requires.placed.long, run.within, c.loop-strip.invariant.listed.few), run.rises);
      begins = placed.0;
      ends_above = placed.1;
      ends = placed.2;
    }

pub overflow_add-field : goal.overflow_add-field
overflow_add-field t c =
    omega (arith, c.requires.field_le_field_count)

pub list_below-requires : goal.list_below-requires
list_below-requires t c =
    let a = c.args in
    let room =
    listing_room (chart_of a.chart.now) a.places.now a.field a.left a.row a.rows.now.buffer.now a.rows.now.total _ _ _ _ _ c.loop-strip.invariant.listed
    c.run_end-next.ensures _ c.left_at-here.ensures _ c.requires.left_bound in
    let limits = c.requires.field_le_field_count in
    let last = c.if-field-eq-FIELDS.false in (
      omega (arith, limits, last),
      ((omega (arith, limits, last), limits.1), (c.requires.formed, (c.requires.placed, room))),
    )

pub loop-strip-smaller : goal.loop-strip-smaller
loop-strip-smaller t c =
    omega (arith, c.run_end-next.ensures.rises, c.loop-strip-test.true)

pub loop-strip-preserved : goal.loop-strip-preserved
loop-strip-preserved t c =
    let a = c.args in
    let is_row = subst (λ (s : Span). RowWith a.row a.field s c.row_with-inner.result) c.span_of.ensures c.row_with-inner.ensures in
    record {
      listed =
          listing_more (chart_of a.chart.now) a.places.now a.field a.left a.row a.rows.now.buffer.now a.rows.now.total _ _ _ _ _ c.loop-strip.invariant.listed
          c.run_end-next.ensures _ c.left_at-here.ensures _ _ _ is_row c.list_below.ensures.total c.list_below.ensures.buffer_after;
      same_buffer = c.list_below.ensures.same_buffer ∙ c.loop-strip.invariant.same_buffer;
    }

pub returns : goal.returns
returns t c =
    let a = c.args in
    let told =
    listing_end (chart_of a.chart.now) a.places.now a.field a.left a.row a.rows.now.buffer.now a.rows.now.total _ _ _ _
    c.loop-strip-test.false c.loop-strip.invariant.listed in
    record { same_buffer = c.loop-strip.invariant.same_buffer; total = told.0; buffer_after = told.1 }
