-- The total, then the rows. Assumes nothing.
use mathlib.Core.Path.{◌∙◌, ap}
use Prim.Native.Nat.{min, ℕ}
use borrow.Author.Rules.{rules}
use Rattle.meaning.specs.Fields.{fields}
use Rattle.meaning.specs.Labels.{good}
use Rattle.meaning.proofs.ListingForm.{listing_in_form}
use Rattle.findings.specs.Found.{label_at}
use Rattle.putting.proofs.Putting.{on_same, on_then}
use Rattle.printing.specs.Lines.{blocks_line}
use Rattle.report.specs.Inner.{row_lines}
use Rattle.report.specs.Runs.{most_block_lines}
use Rattle.report.proofs.RowLines.{listing_lines}
use Rattle.report.proofs.put_listing.Goals as goal

pub returns : goal.returns
returns c =
    let args = c.args in
    let told = c.listing-total.ensures in
    let formed = listing_in_form good fields (label_at args.rules args.policy) told.blocks told.listed in
    let count = c.shown.ensures ∙ ap (λ (n : ℕ). min n most_block_lines) told.counted in
    let lines = (λ i. row_lines (told.written i) (count i)) ∙ listing_lines told.blocks _ (search rules) formed in
    record {
      blocks = told.blocks;
      listed = told.listed;
      put = on_then (on_same (ap blocks_line told.counted) c.put_total.ensures) (on_same lines c.put_rows.ensures);
    }
