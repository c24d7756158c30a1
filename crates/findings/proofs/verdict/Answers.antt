-- By the best of the cells of the chart. Assumes nothing.
use mathlib.Core.Path.{subst⁻¹}
use Rattle.std.specs.Prelude.{Option}
use Rattle.findings.specs.declared.Finding.{Finding}
use Rattle.findings.specs.Found.{verdict_of, VerdictFor}
use Rattle.findings.proofs.Answering.{all_counts, chart_formed, none_found, found_right, found_at_fault, placed_right, places_placed}
use Rattle.findings.proofs.verdict.Goals as goal

pub best_cell-requires : goal.best_cell-requires
best_cell-requires c =
    let pre = c.requires in
    record { counts_len = all_counts pre.limited pre.charted; formed = chart_formed pre.limited pre.charted }

pub returns-in_err-best-clause-verdict : goal.returns-in_err-best-clause-verdict
returns-in_err-best-clause-verdict c =
    let pre = c.requires in
    let told = λ (r : Option Finding). VerdictFor c.args.rules c.args.policy (verdict_of r) in
    subst⁻¹ told c.from_residual.ensures (none_found pre.limited pre.charted c.in_err-best.ensures)

pub corner-requires : goal.corner-requires
corner-requires c =
    let pre = c.requires in
    record {
      places_len = (places_placed pre.limited pre.charted).long;
      corner_placed = placed_right pre.limited pre.charted _ _ c.in_ok-best.ensures;
    }

pub returns : goal.returns
returns c =
    let pre = c.requires in
    record {
      verdict = found_right pre.limited pre.charted _ _ c.in_ok-best.ensures _ _ c.corner.ensures c.verdict_at.ensures;
      at_fault = found_at_fault pre.limited pre.charted _ _ c.in_ok-best.ensures _ _ c.corner.ensures c.verdict_at.ensures;
    }
