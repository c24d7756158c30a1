-- One chart, then the verdict, then the listing. Assumes nothing.
use mathlib.Core.Path.{refl}
use Rattle.findings.proofs.Forming.{in_form_limited}
use Rattle.putting.proofs.Putting.{on_then}
use Rattle.report.proofs.report_sets.Goals as goal

pub fill-requires : goal.fill-requires
fill-requires c = in_form_limited _ _ c.requires

pub put_verdict-requires : goal.put_verdict-requires
put_verdict-requires c = record { limited = in_form_limited _ _ c.requires; charted = c.fill.ensures }

pub put_listing-requires : goal.put_listing-requires
put_listing-requires c = record { limited = in_form_limited _ _ c.requires; charted = c.fill.ensures }

pub returns : goal.returns
returns c =
    let v = c.put_verdict.ensures in
    let l = c.put_listing.ensures in
    record {
      text = _;
      printed = record { verdict = v.verdict; judged = v.judged; blocks = l.blocks; listed = l.listed; printed = refl };
      put = on_then v.put l.put;
    }
