-- Case by case.
use mathlib.Core.Path.{refl}
use Rattle.report.proofs.Reporting.{sets_in_form}
use Rattle.report.proofs.report_texts.Goals as goal

pub report_sets-requires : goal.report_sets-requires
report_sets-requires c = sets_in_form _ _ c.in-Ok.ensures refl c.in-Ok-read_policy.ensures
