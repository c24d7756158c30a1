use mathlib.Core.Path.{◌≡◌, refl, sym}
use Rattle.std.proofs.Common.{rules}
use native.Mathlib.Omega.{arith}
use lib.ListN.{length}
use Rattle.cells.proofs.Telling.{told_true}
use Rattle.judge.proofs.Walking.{kept_at_nothing, kept_at_zero, taken_last}
use Rattle.judge.proofs.Walking.{walked_as, walked_more, walked_past, walked_skip, walked_start}
use Rattle.judge.proofs.+best_below.Goals.{then-limit-eq0-via-then-limit-eq0, then-limit-eq0-via-else-limit-eq0+then-is_nothing}
use Rattle.judge.proofs.+best_below.Goals.{in-Some, in_default}
use Rattle.judge.proofs.+best_below.Goals as goal

pub returns-then-limit-eq0 : goal.returns-then-limit-eq0
returns-then-limit-eq0 t c =
    elim c.then-limit-eq0.branch [
      | then-limit-eq0-via-then-limit-eq0 w ↦ kept_at_zero _ _ _ _ w.if-limit-eq0.true
      | then-limit-eq0-via-else-limit-eq0+then-is_nothing w ↦
          kept_at_nothing _ _ _ _ (told_true w.if-is_nothing.true w.is_nothing.ensures) c.requires.field_le_field_count.2
    ]

pub returns-then-field-eq-FIELDS : goal.returns-then-field-eq-FIELDS
returns-then-field-eq-FIELDS t c =
    let last : c.args.field ≡ length c.args.chart.now.counts.now = omega (arith, c.requires.field_le_field_count, c.if-field-eq-FIELDS.true) in
    taken_last _ _ _ _ _ _ last c.label.ensures c.rank_of-rank.ensures _ _ c.then_some.ensures (sym c.if-field-eq-FIELDS.true) refl

pub loop-strip-init : goal.loop-strip-init
loop-strip-init t c =
    let limits = c.requires.field_le_field_count in
    walked_start _ _ _ _ _ _ c.requires.formed (omega (arith, limits, c.if-field-eq-FIELDS.false)) refl
    (record { no_rule = refl; no_directive = refl; no_exception = refl }) limits.2

pub loop-strip-preserved-then-eq : goal.loop-strip-preserved-then-eq
loop-strip-preserved-then-eq t c = walked_skip _ _ _ _ _ _ _ _ _ c.loop-strip.invariant _ c.left_at-here.ensures (search rules)

pub loop-strip-preserved : goal.loop-strip-preserved
loop-strip-preserved t c =
    let here = c.left_at-here.ensures in
    let so_far = c.loop-strip.invariant in
    elim c.match-best_below.branch [
      | in-Some w ↦
          walked_as _ _ _ _ _ _ _ _ _ _ _ w.best-is w.limit-is
          (walked_more _ _ _ _ _ _ _ _ _ so_far _ here _ _ w.in-Some.ensures w.with_strip.ensures)
      | in_default w ↦
          walked_as _ _ _ _ _ _ _ _ _ _ _ w.best-is w.limit-is (walked_past _ _ _ _ _ _ _ _ _ so_far _ here w.in_default.ensures)
    ]
