-- The label of what is left, case by case. Assumes nothing.
use mathlib.Core.Path.{◌≡◌}
use mathlib.Core.Bool.{Bool, true, false}
use Prim.Native.Nat.{ℕ, ◌+◌}
use borrow.Author.Tests.{eq-eqb, ne_eqb}
use Rattle.meaning.specs.Labels.{good, conflict, wrong, unasked, unmet_accept, unmet_deny, judged}
use Rattle.meaning.specs.Rules.{same_action}
use Rattle.cells.specs.Cells.{label_by}

module _ (a d : Bool) (r t u : ℕ) where
  pub label_conflict : a ≡ true → d ≡ true → conflict ≡ label_by a d r t u
  unfolding label_by judged
  label_conflict p q = simp (p, q)

  pub label_unmet_accept : a ≡ true → d ≡ false → r ≡ 0 → unmet_accept ≡ label_by a d r t u
  unfolding label_by judged
  label_unmet_accept p q s = simp (p, q, eq-eqb r 0 s)

  pub label_accepted : a ≡ true → d ≡ false → ¬ (r ≡ 0) → t ≡ u → good ≡ label_by a d r t u
  unfolding label_by judged same_action
  label_accepted p q s e = simp (p, q, ne_eqb r 0 s, eq-eqb t u e)

  pub label_denied_wrongly : a ≡ true → d ≡ false → ¬ (r ≡ 0) → ¬ (t ≡ u) → wrong (t + 1) ≡ label_by a d r t u
  unfolding label_by judged same_action
  label_denied_wrongly p q s e = simp (p, q, ne_eqb r 0 s, ne_eqb t u e)

  pub label_unmet_deny : a ≡ false → d ≡ true → r ≡ 0 → unmet_deny ≡ label_by a d r t u
  unfolding label_by judged
  label_unmet_deny p q s = simp (p, q, eq-eqb r 0 s)

  pub label_nothing : a ≡ false → d ≡ false → r ≡ 0 → good ≡ label_by a d r t u
  unfolding label_by judged
  label_nothing p q s = simp (p, q, eq-eqb r 0 s)

  pub label_accepted_wrongly : a ≡ false → d ≡ true → ¬ (r ≡ 0) → t ≡ u → wrong (t + 1) ≡ label_by a d r t u
  unfolding label_by judged same_action
  label_accepted_wrongly p q s e = simp (p, q, ne_eqb r 0 s, eq-eqb t u e)

  pub label_denied : a ≡ false → d ≡ true → ¬ (r ≡ 0) → ¬ (t ≡ u) → good ≡ label_by a d r t u
  unfolding label_by judged same_action
  label_denied p q s e = simp (p, q, ne_eqb r 0 s, ne_eqb t u e)

  pub label_unasked : a ≡ false → d ≡ false → ¬ (r ≡ 0) → unasked (t + 1) ≡ label_by a d r t u
  unfolding label_by judged
  label_unasked p q s = simp (p, q, ne_eqb r 0 s)

pub ruleset rows = (label_conflict, label_unmet_accept, label_accepted, label_denied_wrongly, label_unmet_deny, label_accepted_wrongly, label_denied, label_nothing, label_unasked)
