-- The verdict's packet is, of the packets of the lowest rank, the first. Assumes nothing.
use mathlib.Core.Path.{◌≡◌, refl, ap}
use mathlib.Core.Logic.{⊎_elim}
use mathlib.Core.List.{List}
use Prim.Native.Nat.{ℕ, zero, suc, ◌+◌, ◌≤◌, ◌<◌}
use native.Mathlib.Omega.{arith}
use Rattle.meaning.specs.Fields.{Packet, InRange, Before}
use Rattle.meaning.specs.Labels.{Label, good, kind, rule, OfKind}
use Rattle.meaning.specs.Rules.{Action}
use Rattle.meaning.specs.Verdicts.{None, verdict_at, conforms, Blames, IsVerdict, case_conflict, case_rule, case_unmet, case_conforms}
use Rattle.meaning.proofs.LabelKinds.{Blaming, Unmeeting, Numbered, Kinds, is_good, is_conflict, is_blaming, is_unmet, kinds}

-- Conflict comes before the rules in order, these before what is unmet, and good comes last; b is the number of rules, k the kind, n the rule.
unfoldable pub rank_of : ℕ → ℕ → ℕ → ℕ
rank_of b zero n = b + 2
rank_of b (suc zero) n = 0
rank_of b (suc (suc zero)) n = n
rank_of b (suc (suc (suc zero))) n = n
rank_of b (suc (suc (suc (suc k)))) n = b + 1

abbrev pub rank : ℕ → Label → ℕ
rank b l = rank_of b (kind l) (rule l)

-- p has the lowest rank, and every packet before it has a higher one
pub record FirstOf (ns : List ℕ) (r : Packet → ℕ) (p : Packet) : Type 0 where
  pub in_range : InRange ns p
  pub lowest_rank : (q : Packet) → InRange ns q → r p ≤ r q
  pub first : (q : Packet) → InRange ns q → Before q p → r p < r q

-- ranks by kinds
module _ (b : ℕ) (l : Label) where
  by_kind : (k : ℕ) → kind l ≡ k → rank b l ≡ rank_of b k (rule l)
  by_kind k e = ap (λ (j : ℕ). rank_of b j (rule l)) e

  conflict_ranks : kind l ≡ 1 → rank b l ≡ 0
  unfolding rank_of
  conflict_ranks e = by_kind 1 e

  rule_ranks : Blaming l → rank b l ≡ rule l
  unfolding rank_of
  rule_ranks = ⊎_elim (by_kind 2) (by_kind 3)

  unmet_ranks : Unmeeting l → rank b l ≡ b + 1
  unfolding rank_of
  unmet_ranks = ⊎_elim (by_kind 4) (by_kind 5)

  -- good comes last
  pub good_ranks : l ≡ good → rank b l ≡ b + 2
  unfolding rank_of kind
  good_ranks e = by_kind 0 (ap kind e)

module _
    (ns : List ℕ)
    (f : Packet → Label)
    (asking : Action → Packet → ℕ)
    (b : ℕ)
    (numbered : (q : Packet) → InRange ns q → Numbered b (f q))
    (p : Packet)
    (o : FirstOf ns (λ q. rank b (f q)) p)
  where
    no_conflicts : 0 < rank b (f p) → None ns (OfKind f 1)
    no_conflicts h q i e = omega (arith, o.lowest_rank q i, conflict_ranks b (f q) e)

    no_blames : b < rank b (f p) → (n : ℕ) → None ns (Blames f n)
    no_blames h n q i w = omega (arith, o.lowest_rank q i, rule_ranks b (f q) w.0, (numbered q i w.0).1)

    first_conflict : kind (f p) ≡ 1 → IsVerdict ns f asking (verdict_at f asking p)
    first_conflict k =
        case_conflict (record { in_range = o.in_range; is_such = k; none_before = λ q i l e. omega (arith, o.first q i l, conflict_ranks b (f q) e) })

    first_rule : Blaming (f p) → IsVerdict ns f asking (verdict_at f asking p)
    first_rule w =
        let e = rule_ranks b (f p) w in
        case_rule (rule (f p)) (no_conflicts (omega (arith, e, (numbered p o.in_range w).0)))
        (λ m l q i v. omega (arith, e, o.lowest_rank q i, rule_ranks b (f q) v.0, v.1))
        (record {
          in_range = o.in_range;
          is_such = (w, refl);
          none_before = λ q i l v. omega (arith, e, o.first q i l, rule_ranks b (f q) v.0, v.1);
        })

    first_unmet : Unmeeting (f p) → IsVerdict ns f asking (verdict_at f asking p)
    first_unmet u =
        let e = unmet_ranks b (f p) u in
        case_unmet (no_conflicts (omega (arith, e))) (no_blames (omega (arith, e)))
        (record { in_range = o.in_range; is_such = u; none_before = λ q i l v. omega (arith, e, o.first q i l, unmet_ranks b (f q) v) })

    pub first_is_verdict : ¬ (f p ≡ good) → IsVerdict ns f asking (verdict_at f asking p)
    first_is_verdict bad = from (kinds (f p))
      where
        from : Kinds (f p) → IsVerdict ns f asking (verdict_at f asking p)
        from (is_conflict k) = first_conflict k
        from (is_blaming w) = first_rule w
        from (is_unmet u) = first_unmet u
        from (is_good e) = absurd (bad e)

    pub first_good_conforms : f p ≡ good → IsVerdict ns f asking (conforms ns)
    first_good_conforms e =
        let r = good_ranks b (f p) e in
        case_conforms (no_conflicts (omega (arith, r))) (no_blames (omega (arith, r))) (λ q i u. omega (arith, r, o.lowest_rank q i, unmet_ranks b (f q) u))

-- no packet is below the rank of good
pub none_below_good_conforms : (ns : List ℕ) (f : Packet → Label) (asking : Action → Packet → ℕ) (b : ℕ) → ((q : Packet) → InRange ns q → Numbered b (f q))
    → ((q : Packet) → InRange ns q → b + 2 ≤ rank b (f q))
    → IsVerdict ns f asking (conforms ns)
none_below_good_conforms ns f asking b numbered all =
    case_conforms (λ q i e. omega (arith, all q i, conflict_ranks b (f q) e))
    (λ n q i w. omega (arith, all q i, rule_ranks b (f q) w.0, (numbered q i w.0).1))
    (λ q i u. omega (arith, all q i, unmet_ranks b (f q) u))
