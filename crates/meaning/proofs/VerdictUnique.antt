-- Two verdicts over the same labels are equal. Assumes nothing.
use mathlib.Core.Path.{◌≡◌, refl, ap, subst}
use mathlib.Core.List.{List}
use Prim.Native.Nat.{ℕ, ◌<◌}
use native.Mathlib.Omega.{arith}
use Rattle.meaning.specs.Fields.{Packet}
use Rattle.meaning.specs.Labels.{Label, OfKind}
use Rattle.meaning.specs.Rules.{Action}
use Rattle.meaning.specs.Verdicts.{Verdict, Least, None, verdict_at, Blames, Unmet, IsVerdict, case_conflict, case_rule, case_unmet, case_conforms}
use Rattle.meaning.proofs.PacketOrder.{least_is_unique}

module _ (ns : List ℕ) (f : Packet → Label) (asking : Action → Packet → ℕ) where
  -- what is there at a least packet is not nowhere
  not_none : (P : Packet → Type 0) {p : Packet} → Least ns P p → ¬ None ns P
  not_none P {p} l h = h p l.in_range l.is_such

  same_least : (P : Packet → Type 0) (p q : Packet) → Least ns P p → Least ns P q → verdict_at f asking p ≡ verdict_at f asking q
  same_least P p q a b = ap (verdict_at f asking) (least_is_unique ns P p q a b)

  same_rule : (m n : ℕ) (p q : Packet) → ((k : ℕ) → k < m → None ns (Blames f k)) → ((k : ℕ) → k < n → None ns (Blames f k))
      → Least ns (Blames f m) p → Least ns (Blames f n) q → verdict_at f asking p ≡ verdict_at f asking q
  same_rule m n p q below_m below_n a b =
      let not_less : ¬ (m < n) = λ l. not_none (Blames f m) a (below_n m l) in
      let not_more : ¬ (n < m) = λ l. not_none (Blames f n) b (below_m n l) in
      same_least (Blames f m) p q a (subst (λ (k : ℕ). Least ns (Blames f k) q) (omega arith) b)

  pub verdict_is_unique : {v w : Verdict} → IsVerdict ns f asking v → IsVerdict ns f asking w → v ≡ w
  verdict_is_unique (case_conflict {p} a) (case_conflict {p = q} b) = same_least (OfKind f 1) p q a b
  verdict_is_unique (case_conflict a) (case_rule n c l b) = absurd (not_none (OfKind f 1) a c)
  verdict_is_unique (case_conflict a) (case_unmet c r b) = absurd (not_none (OfKind f 1) a c)
  verdict_is_unique (case_conflict a) (case_conforms c r u) = absurd (not_none (OfKind f 1) a c)
  verdict_is_unique (case_rule n c l a) (case_conflict b) = absurd (not_none (OfKind f 1) b c)
  verdict_is_unique (case_rule {p} m c l a) (case_rule {p = q} n d k b) = same_rule m n p q l k a b
  verdict_is_unique (case_rule n c l a) (case_unmet d r b) = absurd (not_none (Blames f n) a (r n))
  verdict_is_unique (case_rule n c l a) (case_conforms d r u) = absurd (not_none (Blames f n) a (r n))
  verdict_is_unique (case_unmet c r a) (case_conflict b) = absurd (not_none (OfKind f 1) b c)
  verdict_is_unique (case_unmet c r a) (case_rule n d l b) = absurd (not_none (Blames f n) b (r n))
  verdict_is_unique (case_unmet {p} c r a) (case_unmet {p = q} d s b) = same_least (Unmet f) p q a b
  verdict_is_unique (case_unmet c r a) (case_conforms d s u) = absurd (not_none (Unmet f) a u)
  verdict_is_unique (case_conforms c r u) (case_conflict b) = absurd (not_none (OfKind f 1) b c)
  verdict_is_unique (case_conforms c r u) (case_rule n d l b) = absurd (not_none (Blames f n) b (r n))
  verdict_is_unique (case_conforms c r u) (case_unmet d s b) = absurd (not_none (Unmet f) b u)
  verdict_is_unique (case_conforms c r u) (case_conforms d s v) = refl
