-- "Conforms" is the verdict just if the policy is consistent and the table sound and complete. Assumes nothing.
use mathlib.Core.Path.{◌≡◌, refl, ap}
use mathlib.Core.Logic.{inl, inr, ⊎_elim, ◌↔◌}
use mathlib.Core.List.{List, [], ◌∷◌}
use Prim.Native.Nat.{ℕ}
use native.Mathlib.Omega.{arith}
use Rattle.meaning.specs.Conformance.{Consistent, Sound, Complete}
use Rattle.meaning.specs.Fields.{Packet, lowest}
use Rattle.meaning.specs.Labels.{Label, kind, rule, label, OfKind}
use Rattle.meaning.specs.Policies.{Policy, lowest_asking}
use Rattle.meaning.specs.Records.{Every, every_none, every_more}
use Rattle.meaning.specs.Rules.{Action, Table}
use Rattle.meaning.specs.Verdicts.{Verdict, None, conforms, Blames, Unmet, IsVerdict, case_conflict, case_rule, case_unmet, case_conforms, VerdictOn}
use Rattle.meaning.proofs.VerdictUnique.{verdict_is_unique}
use Rattle.meaning.proofs.LabelKinds.{not_blaming, not_lacking}
use Rattle.meaning.proofs.Conforming.{consistent_iff_no_conflict, sound_iff_no_wrong_or_unasked, complete_iff_no_wrong_or_unmet}

-- nothing is at fault
pub record AllGood (ns : List ℕ) (f : Packet → Label) : Type 0 where
  pub no_conflict : None ns (OfKind f 1)
  pub no_blame : (n : ℕ) → None ns (Blames f n)
  pub no_unmet : None ns (Unmet f)

-- a verdict of kind 0 is the fourth case
pub conforms_means : (ns : List ℕ) (f : Packet → Label) (asking : Action → Packet → ℕ) {v : Verdict}
    → IsVerdict ns f asking v → kind v.label ≡ 0 → AllGood ns f
conforms_means ns f asking (case_conflict a) e = absurd (omega (arith, a.is_such))
conforms_means ns f asking (case_rule {p} n c l a) e = absurd (not_blaming (f p) 0 e tt a.is_such.0)
conforms_means ns f asking (case_unmet {p} c r a) e = absurd (not_lacking (f p) 0 e tt (inr a.is_such))
conforms_means ns f asking (case_conforms c r u) e = record { no_conflict = c; no_blame = r; no_unmet = u }

-- all its numbers are 0
pub conforms_all_zero : (ns : List ℕ)
    → (kind (conforms ns).label ≡ 0)
    × (rule (conforms ns).label ≡ 0)
    × ((conforms ns).accept_directive ≡ 0)
    × ((conforms ns).deny_directive ≡ 0)
    × Every (λ x. x ≡ 0) (conforms ns).packet
unfolding kind rule
conforms_all_zero ns = (refl, refl, refl, refl, zeros ns)
  where
    zeros : (ms : List ℕ) → Every (λ x. x ≡ 0) (lowest ms)
    zeros [] = every_none
    zeros (m ∷ ms) = every_more refl (zeros ms)

module _ (ns : List ℕ) (rules : Table) (policy : Policy) where
  pub conforms_iff_consistent_sound_complete : VerdictOn ns rules policy (conforms ns) ↔ (Consistent ns policy × Sound ns rules policy × Complete ns rules policy)
  unfolding kind
  conforms_iff_consistent_sound_complete = (
    λ v.
        let all = conforms_means ns (label rules policy) (lowest_asking policy) v refl in
        let c = (consistent_iff_no_conflict rules policy ns).1 all.no_conflict in (
          c,
          (sound_iff_no_wrong_or_unasked rules policy ns).1 (λ q i w. all.no_blame (rule (label rules policy q)) q i (w, refl)),
          (complete_iff_no_wrong_or_unmet rules policy ns c).1
              (λ q i.
              ⊎_elim (λ (z : OfKind (label rules policy) 2 q). all.no_blame (rule (label rules policy q)) q i (inl z, refl)) (all.no_unmet q i)),
        ),
    λ w.
        case_conforms ((consistent_iff_no_conflict rules policy ns).0 w.0) (λ n q i z. (sound_iff_no_wrong_or_unasked rules policy ns).0 w.1 q i z.0)
        (λ q i z. (complete_iff_no_wrong_or_unmet rules policy ns w.0).0 w.2 q i (inr z)),
  )

  -- whatever the verdict is: it says "conforms" just then
  pub conforms_said_iff : (v : Verdict) → VerdictOn ns rules policy v → (kind v.label ≡ 0) ↔ (Consistent ns policy × Sound ns rules policy × Complete ns rules policy)
  unfolding kind
  conforms_said_iff v is = (
    λ e.
        let all = conforms_means ns (label rules policy) (lowest_asking policy) is e in
        conforms_iff_consistent_sound_complete.0 (case_conforms all.no_conflict all.no_blame all.no_unmet),
    λ w.
        ap (λ (u : Verdict). kind u.label) (verdict_is_unique ns (label rules policy) (lowest_asking policy) is (conforms_iff_consistent_sound_complete.1 w)),
  )
