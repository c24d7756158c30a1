-- Consistent, sound and complete by the kinds of packets: packet by packet, case by case of the label. Assumes nothing.
use mathlib.Core.Path.{◌≡◌, refl, sym, ◌∙◌, ap, subst}
use mathlib.Core.Logic.{◌⊎◌, inl, inr, ◌↔◌}
use mathlib.Core.List.{List}
use Prim.Native.Nat.{ℕ}
use native.Mathlib.Omega.{arith}
use lib.Dec.{T}
use Rattle.meaning.specs.Conformance.{Consistent, Matches, Sound, Complete}
use Rattle.meaning.specs.Fields.{Packet, InRange}
use Rattle.meaning.specs.Labels.{kind, label, OfKind}
use Rattle.meaning.specs.Policies.{Policy, Asked}
use Rattle.meaning.specs.Rules.{Action, accept, deny, opposite, same_action, Rule, Table}
use Rattle.meaning.specs.Verdicts.{None}
use Rattle.meaning.proofs.LabelKinds.{Blaming, Lacking, not_blaming, not_lacking}
use Rattle.meaning.proofs.LabelCases.{matches_once, Only, Neither, Case, is_conflict, is_wrong, is_unasked, is_unmet_accept, is_unmet_deny, is_done, is_let_be, label_cases}

-- a packet has A and not B, or B and not A
abbrev OneOf : Type 0 → Type 0 → Type 0
OneOf A B = (A × ¬ B) ⊎ (¬ A × B)

over_packets : (ns : List ℕ) (A B : Packet → Type 0) → ((q : Packet) → InRange ns q → OneOf (A q) (B q)) → ((q : Packet) → InRange ns q → A q) ↔ None ns B
over_packets ns A B each = (λ a q i. not_other (each q i) (a q i), λ h q i. other (each q i) (h q i))
  where
    not_other : {X Y : Type 0} → OneOf X Y → X → ¬ Y
    not_other (inl w) x = w.1
    not_other (inr w) x = absurd (w.0 x)

    other : {X Y : Type 0} → OneOf X Y → ¬ Y → X
    other (inl w) h = w.0
    other (inr w) h = absurd (h w.1)

opposite_differs : (a : Action) → opposite a ≡ a → ⊥
unfolding opposite same_action
opposite_differs accept e = subst (λ (b : Action). T (same_action deny b)) e tt
opposite_differs deny e = subst (λ (b : Action). T (same_action accept b)) e tt

module _ (rules : Table) (policy : Policy) where
  module _ (q : Packet) where
    abbrev Asks : Action → Type 0
    Asks a = Asked policy a q

    abbrev ConsistentAt : Type 0
    ConsistentAt = Asks accept → ¬ Asks deny

    abbrev SoundAt : Type 0
    SoundAt = (i : ℕ) (r : Rule) → Matches rules q i r → Asks r.action

    abbrev CompleteAt : Type 0
    CompleteAt = (a : Action) → Asks a → (i : ℕ) × (r : Rule) × (r.action ≡ a) × Matches rules q i r

    -- what Only and Neither say of any action
    only_this : (a b : Action) → Only policy q a → Asks b → b ≡ a
    unfolding opposite
    only_this accept accept o t = refl
    only_this accept deny o t = absurd (o.not_other t)
    only_this deny accept o t = absurd (o.not_other t)
    only_this deny deny o t = refl

    not_both : (a : Action) → Only policy q a → ConsistentAt
    unfolding opposite
    not_both accept o t u = o.not_other u
    not_both deny o t u = o.not_other t

    neither_asked : (b : Action) → Neither policy q → ¬ Asks b
    neither_asked accept n = n.no_accept
    neither_asked deny n = n.no_deny

    always_asked : (b : Action) → Asks accept → Asks deny → Asks b
    always_asked accept t u = t
    always_asked deny t u = u

    not_opposite : (a b : Action) → b ≡ opposite a → b ≡ a → ⊥
    not_opposite a b e f = opposite_differs a (sym e ∙ f)

    by_conflict : Case rules policy q (label rules policy q) → OneOf ConsistentAt (OfKind (label rules policy) 1 q)
    unfolding kind
    by_conflict (is_conflict e a d) = inr (λ c. c a d, ap kind e)
    by_conflict (is_wrong a i r e o m u) = inl (not_both a o, λ z. omega (arith, ap kind e))
    by_conflict (is_unasked i r e n m) = inl (λ t. absurd (n.no_accept t), λ z. omega (arith, ap kind e))
    by_conflict (is_unmet_accept e o u) = inl (not_both accept o, λ z. omega (arith, ap kind e))
    by_conflict (is_unmet_deny e o u) = inl (not_both deny o, λ z. omega (arith, ap kind e))
    by_conflict (is_done a i r e o m u) = inl (not_both a o, λ z. omega (arith, ap kind e))
    by_conflict (is_let_be e n u) = inl (λ t. absurd (n.no_accept t), λ z. omega (arith, ap kind e))

    by_blame : Case rules policy q (label rules policy q) → OneOf SoundAt (Blaming (label rules policy q))
    unfolding kind
    by_blame (is_conflict e a d) = inl (λ i r m. always_asked r.action a d, not_blaming (label rules policy q) 1 (ap kind e) tt)
    by_blame (is_wrong a i r e o m u) = inr (λ s. not_opposite a r.action u (only_this a r.action o (s i r m)), inl (ap kind e))
    by_blame (is_unasked i r e n m) = inr (λ s. neither_asked r.action n (s i r m), inr (ap kind e))
    by_blame (is_unmet_accept e o u) = inl (λ i r m. absurd (u i r m), not_blaming (label rules policy q) 4 (ap kind e) tt)
    by_blame (is_unmet_deny e o u) = inl (λ i r m. absurd (u i r m), not_blaming (label rules policy q) 5 (ap kind e) tt)
    by_blame (is_done a i r e o m u) =
        inl (λ j s n. subst (λ (t : Rule). Asks t.action) (matches_once rules q i j r s m n).1 (subst Asks (sym u) o.this), not_blaming (label rules policy q) 0 (ap kind e) tt)
    by_blame (is_let_be e n u) = inl (λ i r m. absurd (u i r m), not_blaming (label rules policy q) 0 (ap kind e) tt)

    by_lack : ¬ OfKind (label rules policy) 1 q → Case rules policy q (label rules policy q) → OneOf CompleteAt (Lacking (label rules policy q))
    unfolding kind
    by_lack h (is_conflict e a d) = absurd (h (ap kind e))
    by_lack h (is_wrong a i r e o m u) =
        inr (
          λ c.
              let w = c a o.this in
              not_opposite a r.action u (ap (λ (t : Rule). t.action) (matches_once rules q i w.0 r w.1 m w.3).1 ∙ w.2),
          inl (ap kind e),
        )
    by_lack h (is_unasked i r e n m) = inl (λ a t. absurd (neither_asked a n t), not_lacking (label rules policy q) 3 (ap kind e) tt)
    by_lack h (is_unmet_accept e o u) = inr (λ c. let w = c accept o.this in u w.0 w.1 w.3, inr (inl (ap kind e)))
    by_lack h (is_unmet_deny e o u) = inr (λ c. let w = c deny o.this in u w.0 w.1 w.3, inr (inr (ap kind e)))
    by_lack h (is_done a i r e o m u) =
        inl (λ b t. (i, r, u ∙ sym (only_this a b o t), m), not_lacking (label rules policy q) 0 (ap kind e) tt)
    by_lack h (is_let_be e n u) = inl (λ a t. absurd (neither_asked a n t), not_lacking (label rules policy q) 0 (ap kind e) tt)

  pub consistent_iff_no_conflict : (ns : List ℕ) → Consistent ns policy ↔ None ns (OfKind (label rules policy) 1)
  consistent_iff_no_conflict ns = over_packets ns ConsistentAt (OfKind (label rules policy) 1) (λ q i. by_conflict q (label_cases rules policy q))

  -- consistent or not
  pub sound_iff_no_wrong_or_unasked : (ns : List ℕ) → Sound ns rules policy ↔ None ns (λ q. OfKind (label rules policy) 2 q ⊎ OfKind (label rules policy) 3 q)
  sound_iff_no_wrong_or_unasked ns =
      over_packets ns SoundAt (λ q. OfKind (label rules policy) 2 q ⊎ OfKind (label rules policy) 3 q) (λ q i. by_blame q (label_cases rules policy q))

  pub complete_iff_no_wrong_or_unmet : (ns : List ℕ) → Consistent ns policy
      → Complete ns rules policy ↔ None ns (λ q. OfKind (label rules policy) 2 q ⊎ OfKind (label rules policy) 4 q ⊎ OfKind (label rules policy) 5 q)
  complete_iff_no_wrong_or_unmet ns c =
      over_packets ns CompleteAt (λ q. OfKind (label rules policy) 2 q ⊎ OfKind (label rules policy) 4 q ⊎ OfKind (label rules policy) 5 q)
      (λ q i. by_lack q ((consistent_iff_no_conflict ns).0 c q i) (label_cases rules policy q))
