-- Labels and their kinds. Assumes nothing.
use mathlib.Core.Path.{◌≡◌, refl, sym, ◌∙◌, ap, subst}
use mathlib.Core.Logic.{◌⊎◌, inl, inr, ⊎_elim, ◌↔◌}
use mathlib.Core.Bool.{Bool, not, ◌&&◌}
use Prim.Native.Nat.{ℕ, zero, suc, ◌≤◌}
use native.Mathlib.Omega.{arith}
use lib.Dec.{T, eqb, eqb_refl, eqb→eq, T_not}
use Rattle.meaning.specs.Labels.{Label, good, conflict, wrong, unasked, unmet_accept, unmet_deny, kind, rule}
use Rattle.meaning.proofs.Tests.{both, left, right}

-- kinds 2 and 3 blame the deciding rule; 4 and 5 leave something unmet; 2, 4 and 5 lack what is asked
abbrev pub Blaming : Label → Type 0
Blaming l = (kind l ≡ 2) ⊎ (kind l ≡ 3)

abbrev pub Unmeeting : Label → Type 0
Unmeeting l = (kind l ≡ 4) ⊎ (kind l ≡ 5)

abbrev pub Lacking : Label → Type 0
Lacking l = (kind l ≡ 2) ⊎ Unmeeting l

-- a label that blames a rule has its number, from 1 to b
abbrev pub Numbered : ℕ → Label → Type 0
Numbered b l = Blaming l → (1 ≤ rule l) × (rule l ≤ b)

pub data Kinds (l : Label) : Type 0 where
  is_good : l ≡ good → Kinds l
  is_conflict : kind l ≡ 1 → Kinds l
  is_blaming : Blaming l → Kinds l
  is_unmet : Unmeeting l → Kinds l

pub kinds : (l : Label) → Kinds l
unfolding kind
kinds good = is_good refl
kinds conflict = is_conflict refl
kinds (wrong n) = is_blaming (inl refl)
kinds (unasked n) = is_blaming (inr refl)
kinds unmet_accept = is_unmet (inl refl)
kinds unmet_deny = is_unmet (inr refl)

-- A label whose kind is the numeral k has none of the other kinds: `tt` proves the test.
other : (j k m : ℕ) → j ≡ k → T (not (eqb k m)) → ¬ (j ≡ m)
other j k m e t f = T_not (eqb k m) t (subst (λ (n : ℕ). T (eqb k n)) (sym e ∙ f) (eqb_refl k))

pub not_blaming : (l : Label) (k : ℕ) → kind l ≡ k → T (not (eqb k 2) && not (eqb k 3)) → ¬ Blaming l
not_blaming l k e t = ⊎_elim (other (kind l) k 2 e (left (not (eqb k 2)) (not (eqb k 3)) t)) (other (kind l) k 3 e (right (not (eqb k 2)) (not (eqb k 3)) t))

pub not_lacking : (l : Label) (k : ℕ) → kind l ≡ k → T (not (eqb k 2) && (not (eqb k 4) && not (eqb k 5))) → ¬ Lacking l
not_lacking l k e t =
    let later = right (not (eqb k 2)) (not (eqb k 4) && not (eqb k 5)) t in
    ⊎_elim (other (kind l) k 2 e (left (not (eqb k 2)) (not (eqb k 4) && not (eqb k 5)) t))
    (⊎_elim (other (kind l) k 4 e (left (not (eqb k 4)) (not (eqb k 5)) later)) (other (kind l) k 5 e (right (not (eqb k 4)) (not (eqb k 5)) later)))

-- kind 0 is good
pub kind_zero : (l : Label) → kind l ≡ 0 → l ≡ good
kind_zero l e = from (kinds l)
  where
    from : Kinds l → l ≡ good
    from (is_good g) = g
    from (is_conflict c) = absurd (omega arith)
    from (is_blaming w) = absurd (not_blaming l 0 e tt w)
    from (is_unmet u) = absurd (not_lacking l 0 e tt (inr u))

-- the rule number is 0 for the other kinds
pub no_rule_unless_blaming : (l : Label) → ¬ Blaming l → rule l ≡ 0
unfolding kind rule
no_rule_unless_blaming good h = refl
no_rule_unless_blaming conflict h = refl
no_rule_unless_blaming (wrong n) h = absurd (h (inl refl))
no_rule_unless_blaming (unasked n) h = absurd (h (inr refl))
no_rule_unless_blaming unmet_accept h = refl
no_rule_unless_blaming unmet_deny h = refl

-- A label is its kind and its rule.
unfoldable pub label_from : ℕ → ℕ → Label
label_from zero n = good
label_from (suc zero) n = conflict
label_from (suc (suc zero)) n = wrong n
label_from (suc (suc (suc zero))) n = unasked n
label_from (suc (suc (suc (suc zero)))) n = unmet_accept
label_from (suc (suc (suc (suc (suc k))))) n = unmet_deny

pub label_from_lem : (l : Label) → label_from (kind l) (rule l) ≡ l
unfolding label_from kind rule
label_from_lem good = refl
label_from_lem conflict = refl
label_from_lem (wrong n) = refl
label_from_lem (unasked n) = refl
label_from_lem unmet_accept = refl
label_from_lem unmet_deny = refl

pub label_is_kind_and_rule : (l m : Label) → kind l ≡ kind m → rule l ≡ rule m → l ≡ m
label_is_kind_and_rule l m k r = sym (label_from_lem l) ∙ ap (λ (j : ℕ). label_from j (rule l)) k ∙ ap (label_from (kind m)) r ∙ label_from_lem m

unfoldable pub same_label : Label → Label → Bool
same_label l m = eqb (kind l) (kind m) && eqb (rule l) (rule m)

pub same_label_iff : (l m : Label) → T (same_label l m) ↔ (l ≡ m)
unfolding same_label
same_label_iff l m =
    let k = eqb (kind l) (kind m) in
    let r = eqb (rule l) (rule m) in (
      λ t. label_is_kind_and_rule l m (eqb→eq _ _ (left k r t)) (eqb→eq _ _ (right k r t)),
      λ e. both k r (subst (λ (x : Label). T (eqb (kind l) (kind x))) e (eqb_refl (kind l))) (subst (λ (x : Label). T (eqb (rule l) (rule x))) e (eqb_refl (rule l))),
    )
