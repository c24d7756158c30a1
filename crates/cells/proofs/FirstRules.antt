-- The first rule left, by the trailing zeros of a mask, and whether it accepts. Assumes nothing.
use mathlib.Core.Path.{◌≡◌, refl, ◌∙◌}
use mathlib.Core.Bool.{Bool, true, false, ◌&&◌, cond}
use mathlib.Core.List.{List, [], ◌∷◌}
use Prim.Native.Nat.{ℕ, zero, suc, ◌+◌, ◌*◌, ◌≤◌}
use native.Mathlib.Omega.{arith}
use native.Mathlib.Decide.{ℕ_discrete}
use borrow.Author.Tests.{eq-eqb, ne_eqb}
use lib.Count.{count_trailing_zeros}
use lib.Dec.{eqb, eqb-suc-suc}
use lib.ListN.{length}
use Rattle.meaning.specs.Labels.{judged}
use Rattle.meaning.specs.Records.{Found, nothing, found, first_from}
use Rattle.meaning.specs.Rules.{Action, accept, deny, same_action, Rule}
use Rattle.layout.specs.Masks.{mask}
use Rattle.cells.specs.Words.{accepts}
use Rattle.layout.proofs.MaskLaws.{digit, trailing_digit}

-- a rule without its block: a label looks at the action alone
abbrev pub bare : Action → Rule
bare a = record { action = a; block = [] }

unfoldable pub bared : Found Rule → Found Rule
bared nothing = nothing
bared (found n r) = found n (bare r.action)

pub judged_bared : (a d : Bool) (f : Found Rule) → judged a d (bared f) ≡ judged a d f
unfolding judged bared
judged_bared true true f = refl
judged_bared true false nothing = refl
judged_bared true false (found n r) = refl
judged_bared false true nothing = refl
judged_bared false true (found n r) = refl
judged_bared false false nothing = refl
judged_bared false false (found n r) = refl

-- the rule that masks decide: m is of the rules that pass, b of those of them that accept
abbrev pub decided : ℕ → ℕ → ℕ → ℕ → Found Rule
decided k n m b = cond (eqb m 0) nothing (found (count_trailing_zeros k m + n) (bare (cond (eqb (count_trailing_zeros k m) (count_trailing_zeros k b)) accept deny)))

own_action : (r : Rule) (t : ℕ) → cond (eqb 0 (cond (accepts r) 0 (suc t))) accept deny ≡ r.action
unfolding same_action
own_action r t = by r.action
  where
    by : (a : Action) → cond (eqb 0 (cond (same_action accept a) 0 (suc t))) accept deny ≡ a
    by accept = refl
    by deny = rw (ne_eqb 0 (suc t) (λ e. omega arith)) refl

-- the first record passes, or it does not
decided_here : (k n m b : ℕ) (r : Rule) → decided (suc k) n (digit true + 2 * m) (digit (accepts r) + 2 * b) ≡ found n (bare r.action)
decided_here k n m b r =
    let number : 0 + n ≡ n = omega arith in
    rw (ne_eqb (digit true + 2 * m) 0 (λ e. omega arith)) (rw (trailing_digit k true m) (rw (trailing_digit k (accepts r) b) (rw (own_action r (count_trailing_zeros k b)) (rw number refl))))

decided_later : (k n m b : ℕ) → decided (suc k) n (digit false + 2 * m) (digit false + 2 * b) ≡ decided k (suc n) m b
decided_later k n m b =
    let number : suc (count_trailing_zeros k m) + n ≡ count_trailing_zeros k m + suc n = omega arith in
    elim (ℕ_discrete m 0) [
      | yes e ↦ rw (eq-eqb (digit false + 2 * m) 0 (omega arith)) (rw (eq-eqb m 0 e) refl)
      | no e ↦
          rw (ne_eqb (digit false + 2 * m) 0 (λ z. e (omega arith)))
          (rw (ne_eqb m 0 e)
          (rw (trailing_digit k false m)
          (rw (trailing_digit k false b) (rw (eqb-suc-suc (count_trailing_zeros k m) (count_trailing_zeros k b)) (rw number refl)))))
    ]

pub first_decided : (k n : ℕ) (test : Rule → Bool) (rs : List Rule) → length rs ≤ k
    → decided k n (mask test rs) (mask (λ (r : Rule). test r && accepts r) rs) ≡ bared (first_from n test rs)
unfolding mask first_from bared
first_decided k n test [] h = refl
first_decided zero n test (r ∷ rs) h = absurd (omega arith)
first_decided (suc k) n test (r ∷ rs) h = by (test r) (first_decided k (suc n) test rs (omega arith))
  where
    by : (b : Bool)
        → decided k (suc n) (mask test rs) (mask (λ (x : Rule). test x && accepts x) rs) ≡ bared (first_from (suc n) test rs)
        → decided (suc k) n (digit b + 2 * mask test rs) (digit (b && accepts r) + 2 * mask (λ (x : Rule). test x && accepts x) rs)
        ≡ bared (cond b (found n r) (first_from (suc n) test rs))
    by true later = decided_here k n (mask test rs) (mask (λ (x : Rule). test x && accepts x) rs) r
    by false later = decided_later k n (mask test rs) (mask (λ (x : Rule). test x && accepts x) rs) ∙ later
