-- Every label function has a listing, which can be computed where labels can be compared. Assumes nothing.
use mathlib.Core.Path.{◌≡◌, subst}
use mathlib.Core.Logic.{◌↔◌}
use mathlib.Core.Bool.{Bool, true, ◌&&◌, cond}
use mathlib.Core.List.{List, [], ◌∷◌, ◌++◌, map}
use Prim.Native.Nat.{ℕ, zero, suc, ◌+◌, ◌-◌, ◌≤◌, ◌<◌}
use native.Mathlib.Omega.{arith}
use native.Mathlib.Decide.{dec_lt, dec_le}
use borrow.Author.Tests.{lt-ltb, le-ltb}
use lib.Dec.{T, ltb}
use Rattle.meaning.specs.Fields.{Packet, range_none, range_more}
use Rattle.meaning.specs.Listings.{Listed, Lister, at, Agree, widen, Runs, no_more, run, is_good, at_fault, Listing}
use Rattle.meaning.proofs.Tests.{tested, passed, failed, both, left, right}
use Rattle.meaning.proofs.ListingUnique.{agree_refl, RunTo}

-- the test passes at every number below n
unfoldable pub below : ℕ → (ℕ → Bool) → Bool
below zero test = true
below (suc n) test = below n test && test n

below_iff : (n : ℕ) (test : ℕ → Bool) → T (below n test) ↔ ((x : ℕ) → x < n → T (test x))
unfolding below
below_iff zero test = (λ t x h. absurd (omega arith), λ h. tt)
below_iff (suc n) test =
    let ih = below_iff n test in (
      λ t x h. elim (dec_lt x n) [ yes l ↦ ih.0 (left (below n test) (test n) t) x l | no l ↦ subst (λ (y : ℕ). T (test y)) (omega arith) (right (below n test) (test n) t) ],
      λ h. both (below n test) (test n) (ih.1 (λ x l. h x (omega arith))) (h n (omega arith)),
    )

module _ {L : Type 0} (same : L → L → Bool) (same_iff : (a b : L) → T (same a b) ↔ (a ≡ b)) where
  unfoldable pub agree : List ℕ → (Packet → L) → (Packet → L) → Bool
  agree [] f g = same (f []) (g [])
  agree (n ∷ ns) f g = below n (λ x. agree ns (at f x) (at g x))

  agree_none : (f g : Packet → L) → f [] ≡ g [] → Agree [] f g
  agree_none f g e p range_none = e

  agree_more : {n : ℕ} {ns : List ℕ} (f g : Packet → L) → ((x : ℕ) → x < n → Agree ns (at f x) (at g x)) → Agree (n ∷ ns) f g
  agree_more f g h p (range_more {x} {p = q} l i) = h x l q i

  pub agree_iff : (ns : List ℕ) (f g : Packet → L) → T (agree ns f g) ↔ Agree ns f g
  unfolding agree
  agree_iff [] f g = (λ t. agree_none f g ((same_iff (f []) (g [])).0 t), λ a. (same_iff (f []) (g [])).1 (a [] range_none))
  agree_iff (n ∷ ns) f g =
      let each = below_iff n (λ x. agree ns (at f x) (at g x)) in (
        λ t. agree_more f g (λ x l. (agree_iff ns (at f x) (at g x)).0 (each.0 t x l)),
        λ a. each.1 (λ x l. (agree_iff ns (at f x) (at g x)).1 (λ p i. a (x ∷ p) (range_more l i))),
      )

  module _ (ns : List ℕ) (n : ℕ) (f : Packet → L) (low : ℕ) where
    -- the last number of the run from low, which is known to reach `high` and may go k further
    unfoldable pub last_from : ℕ → ℕ → ℕ
    last_from zero high = high
    last_from (suc k) high = cond (agree ns (at f low) (at f (suc high))) (last_from k (suc high)) high

    last_is : (k high : ℕ) → suc high + k ≡ n → low ≤ high → ((x : ℕ) → low ≤ x → x ≤ high → Agree ns (at f low) (at f x))
        → RunTo ns n f low (last_from k high)
    unfolding last_from
    last_is zero high e h all = record { rises = h; below = omega arith; agrees = all; stops = λ l. absurd (omega arith) }
    last_is (suc k) high e h all =
        elim (tested (agree ns (at f low) (at f (suc high)))) [
          | yes t ↦
              rw (passed (agree ns (at f low) (at f (suc high))) t)
              (last_is k (suc high) (omega arith) (omega arith)
              (λ x l m. elim (dec_le x high) [
                | yes u ↦ all x l u
                | no u ↦ subst (λ (y : ℕ). Agree ns (at f low) (at f y)) (omega arith) ((agree_iff ns (at f low) (at f (suc high))).0 t)
              ]))
          | no t ↦
              rw (failed (agree ns (at f low) (at f (suc high))) t)
              (record { rises = h; below = omega arith; agrees = all; stops = λ l a. t ((agree_iff ns (at f low) (at f (suc high))).1 a) })
        ]

  -- the runs from `low` on, at most k of them
  unfoldable pub runs_from : List ℕ → ((Packet → L) → List (Listed L)) → ℕ → (Packet → L) → ℕ → ℕ → List (Listed L)
  runs_from ns inner n f zero low = []
  runs_from ns inner n f (suc k) low =
      let high = last_from ns n f low (n - suc low) low in
      cond (ltb low n) (map (widen low high) (inner (at f low)) ++ runs_from ns inner n f k (suc high)) []

  -- those runs are the runs
  pub runs_computed : (ns : List ℕ) (inner : (Packet → L) → List (Listed L)) (Inner : Lister L) → ((f : Packet → L) → Inner f (inner f))
      → (n : ℕ) (f : Packet → L) (k low : ℕ) → n ≤ low + k → Runs ns Inner n f low (runs_from ns inner n f k low)
  unfolding runs_from
  runs_computed ns inner Inner inner_is n f zero low h = no_more {low = low} (omega arith)
  runs_computed ns inner Inner inner_is n f (suc k) low h =
      let high = last_from ns n f low (n - suc low) low in
      elim (dec_lt low n) [
        | yes l ↦
            let r = last_is ns n f low (n - suc low) low (omega arith) (omega arith) (λ x a b. subst (λ (y : ℕ). Agree ns (at f low) (at f y)) (omega arith) (agree_refl (at f low))) in
            rw (lt-ltb low n l)
            (run r.rises r.below r.agrees r.stops (inner_is (at f low)) (runs_computed ns inner Inner inner_is n f k (suc high) (omega (arith, r.rises))))
        | no l ↦ rw (le-ltb low n (omega arith)) (no_more {low = low} (omega arith))
      ]

  module _ (good : L) where
    unfoldable pub listing_of : List ℕ → (Packet → L) → List (Listed L)
    listing_of [] f = cond (same (f []) good) [] (record { block = []; label = f [] } ∷ [])
    listing_of (n ∷ ns) f = runs_from ns (listing_of ns) n f n 0

    pub listing_computed : (ns : List ℕ) (f : Packet → L) → Listing good ns f (listing_of ns f)
    unfolding listing_of
    listing_computed [] f =
        elim (tested (same (f []) good)) [
          | yes t ↦ rw (passed (same (f []) good) t) (is_good ((same_iff (f []) good).0 t))
          | no t ↦ rw (failed (same (f []) good) t) (at_fault (λ e. t ((same_iff (f []) good).1 e)))
        ]
    listing_computed (n ∷ ns) f = runs_computed ns (listing_of ns) (Listing good ns) (listing_computed ns) n f n 0 (omega arith)
