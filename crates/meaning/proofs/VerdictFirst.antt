-- Among the packets of any sizes there is a first of the lowest rank, and it can be computed. Assumes nothing.
use mathlib.Core.Path.{subst}
use mathlib.Core.Bool.{cond}
use mathlib.Core.List.{List, [], ◌∷◌}
use mathlib.Core.Option.{Option, none, some}
use Prim.Native.Nat.{ℕ, zero, suc, ◌≤◌, ◌<◌}
use native.Mathlib.Omega.{arith}
use native.Mathlib.Decide.{dec_lt}
use borrow.Author.Tests.{lt-ltb, le-ltb}
use lib.Dec.{ltb}
use Rattle.meaning.specs.Fields.{Packet, InRange, range_none, range_more, Before, sooner, level}
use Rattle.meaning.proofs.PacketOrder.{lowest_is_least}
use Rattle.meaning.proofs.VerdictRanks.{FirstOf}

-- the better of two, the first where they are equal
unfoldable pub better : (Packet → ℕ) → Option Packet → Option Packet → Option Packet
better r none y = y
better r (some p) none = some p
better r (some p) (some q) = cond (ltb (r q) (r p)) (some q) (some p)

unfoldable pub ahead : ℕ → Option Packet → Option Packet
ahead x none = none
ahead x (some p) = some (x ∷ p)

-- the best whose first number is below n, where `inner` finds the best of the other fields
unfoldable pub best_below : ((Packet → ℕ) → Option Packet) → ℕ → (Packet → ℕ) → Option Packet
best_below inner zero r = none
best_below inner (suc n) r = better r (best_below inner n r) (ahead n (inner (λ p. r (n ∷ p))))

unfoldable pub best : List ℕ → (Packet → ℕ) → Option Packet
best [] r = some []
best (n ∷ ns) r = best_below (best ns) n r

abbrev pub IsBest : List ℕ → (Packet → ℕ) → Option Packet → Type 0
IsBest ns r none = (q : Packet) → ¬ InRange ns q
IsBest ns r (some p) = FirstOf ns r p

module _ (n : ℕ) (ns : List ℕ) where
  -- what holds of the packets whose first number is below n, and where it is n, holds below suc n
  pub split : (P : Packet → Type 0) → ((q : Packet) → InRange (n ∷ ns) q → P q) → ((q : Packet) → InRange ns q → P (n ∷ q)) → (q : Packet)
      → InRange (suc n ∷ ns) q → P q
  split P below here q (range_more {x} {p} h i) =
      elim (dec_lt x n) [ yes l ↦ below (x ∷ p) (range_more l i) | no l ↦ subst (λ (y : ℕ). P (y ∷ p)) (omega arith) (here p i) ]

  wider : {q : Packet} → InRange (n ∷ ns) q → InRange (suc n ∷ ns) q
  wider (range_more {x} h i) = range_more {n = suc n} {x = x} (omega arith) i

  -- a packet whose first number is below n has only such before it
  before_below : {p q : Packet} → InRange (n ∷ ns) p → InRange (suc n ∷ ns) q → Before q p → InRange (n ∷ ns) q
  before_below (range_more h i) (range_more {x} g j) (sooner l) = range_more {n = n} {x = x} (omega arith) j
  before_below (range_more h i) (range_more g j) (level b) = range_more h j

  module _ (r : Packet → ℕ) where
    abbrev here : Packet → ℕ
    here p = r (n ∷ p)

    -- the best below n is the best below suc n, if none of those at n is better
    pub kept : (p : Packet) → FirstOf (n ∷ ns) r p → ((q : Packet) → InRange ns q → r p ≤ r (n ∷ q)) → FirstOf (suc n ∷ ns) r p
    kept p o all =
        record {
          in_range = wider o.in_range;
          lowest_rank = split (λ q. r p ≤ r q) o.lowest_rank all;
          first = λ q i b. o.first q (before_below o.in_range i b) b;
        }

    -- the best at n is, if it is better than all below n
    pub taken : (q : Packet) → ((p : Packet) → InRange (n ∷ ns) p → r (n ∷ q) < r p) → FirstOf ns here q → FirstOf (suc n ∷ ns) r (n ∷ q)
    taken q all o =
        record {
          in_range = range_more {n = suc n} {x = n} (omega arith) o.in_range;
          lowest_rank = split (λ p. r (n ∷ q) ≤ r p) (λ p i. omega (arith, all p i)) o.lowest_rank;
          first = sooner_than;
        }
      where
        sooner_than : (p : Packet) → InRange (suc n ∷ ns) p → Before p (n ∷ q) → r (n ∷ q) < r p
        sooner_than p (range_more {x} {p = s} h i) (sooner l) = all (x ∷ s) (range_more l i)
        sooner_than p (range_more {x} {p = s} h i) (level b) = o.first s i b

    step : (x y : Option Packet) → IsBest (n ∷ ns) r x → IsBest ns here y → IsBest (suc n ∷ ns) r (better r x (ahead n y))
    unfolding better ahead
    step none none a b = split (λ q. ⊥) a b
    step none (some q) a b = taken q (λ p i. absurd (a p i)) b
    step (some p) none a b = kept p a (λ q i. absurd (b q i))
    step (some p) (some q) a b =
        elim (dec_lt (r (n ∷ q)) (r p)) [
          | yes l ↦ rw (lt-ltb (r (n ∷ q)) (r p) l) (taken q (λ s i. omega (arith, a.lowest_rank s i)) b)
          | no l ↦ rw (le-ltb (r (n ∷ q)) (r p) (omega arith)) (kept p a (λ s i. omega (arith, b.lowest_rank s i)))
        ]

pub only_empty : (r : Packet → ℕ) → FirstOf [] r []
only_empty r = record { in_range = range_none; lowest_rank = least; first = λ q i b. absurd (lowest_is_least [] q b) }
  where
    least : (q : Packet) → InRange [] q → r [] ≤ r q
    least q range_none = omega arith

below_is : (ns : List ℕ) (inner : (Packet → ℕ) → Option Packet) → ((r : Packet → ℕ) → IsBest ns r (inner r)) → (n : ℕ) (r : Packet → ℕ)
    → IsBest (n ∷ ns) r (best_below inner n r)
unfolding best_below
below_is ns inner ih zero r = nothing_below
  where
    nothing_below : (q : Packet) → ¬ InRange (0 ∷ ns) q
    nothing_below q (range_more h i) = omega arith
below_is ns inner ih (suc n) r = step n ns r (best_below inner n r) (inner (λ p. r (n ∷ p))) (below_is ns inner ih n r) (ih (λ p. r (n ∷ p)))

pub best_is : (ns : List ℕ) (r : Packet → ℕ) → IsBest ns r (best ns r)
unfolding best
best_is [] r = only_empty r
best_is (n ∷ ns) r = below_is ns (best ns) (best_is ns) n r
