-- What blocks hold. Assumes nothing.
use mathlib.Core.Logic.{◌↔◌}
use mathlib.Core.Bool.{◌&&◌}
use mathlib.Core.List.{List, [], ◌∷◌}
use Prim.Native.Nat.{ℕ, ◌≤◌, ◌<◌}
use native.Mathlib.Omega.{arith}
use lib.Dec.{T, leb, leb→le, le→leb}
use Rattle.meaning.specs.Blocks.{Span, Block, within, holds, Holds, inside, whole, widest}
use Rattle.meaning.specs.Fields.{Packet, InRange, range_none, range_more}
use Rattle.meaning.specs.Records.{Every, every_none, every_more}
use Rattle.meaning.proofs.Tests.{both, left, right}

pub within_iff : (s : Span) (x : ℕ) → T (within s x) ↔ ((s.low ≤ x) × (x ≤ s.high))
unfolding within
within_iff s x =
    let low = leb s.low x in
    let high = leb x s.high in
    (λ t. (leb→le _ _ (left low high t), leb→le _ _ (right low high t)), λ h. both low high (le→leb _ _ h.0) (le→leb _ _ h.1))

-- what lies inside a block holds no packet that the block does not
pub inside_holds : (b c : Block) (p : Packet) → T (inside b c) → Holds b p → Holds c p
unfolding inside holds
inside_holds [] [] p i h = h
inside_holds [] (t ∷ c) p i h = absurd i
inside_holds (s ∷ b) [] p i h = absurd i
inside_holds (s ∷ b) (t ∷ c) [] i h = h
inside_holds (s ∷ b) (t ∷ c) (x ∷ p) i h =
    let bounds = leb t.low s.low && leb s.high t.high in
    let low : t.low ≤ s.low = leb→le _ _ (left (leb t.low s.low) (leb s.high t.high) (left bounds (inside b c) i)) in
    let high : s.high ≤ t.high = leb→le _ _ (right (leb t.low s.low) (leb s.high t.high) (left bounds (inside b c) i)) in
    let w = (within_iff s x).0 (left (within s x) (holds b p) h) in
    both (within t x) (holds c p) ((within_iff t x).1 (omega (arith, w.0), omega (arith, w.1)))
    (inside_holds b c p (right bounds (inside b c) i) (right (within s x) (holds b p) h))

-- the widest block holds the packets in range, and no others
pub widest_holds_range : (ns : List ℕ) (p : Packet) → InRange ns p → Holds (widest ns) p
unfolding holds
widest_holds_range ns p range_none = tt
widest_holds_range ns p (range_more {n} {x} {ns = ms} {p = q} h i) =
    both (within (whole n) x) (holds (widest ms) q) ((within_iff (whole n) x).1 (omega arith, omega arith)) (widest_holds_range ms q i)

pub widest_holds_only_range : {ns : List ℕ} → Every (λ n. 0 < n) ns → (p : Packet) → Holds (widest ns) p → InRange ns p
unfolding holds
widest_holds_only_range every_none [] h = range_none
widest_holds_only_range every_none (x ∷ p) h = absurd h
widest_holds_only_range (every_more pos e) [] h = absurd h
widest_holds_only_range (every_more {x = n} {xs = ns} pos e) (x ∷ p) h =
    let w = (within_iff (whole n) x).0 (left (within (whole n) x) (holds (widest ns) p) h) in
    range_more {n = n} {x = x} (omega (arith, w.1)) (widest_holds_only_range e p (right (within (whole n) x) (holds (widest ns) p) h))
