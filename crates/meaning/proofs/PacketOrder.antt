-- The order of packets is strict and total on packets in range; the lowest packet is the least. Assumes nothing.
use mathlib.Core.Path.{◌≡◌, refl, subst}
use mathlib.Core.List.{List, [], ◌∷◌, head-eq_of_cons-eq, tail-eq_of_cons-eq}
use Prim.Native.Nat.{ℕ, ◌<◌}
use native.Mathlib.Omega.{arith}
use native.Mathlib.Decide.{dec_lt}
use Rattle.meaning.specs.Fields.{Packet, InRange, range_none, range_more, Before, sooner, level, lowest}
use Rattle.meaning.specs.Records.{Every, every_none, every_more}
use Rattle.meaning.specs.Verdicts.{Least}

pub before_differs : {p q : Packet} → Before p q → p ≡ q → ⊥
before_differs (sooner l) e = omega (arith, head-eq_of_cons-eq e)
before_differs (level b) e = before_differs b (tail-eq_of_cons-eq e)

pub before_trans : {p q r : Packet} → Before p q → Before q r → Before p r
before_trans (sooner {x} l) (sooner {y = z} m) = sooner {x = x} {y = z} (omega arith)
before_trans (sooner l) (level b) = sooner l
before_trans (level a) (sooner m) = sooner m
before_trans (level a) (level b) = level (before_trans a b)

pub data Compared (p q : Packet) : Type 0 where
  is_before : Before p q → Compared p q
  is_same : p ≡ q → Compared p q
  is_after : Before q p → Compared p q

compared_level : {p q : Packet} (x y : ℕ) → x ≡ y → Compared p q → Compared (x ∷ p) (y ∷ q)
compared_level {p} {q} x y e (is_before b) = is_before (subst (λ (z : ℕ). Before (x ∷ p) (z ∷ q)) e (level b))
compared_level {p} {q} x y e (is_same s) = is_same (λ i. e i ∷ s i)
compared_level {p} {q} x y e (is_after b) = is_after (subst (λ (z : ℕ). Before (z ∷ q) (x ∷ p)) e (level b))

pub compared : {ns : List ℕ} {p q : Packet} → InRange ns p → InRange ns q → Compared p q
compared range_none range_none = is_same refl
compared (range_more {x} h i) (range_more {x = y} h' j) =
    elim (dec_lt x y) [
      | yes l ↦ is_before (sooner l)
      | no l ↦ elim (dec_lt y x) [ yes m ↦ is_after (sooner m) | no m ↦ compared_level x y (omega arith) (compared i j) ]
    ]

-- there is one least packet
pub least_is_unique : (ns : List ℕ) (P : Packet → Type 0) (p q : Packet) → Least ns P p → Least ns P q → p ≡ q
least_is_unique ns P p q a b = by_order (compared a.in_range b.in_range)
  where
    by_order : Compared p q → p ≡ q
    by_order (is_before l) = absurd (b.none_before p a.in_range l a.is_such)
    by_order (is_same e) = e
    by_order (is_after l) = absurd (a.none_before q b.in_range l b.is_such)

-- no packet comes before the lowest, and it is in range if no field is empty
not_below : (n : ℕ) (p q : Packet) → n ≡ 0 → ((r : Packet) → Before r q → ⊥) → Before p (n ∷ q) → ⊥
not_below n p q e less (sooner l) = omega arith
not_below n p q e less (level {p = r} b) = less r b

pub lowest_is_least : (ns : List ℕ) (p : Packet) → Before p (lowest ns) → ⊥
lowest_is_least [] p b = elim b [ ]
lowest_is_least (n ∷ ns) p b = not_below 0 p (lowest ns) refl (lowest_is_least ns) b

pub lowest_in_range : {ns : List ℕ} → Every (λ n. 0 < n) ns → InRange ns (lowest ns)
lowest_in_range every_none = range_none
lowest_in_range (every_more h e) = range_more h (lowest_in_range e)
