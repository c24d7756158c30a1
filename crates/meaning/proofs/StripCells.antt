-- Cells of strips: every packet lies in one, its low corner is its least packet, and cells in order have their corners in order. Assumes nothing.
use mathlib.Core.Path.{◌≡◌, refl, subst}
use mathlib.Core.Logic.{◌⊎◌, inl, inr, ⊎_elim}
use mathlib.Core.List.{List, [], ◌∷◌}
use Prim.Native.Nat.{ℕ, zero, suc, ◌≤◌, ◌<◌}
use native.Mathlib.Omega.{arith}
use native.Mathlib.Decide.{dec_lt, dec_le}
use lib.ListN.{get_or-eq_default}
use Rattle.meaning.specs.Fields.{Packet, InRange, range_none, range_more, Before, sooner, level}
use Rattle.meaning.specs.Strips.{Cut, strips, place, sizes, counts, InCell, cell_none, cell_more, corner}
use Rattle.meaning.specs.Verdicts.{Least}
use Rattle.meaning.proofs.PacketOrder.{before_differs}

module _ (c : Cut) where
  pub place_past : {i : ℕ} → strips c ≤ i → place c i ≡ c.size
  place_past h = get_or-eq_default c.places c.size h

  pub place_mono : (i j : ℕ) → i ≤ j → j ≤ strips c → place c i ≤ place c j
  place_mono i zero h k = let e : i ≡ 0 = omega arith in rw e (omega arith)
  place_mono i (suc j) h k =
      elim (dec_le i j) [
        | yes l ↦ omega (arith, place_mono i j l (omega arith), c.rising j k)
        | no l ↦ let e : i ≡ suc j = omega arith in rw e (omega arith)
      ]

  pub place_size : (i : ℕ) → i ≤ strips c → place c i ≤ c.size
  place_size i h = omega (arith, place_mono i (strips c) h (omega arith), place_past {i = strips c} (omega arith))

  -- the strip of a number
  pub record InStrip (x : ℕ) : Type 0 where
    pub strip : ℕ
    pub is_strip : strip < strips c
    pub from : place c strip ≤ x
    pub to : x < place c (suc strip)

  look : (x k : ℕ) → k ≤ strips c → x < place c k → InStrip x
  look x zero h l = absurd (omega (arith, c.from_zero))
  look x (suc k) h l =
      elim (dec_lt x (place c k)) [
        | yes m ↦ look x k (omega arith) m
        | no m ↦ record { strip = k; is_strip = h; from = omega arith; to = l }
      ]

  pub strip_of : (x : ℕ) → x < c.size → InStrip x
  strip_of x h = look x (strips c) (omega arith) (rw (place_past {i = strips c} (omega arith)) h)

pub record CellOf (cs : List Cut) (p : Packet) : Type 0 where
  pub cell : List ℕ
  pub lies : InCell cs cell p

pub cell_of : (cs : List Cut) {p : Packet} → InRange (sizes cs) p → CellOf cs p
cell_of [] range_none = record { cell = []; lies = cell_none }
cell_of (c ∷ cs) (range_more {x} h i) =
    let s = strip_of c x h in
    let t = cell_of cs i in
    record { cell = s.strip ∷ t.cell; lies = cell_more s.is_strip s.from s.to t.lies }

pub packet_in_range : {cs : List Cut} {cell : List ℕ} {p : Packet} → InCell cs cell p → InRange (sizes cs) p
packet_in_range cell_none = range_none
packet_in_range (cell_more {c} {i} {x} h a b s) = range_more {n = c.size} {x = x} (omega (arith, place_size c (suc i) h)) (packet_in_range s)

pub cell_in_range : {cs : List Cut} {cell : List ℕ} {p : Packet} → InCell cs cell p → InRange (counts cs) cell
cell_in_range cell_none = range_none
cell_in_range (cell_more h a b s) = range_more h (cell_in_range s)

pub corner_in_cell : (cs : List Cut) {cell : List ℕ} → InRange (counts cs) cell → InCell cs cell (corner cs cell)
unfolding corner
corner_in_cell [] range_none = cell_none
corner_in_cell (c ∷ cs) (range_more {x = i} h j) = cell_more {c = c} {i = i} {x = place c i} h (omega arith) (c.rising i h) (corner_in_cell cs j)

before_cases : {x y : ℕ} {p q : Packet} → Before (x ∷ p) (y ∷ q) → (x < y) ⊎ ((x ≡ y) × Before p q)
before_cases (sooner l) = inl l
before_cases (level b) = inr (refl, b)

-- what comes before a cell's corner lies in an earlier cell
pub before_corner : (cs : List Cut) {cell other : List ℕ} {q : Packet} → InRange (counts cs) cell → InCell cs other q → Before q (corner cs cell)
    → Before other cell
unfolding corner
before_corner [] range_none cell_none b = absurd (elim b [ ])
before_corner (c ∷ cs) (range_more {x = i} {p = cell} h u) (cell_more {i = j} {x} {cell = other} {p = q} g lo hi s) b =
    ⊎_elim
    (λ (l : x < place c i).
    let earlier : ¬ (i ≤ j) = λ m. omega (arith, place_mono c i j m (omega arith)) in
    sooner (omega arith))
    (λ (w : (x ≡ place c i) × Before q (corner cs cell)).
    let not_later : ¬ (i < j) = λ m. omega (arith, w.0, place_mono c (suc i) j m (omega arith), c.rising i h) in
    elim (dec_lt j i) [
      | yes m ↦ sooner m
      | no m ↦ subst (λ (k : ℕ). Before (j ∷ other) (k ∷ cell)) (omega arith) (level (before_corner cs u s w.1))
    ])
    (before_cases b)

-- the low corner of a cell is its least packet
pub corner_is_least : (cs : List Cut) {cell : List ℕ} → InRange (counts cs) cell → Least (sizes cs) (InCell cs cell) (corner cs cell)
corner_is_least cs i =
    let here = corner_in_cell cs i in
    record { in_range = packet_in_range here; is_such = here; none_before = λ q j b s. before_differs (before_corner cs i s b) refl }

-- cells in order have their corners in order
pub corners_in_order : (cs : List Cut) {cell other : List ℕ} → InRange (counts cs) cell → InRange (counts cs) other → Before cell other
    → Before (corner cs cell) (corner cs other)
unfolding corner
corners_in_order [] range_none range_none b = b
corners_in_order (c ∷ cs) (range_more {x = i} h u) (range_more {x = j} g v) (sooner l) =
    sooner {x = place c i} {y = place c j} (omega (arith, c.rising i h, place_mono c (suc i) j l (omega arith)))
corners_in_order (c ∷ cs) (range_more h u) (range_more g v) (level b) = level (corners_in_order cs u v b)
