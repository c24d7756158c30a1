-- Where the cuts have a place at both ends of every block, the label is constant on strips: each test comes out the same all over a strip. Assumes nothing.
use mathlib.Core.Path.{◌≡◌, refl, sym, ◌∙◌, ap}
use mathlib.Core.Bool.{◌&&◌}
use mathlib.Core.List.{List, [], ◌∷◌}
use Prim.Native.Nat.{ℕ, suc, ◌≤◌, ◌<◌}
use native.Mathlib.Omega.{arith}
use lib.Dec.{T, eqb, eqb→eq}
use lib.ListN.{length, get_or}
use Rattle.meaning.specs.Blocks.{Span, Block, within, holds}
use Rattle.meaning.specs.Fields.{Packet}
use Rattle.meaning.specs.Labels.{label}
use Rattle.meaning.specs.Policies.{Directive, Policy, excepted, asks, asked, lowest_asking}
use Rattle.meaning.specs.Records.{some_of, all_of, number_of}
use Rattle.meaning.specs.Rules.{Action, accept, deny, Rule, deciding, Table}
use Rattle.meaning.specs.Strips.{Cut, strips, place, InCell, cell_none, cell_more, corner, ByCells, is_place, cut_at, cut_for_directive, cut_for}
use Rattle.meaning.proofs.StripCells.{place_past, place_mono, cell_in_range, corner_in_cell}
use Rattle.meaning.proofs.RecordsFirst.{some_same, first_same}
use Rattle.meaning.proofs.BlockHolding.{within_iff}
use Rattle.meaning.proofs.Tests.{tested, left, right, second, same_test}

-- x is where strip k begins, or the size
record PlaceAt (c : Cut) (x : ℕ) : Type 0 where
  strip : ℕ
  is_strip : strip ≤ strips c
  is_place_lem : x ≡ place c strip

member : (x d : ℕ) (ys : List ℕ) → T (some_of (λ (y : ℕ). eqb x y) ys) → (k : ℕ) × (k < length ys) × (x ≡ get_or ys k d)
unfolding some_of
member x d [] t = absurd t
member x d (y ∷ ys) t =
    elim (tested (eqb x y)) [
      | yes e ↦ (0, omega arith, eqb→eq x y e)
      | no h ↦ let w = member x d ys (second (eqb x y) (some_of (λ (z : ℕ). eqb x z) ys) h t) in (suc w.0, omega (arith, w.1), w.2)
    ]

place_at : (c : Cut) (x : ℕ) → T (is_place c x) → PlaceAt c x
unfolding is_place
place_at c x t =
    elim (tested (eqb x c.size)) [
      | yes e ↦ record { strip = strips c; is_strip = omega arith; is_place_lem = eqb→eq x c.size e ∙ sym (place_past c {i = strips c} (omega arith)) }
      | no h ↦
          let w = member x c.size c.places (second (eqb x c.size) (some_of (λ (y : ℕ). eqb x y) c.places) h t) in
          record { strip = w.0; is_strip = omega (arith, w.1); is_place_lem = w.2 }
    ]

-- two numbers of one strip stand on one side of every place
same_side : (c : Cut) (i z x y : ℕ) → PlaceAt c z → i < strips c → x < place c (suc i) → place c i ≤ y → z ≤ x → z ≤ y
same_side c i z x y w h a b l =
    let not_above : ¬ (i < w.strip) = λ m. omega (arith, w.is_place_lem, place_mono c (suc i) w.strip m w.is_strip) in
    omega (arith, w.is_place_lem, place_mono c w.strip i (omega arith) (omega arith))

same_within : (c : Cut) (s : Span) (i x y : ℕ) → PlaceAt c s.low → PlaceAt c (suc s.high) → i < strips c → place c i ≤ x → x < place c (suc i)
    → place c i ≤ y → y < place c (suc i)
    → T (within s x) → T (within s y)
same_within c s i x y low high h a b a' b' t =
    let w = (within_iff s x).0 t in
    let not_past : ¬ (suc s.high ≤ y) = λ m. omega (arith, w.1, same_side c i (suc s.high) y x high h b' a m) in
    (within_iff s y).1 (same_side c i s.low x y low h b a' w.0, omega arith)

same_holds : (cs : List Cut) (b : Block) {cell : List ℕ} {p q : Packet} → T (cut_at cs b) → InCell cs cell p → InCell cs cell q → holds b p ≡ holds b q
unfolding cut_at holds
same_holds [] [] t cell_none cell_none = refl
same_holds [] (s ∷ b) t cell_none cell_none = refl
same_holds (c ∷ cs) [] t (cell_more h a b u) (cell_more h' a' b' v) = refl
same_holds (c ∷ cs) (s ∷ b) t (cell_more {i} {x} h lo hi u) (cell_more {x = y} h' lo' hi' v) =
    let ends = is_place c s.low && is_place c (suc s.high) in
    let low = place_at c s.low (left (is_place c s.low) (is_place c (suc s.high)) (left ends (cut_at cs b) t)) in
    let high = place_at c (suc s.high) (right (is_place c s.low) (is_place c (suc s.high)) (left ends (cut_at cs b) t)) in
    let first : within s x ≡ within s y =
    same_test (within s x) (within s y) (same_within c s i x y low high h lo hi lo' hi') (same_within c s i y x low high h lo' hi' lo hi) in
    rw (first, same_holds cs b (right ends (cut_at cs b) t) u v)

module _ (cs : List Cut) {cell : List ℕ} {p q : Packet} (at_p : InCell cs cell p) (at_q : InCell cs cell q) where
  same_asks : (a : Action) (d : Directive) → T (cut_for_directive cs d) → asks d a p ≡ asks d a q
  unfolding cut_for_directive asks excepted
  same_asks a d t =
      let own : holds d.block p ≡ holds d.block q = same_holds cs d.block (left (cut_at cs d.block) (all_of (cut_at cs) d.exceptions) t) at_p at_q in
      let except : some_of (λ (b : Block). holds b p) d.exceptions ≡ some_of (λ (b : Block). holds b q) d.exceptions =
      some_same (cut_at cs) (λ b. holds b p) (λ b. holds b q) (λ b u. same_holds cs b u at_p at_q) d.exceptions (right (cut_at cs d.block) (all_of (cut_at cs) d.exceptions) t) in
      rw (own, except)

  module _ (rules : Table) (policy : Policy) (t : T (cut_for cs rules policy)) where
    rules_cut : T (all_of (λ (r : Rule). cut_at cs r.block) rules)
    unfolding cut_for
    rules_cut = left (all_of (λ (r : Rule). cut_at cs r.block) rules) (all_of (cut_for_directive cs) policy.directives) t

    directives_cut : T (all_of (cut_for_directive cs) policy.directives)
    unfolding cut_for
    directives_cut = right (all_of (λ (r : Rule). cut_at cs r.block) rules) (all_of (cut_for_directive cs) policy.directives) t

    same_deciding : deciding rules p ≡ deciding rules q
    unfolding deciding
    same_deciding =
        first_same (λ r. cut_at cs r.block) (λ r. holds r.block p) (λ r. holds r.block q) (λ r u. same_holds cs r.block u at_p at_q) 1 rules rules_cut

    same_asked : (a : Action) → asked policy a p ≡ asked policy a q
    unfolding asked
    same_asked a = some_same (cut_for_directive cs) (λ d. asks d a p) (λ d. asks d a q) (same_asks a) policy.directives directives_cut

    same_asking : (a : Action) → lowest_asking policy a p ≡ lowest_asking policy a q
    unfolding lowest_asking
    same_asking a = ap number_of (first_same (cut_for_directive cs) (λ d. asks d a p) (λ d. asks d a q) (same_asks a) 1 policy.directives directives_cut)

    same_label_lem : label rules policy p ≡ label rules policy q
    unfolding label
    same_label_lem = rw (same_asked accept, same_asked deny, same_deciding)

-- so each is what it is at the low corner of the packet's cell
module _ (cs : List Cut) (rules : Table) (policy : Policy) (t : T (cut_for cs rules policy)) where
  pub label_by_cells : ByCells cs (λ cell. label rules policy (corner cs cell)) (label rules policy)
  label_by_cells cell p s = same_label_lem cs s (corner_in_cell cs (cell_in_range s)) rules policy t

  pub asking_by_cells : (a : Action) → ByCells cs (λ cell. lowest_asking policy a (corner cs cell)) (lowest_asking policy a)
  asking_by_cells a cell p s = same_asking cs s (corner_in_cell cs (cell_in_range s)) rules policy t a
