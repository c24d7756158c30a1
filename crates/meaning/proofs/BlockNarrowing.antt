-- Narrowing: over a span first, then over any field of a block, then one after another. Assumes nothing.
use mathlib.Core.Path.{◌≡◌, refl, sym, ◌∙◌, ap}
use mathlib.Core.Logic.{◌↔◌}
use mathlib.Core.Bool.{Bool, true, false, ◌&&◌, and_assoc, and_comm, and-true}
use mathlib.Core.List.{List, [], ◌∷◌}
use Prim.Native.Nat.{ℕ, zero, suc, ◌≤◌, min, max}
use native.Mathlib.Omega.{arith}
use lib.Dec.{T, leb→le, le→leb}
use lib.ListN.{get_or}
use Rattle.meaning.specs.Blocks.{Span, Block, within, holds, shared, shares, narrow_span, narrow, narrows, bounded, narrow_all, narrows_all}
use Rattle.meaning.specs.Fields.{Packet}
use Rattle.meaning.specs.Records.{all_of}
use Rattle.meaning.proofs.BlockHolding.{within_iff}
use Rattle.meaning.proofs.Tests.{passed, failed, both, left, right, same_test}

module _ (s bounds : Span) where
  pub shares_iff : T (shares s bounds) ↔ ((x : ℕ) × T (within s x) × T (within bounds x))
  unfolding shares
  shares_iff = (
    λ t.
        let h : max s.low bounds.low ≤ min s.high bounds.high = leb→le _ _ t in
        (max s.low bounds.low, (within_iff s _).1 (omega arith, omega arith), (within_iff bounds _).1 (omega arith, omega arith)),
    λ w.
        let a = (within_iff s w.0).0 w.1 in
        let b = (within_iff bounds w.0).0 w.2 in
        le→leb (max s.low bounds.low) (min s.high bounds.high) (omega (arith, a.0, a.1, b.0, b.1)),
  )

  -- where numbers are shared neither falls: so falling bounds share nothing, and nor does a falling span
  pub shares_only_rising : T (shares s bounds) → (s.low ≤ s.high) × (bounds.low ≤ bounds.high)
  unfolding shares
  shares_only_rising t = let h : max s.low bounds.low ≤ min s.high bounds.high = leb→le _ _ t in (omega arith, omega arith)

  pub span_stays : ¬ T (shares s bounds) → narrow_span s bounds ≡ s
  unfolding narrow_span
  span_stays h = rw (failed (shares s bounds) h)

  pub narrow_span_within : (x : ℕ) → T (shares s bounds) → within (narrow_span s bounds) x ≡ (within s x && within bounds x)
  unfolding narrow_span
  narrow_span_within x t =
      rw (passed (shares s bounds) t)
      (same_test (within (shared s bounds) x) (within s x && within bounds x)
      (λ u.
      let w = (within_iff (shared s bounds) x).0 u in
      both (within s x) (within bounds x) ((within_iff s x).1 (omega (arith, w.0), omega (arith, w.1))) ((within_iff bounds x).1 (omega (arith, w.0), omega (arith, w.1))))
      (λ u.
      let a = (within_iff s x).0 (left (within s x) (within bounds x) u) in
      let b = (within_iff bounds x).0 (right (within s x) (within bounds x) u) in
      (within_iff (shared s bounds) x).1 (omega (arith, a.0, b.0), omega (arith, a.1, b.1))))

pub block_stays : (k : ℕ) (bounds : Span) (b : Block) → ¬ T (narrows k bounds b) → narrow k bounds b ≡ b
unfolding narrows narrow
block_stays k bounds [] h = refl
block_stays zero bounds (s ∷ b) h = rw (span_stays s bounds h)
block_stays (suc k) bounds (s ∷ b) h = rw (block_stays k bounds b h)

-- the other fields stay
pub others_stay : (k j : ℕ) (bounds d : Span) (b : Block) → ¬ (j ≡ k) → get_or (narrow k bounds b) j d ≡ get_or b j d
unfolding narrow
others_stay k j bounds d [] h = refl
others_stay zero zero bounds d (s ∷ b) h = absurd (h refl)
others_stay zero (suc j) bounds d (s ∷ b) h = refl
others_stay (suc k) zero bounds d (s ∷ b) h = refl
others_stay (suc k) (suc j) bounds d (s ∷ b) h = others_stay k j bounds d b (λ e. h (ap suc e))

shift : (a b c : Bool) → (a && b && c) ≡ (a && c && b)
shift true b c = and_comm b c
shift false b c = refl

pub narrow_holds : (k : ℕ) (bounds : Span) (b : Block) (p : Packet) → T (narrows k bounds b)
    → holds (narrow k bounds b) p ≡ (holds b p && bounded k bounds p)
unfolding narrows narrow holds bounded
narrow_holds k bounds [] p t = absurd t
narrow_holds zero bounds (s ∷ b) [] t = refl
narrow_holds zero bounds (s ∷ b) (x ∷ p) t =
    ap (λ (u : Bool). u && holds b p) (narrow_span_within s bounds x t) ∙ shift (within s x) (within bounds x) (holds b p)
narrow_holds (suc k) bounds (s ∷ b) [] t = refl
narrow_holds (suc k) bounds (s ∷ b) (x ∷ p) t =
    ap (λ (u : Bool). within s x && u) (narrow_holds k bounds b p t) ∙ sym (and_assoc (within s x) (holds b p) (bounded k bounds p))

-- one after another: exactly the packets that the block and all the bounds given hold
pub narrow_all_holds : (given : List (ℕ × Span)) (b : Block) (p : Packet) → T (narrows_all given b)
    → holds (narrow_all given b) p ≡ (holds b p && all_of (λ (n : ℕ × Span). bounded n.0 n.1 p) given)
unfolding narrows_all narrow_all all_of
narrow_all_holds [] b p t = sym (and-true (holds b p))
narrow_all_holds (n ∷ given) b p t =
    let next = narrow n.0 n.1 b in
    narrow_all_holds given next p (right (narrows n.0 n.1 b) (narrows_all given next) t)
    ∙ ap (λ (u : Bool). u && all_of (λ (m : ℕ × Span). bounded m.0 m.1 p) given) (narrow_holds n.0 n.1 b p (left (narrows n.0 n.1 b) (narrows_all given next) t))
    ∙ and_assoc (holds b p) (bounded n.0 n.1 p) (all_of (λ (m : ℕ × Span). bounded m.0 m.1 p) given)
