-- Form is told by the widest block: a packet is in form if the widest block holds it, a block if it rises and lies inside.
-- Each is said once, over the fields' widths. Assumes nothing.
use mathlib.Core.Bool.{Bool, true, false, ◌&&◌, and-false}
use mathlib.Core.List.{List, [], ◌∷◌, map}
use mathlib.Core.Path.{◌≡◌, refl, ap, sym, ◌∙◌}
use native.Mathlib.Omega.{arith}
use Prim.Native.Nat.{ℕ, ◌-◌, ◌<◌, ◌≤◌, ◌^◌}
use borrow.Author.Tests.{le-leb}
use lib.Dec.{leb, ltb, leb→le, le→leb, ltb→lt, lt→ltb}
use lib.Pow.{pow_pos}
use Rattle.meaning.specs.Blocks.{Block, holds, inside, widest}
use Rattle.meaning.specs.Fields.{size_of, Packet}
use Rattle.meaning.specs.Form.{block_in_form, packet_in_form}
use Rattle.meaning.specs.Records.{Every, every_none, every_more}
use Rattle.meaning.proofs.BlockHolding.{widest_holds_range, widest_holds_only_range}
use Rattle.meaning.proofs.FormLaws.{packet_in_form_iff}
use Rattle.meaning.proofs.Tests.{same_test}
use Rattle.blocks.specs.Inner.{rising}

-- x is not past the largest number of a field w wide: said as of the whole field's bounds, of which the low one is below every y
below_size : (w y x : ℕ) → ltb x (size_of w) ≡ (leb 0 y && leb x (size_of w - 1))
below_size w y x =
    let some_number : 0 < 2 ^ w = pow_pos w in
    same_test (ltb x (size_of w)) (leb x (size_of w - 1))
    (λ t. let h : x < 2 ^ w = ltb→lt x (size_of w) t in le→leb x (size_of w - 1) (omega (arith, h, some_number)))
    (λ t. let h : x ≤ 2 ^ w - 1 = leb→le x (size_of w - 1) t in lt→ltb x (size_of w) (omega (arith, h, some_number)))
    ∙ ap (λ (t : Bool). t && leb x (size_of w - 1)) (sym (le-leb 0 y (omega arith)))

pub positive : (ws : List ℕ) → Every (λ n. 0 < n) (map size_of ws)
positive [] = every_none
positive (w ∷ ws) = every_more (pow_pos w) (positive ws)

pub packet_form_by_widest : (ws : List ℕ) (p : Packet) → packet_in_form (map size_of ws) p ≡ holds (widest (map size_of ws)) p
packet_form_by_widest ws p =
    let ns = map size_of ws in
    same_test (packet_in_form ns p) (holds (widest ns) p)
    (λ t. widest_holds_range ns p ((packet_in_form_iff ns p).0 t))
    (λ h. (packet_in_form_iff ns p).1 (widest_holds_only_range (positive ws) p h))

regrouped : (a b c d : Bool) → (a && b && (c && d)) ≡ (a && c && (b && d))
regrouped true true c d = refl
regrouped true false true d = refl
regrouped true false false d = refl
regrouped false b c d = refl

pub block_form_by_widest : (ws : List ℕ) (b : Block) → block_in_form (map size_of ws) b ≡ (rising b && inside b (widest (map size_of ws)))
unfolding block_in_form rising inside
block_form_by_widest [] [] = refl
block_form_by_widest [] (s ∷ b) = sym (and-false (rising (s ∷ b)))
block_form_by_widest (w ∷ ws) [] = refl
block_form_by_widest (w ∷ ws) (s ∷ b) =
    (λ i. leb s.low s.high && below_size w s.low s.high i && block_form_by_widest ws b i)
    ∙ regrouped (leb s.low s.high) (leb 0 s.low && leb s.high (size_of w - 1)) (rising b) (inside b (widest (map size_of ws)))
