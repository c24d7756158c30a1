-- What the names of constants and methods say, from their contracts: the widest block holds every packet and nothing else, no
-- packet is before the lowest, narrowing keeps the packets that the bounds hold, or the block. Assumes nothing.
use mathlib.Core.Bool.{true, false, ◌&&◌, true≢false}
use mathlib.Core.Logic.{◌↔◌}
use mathlib.Core.Path.{◌≡◌, refl, sym, ap, subst, subst⁻¹, ◌∙◌}
use Prim.Native.Nat.{ℕ}
use lib.Dec.{T}
use lib.ListN.{get_or}
use Rattle.meaning.specs.Blocks as blocks
use Rattle.meaning.specs.Blocks.{holds, Holds, widest, narrows, bounded}
use Rattle.meaning.specs.Fields as meaning
use Rattle.meaning.specs.Fields.{widths, fields, IsPacket, Before, lowest}
use Rattle.meaning.specs.Form.{block_in_form}
use Rattle.meaning.proofs.BlockHolding.{widest_holds_range, widest_holds_only_range}
use Rattle.meaning.proofs.BlockNarrowing.{block_stays, others_stay, narrow_holds}
use Rattle.meaning.proofs.FormLaws.{narrow_in_form}
use Rattle.meaning.proofs.PacketOrder.{lowest_is_least, lowest_in_range}
use Rattle.meaning.proofs.Tests.{passed, passes}
use Rattle.blocks.specs.Vocabulary.{span_of, block_of, packet_of, NarrowedIn}
use Rattle.blocks.specs.declared.Block.{Block}
use Rattle.blocks.specs.declared.Narrowed.{Narrowed}
use Rattle.blocks.specs.declared.Packet.{Packet}
use Rattle.blocks.specs.declared.Span.{Span}
use Rattle.blocks.proofs.OneAnswer.{one_block}
use Rattle.blocks.proofs.Widest.{positive}

-- `WIDEST`, and every block of which its contract holds
pub widest_holds_iff : (b : Block) → block_of b ≡ widest fields → (p : meaning.Packet) → Holds (block_of b) p ↔ IsPacket fields p
widest_holds_iff b e p =
    (λ t. widest_holds_only_range (positive widths) p (subst (λ (c : blocks.Block). Holds c p) e t), λ i. subst⁻¹ (λ (c : blocks.Block). Holds c p) e (widest_holds_range fields p i))

-- `LOWEST`
pub lowest_is_first : (p : Packet) → packet_of p ≡ lowest fields → IsPacket fields (packet_of p) × ((q : meaning.Packet) → Before q (packet_of p) → ⊥)
lowest_is_first p e =
    (subst (λ (q : meaning.Packet). IsPacket fields q) (sym e) (lowest_in_range (positive widths)), λ q before. lowest_is_least fields q (subst (λ (r : meaning.Packet). Before q r) e before))

-- narrowing in any field
module _ (k : ℕ) (bounds : Span) (b : Block) (r : Narrowed) (narrowed : NarrowedIn k bounds b r) where
  pub narrowed_holds : r.shared ≡ true → (p : meaning.Packet) → holds (block_of r.block) p ≡ (holds (block_of b) p && bounded k (span_of bounds) p)
  narrowed_holds e p =
      ap (λ (c : blocks.Block). holds c p) narrowed.block
      ∙ narrow_holds k (span_of bounds) (block_of b) p (passes (narrows k (span_of bounds) (block_of b)) (sym narrowed.told ∙ e))

  pub narrowed_stays : r.shared ≡ false → r.block ≡ b
  narrowed_stays e =
      one_block (block_of b) r.block b
      (narrowed.block ∙ block_stays k (span_of bounds) (block_of b) (λ t. true≢false (sym (passed (narrows k (span_of bounds) (block_of b)) t) ∙ sym narrowed.told ∙ e)))
      refl

  pub narrowed_others : (j : ℕ) (d : blocks.Span) → ¬ (j ≡ k) → get_or (block_of r.block) j d ≡ get_or (block_of b) j d
  narrowed_others j d other = ap (λ (c : blocks.Block). get_or c j d) narrowed.block ∙ others_stay k j (span_of bounds) d (block_of b) other

  pub narrowed_in_form : T (block_in_form fields (block_of b)) → T (block_in_form fields (block_of r.block))
  narrowed_in_form t = subst (λ (c : blocks.Block). T (block_in_form fields c)) (sym narrowed.block) (narrow_in_form fields k (span_of bounds) (block_of b) t)
