-- For each public call: its contract leaves one answer. Assumes nothing.
use mathlib.Core.List.{List}
use mathlib.Core.Path.{◌≡◌, refl, sym, ap, ◌∙◌}
use Prim.Native.Nat.{ℕ}
use lib.ListN.{get_or}
use Rattle.contracts.specs.Answers.{OneAnswer}
use Rattle.contracts.proofs.Answering.{one_answer, one_standing}
use Rattle.meaning.specs.Blocks as blocks
use Rattle.meaning.specs.Buffers.{bounds, spans_of}
use Rattle.meaning.specs.Fields as fields
use Rattle.meaning.proofs.BufferWritten.{spans_of_bounds}
use Rattle.blocks.specs.Vocabulary.{block_of, block_from, packet_of, NarrowedIn}
use Rattle.blocks.specs.declared.Block.{Block}
use Rattle.blocks.specs.declared.Narrowed.{Narrowed}
use Rattle.blocks.specs.declared.Packet.{Packet}
use Rattle.blocks.specs.declared.Span.{Span}
use Rattle.blocks.proofs.ArrayU32BOUNDSFromBlock.from.Reads as block_bounds_call
use Rattle.blocks.proofs.Block.holds.Reads as block_holds_call
use Rattle.blocks.proofs.Block.in_form.Reads as block_in_form_call
use Rattle.blocks.proofs.Block.inside.Reads as block_inside_call
use Rattle.blocks.proofs.Block.narrow_destination.Reads as block_narrow_destination_call
use Rattle.blocks.proofs.Block.narrow_port.Reads as block_narrow_port_call
use Rattle.blocks.proofs.Block.narrow_protocol.Reads as block_narrow_protocol_call
use Rattle.blocks.proofs.Block.narrow_source.Reads as block_narrow_source_call
use Rattle.blocks.proofs.Block.widest.Reads as block_widest_call
use Rattle.blocks.proofs.BlockFromArrayU32BOUNDS.from.Reads as block_of_bounds_call
use Rattle.blocks.proofs.Packet.in_form.Reads as packet_in_form_call
use Rattle.blocks.proofs.Packet.lowest.Reads as packet_lowest_call
use Rattle.blocks.proofs.PacketFromArrayU32FIELDS.from.Reads as packet_of_numbers_call

abbrev packet_from : fields.Packet → Packet
packet_from p = record { source = get_or p 0 0; destination = get_or p 1 0; protocol = get_or p 2 0; port = get_or p 3 0 }

pub one_block : (x : blocks.Block) (r s : Block) → block_of r ≡ x → block_of s ≡ x → r ≡ s
one_block = one_standing block_of block_from (λ b. refl)

pub one_bounded : (x : List ℕ) (r s : Block) → bounds (block_of r) ≡ x → bounds (block_of s) ≡ x → r ≡ s
one_bounded = one_standing (λ b. bounds (block_of b)) (λ x. block_from (spans_of x)) (λ b. ap block_from (spans_of_bounds (block_of b)))

pub one_packet : (x : fields.Packet) (r s : Packet) → packet_of r ≡ x → packet_of s ≡ x → r ≡ s
one_packet = one_standing packet_of packet_from (λ p. refl)

pub one_narrowed : (k : ℕ) (bounds : Span) (b : Block) (r s : Narrowed) → NarrowedIn k bounds b r → NarrowedIn k bounds b s → r ≡ s
one_narrowed k bounds b r s n m = λ i. record { block = one_block _ r.block s.block n.block m.block i; shared = (n.told ∙ sym m.told) i }

pub block_widest_once : OneAnswer (block_widest_call.Post)
block_widest_once κs a r s after after' e f = one_block _ r s e f

pub packet_lowest_once : OneAnswer (packet_lowest_call.Post)
packet_lowest_once κs a r s after after' e f = one_packet _ r s e f

pub block_bounds_once : OneAnswer (block_bounds_call.Post)
block_bounds_once κs a r s after after' e f = one_answer _ r s e f

pub block_of_bounds_once : OneAnswer (block_of_bounds_call.Post)
block_of_bounds_once κs a r s after after' e f = one_bounded _ r s e f

pub packet_of_numbers_once : OneAnswer (packet_of_numbers_call.Post)
packet_of_numbers_once κs a r s after after' e f = one_packet _ r s e f

pub block_holds_once : OneAnswer (block_holds_call.Post)
block_holds_once κs a r s after after' e f = one_answer _ r s e f

pub block_inside_once : OneAnswer (block_inside_call.Post)
block_inside_once κs a r s after after' e f = one_answer _ r s e f

pub block_in_form_once : OneAnswer (block_in_form_call.Post)
block_in_form_once κs a r s after after' e f = one_answer _ r s e f

pub packet_in_form_once : OneAnswer (packet_in_form_call.Post)
packet_in_form_once κs a r s after after' e f = one_answer _ r s e f

pub block_narrow_source_once : OneAnswer (block_narrow_source_call.Post)
block_narrow_source_once κs a r s after after' e f = one_narrowed _ _ _ r s e f

pub block_narrow_destination_once : OneAnswer (block_narrow_destination_call.Post)
block_narrow_destination_once κs a r s after after' e f = one_narrowed _ _ _ r s e f

pub block_narrow_protocol_once : OneAnswer (block_narrow_protocol_call.Post)
block_narrow_protocol_once κs a r s after after' e f = one_narrowed _ _ _ r s e f

pub block_narrow_port_once : OneAnswer (block_narrow_port_call.Post)
block_narrow_port_once κs a r s after after' e f = one_narrowed _ _ _ r s e f
