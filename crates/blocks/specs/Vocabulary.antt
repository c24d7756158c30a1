-- What the types of this crate stand for among `meaning`'s lists.
use Rattle.std.specs.Prelude.{[], ◌∷◌, ◌≡◌, ℕ, get_or}
use Rattle.meaning.specs.Blocks as blocks
use Rattle.meaning.specs.Fields as fields
use Rattle.blocks.specs.declared.Block.{Block}
use Rattle.blocks.specs.declared.Narrowed.{Narrowed}
use Rattle.blocks.specs.declared.Packet.{Packet}
use Rattle.blocks.specs.declared.Span.{Span}

-- a span's two bounds
abbrev pub span_of : Span → blocks.Span
span_of s = record { low = s.low; high = s.high }

-- a span for each field, in the order of the fields
abbrev pub block_of : Block → blocks.Block
block_of b = span_of b.source ∷ span_of b.destination ∷ span_of b.protocol ∷ span_of b.port ∷ []

-- a number for each field, in the order of the fields
abbrev pub packet_of : Packet → fields.Packet
packet_of p = p.source ∷ p.destination ∷ p.protocol ∷ p.port ∷ []

-- the block of which these are the spans, in the order of the fields
abbrev pub span_from : blocks.Span → Span
span_from s = record { low = s.low; high = s.high }

abbrev pub block_from : blocks.Block → Block
block_from b =
    record {
      source = span_from (get_or b 0 (blocks.whole 1));
      destination = span_from (get_or b 1 (blocks.whole 1));
      protocol = span_from (get_or b 2 (blocks.whole 1));
      port = span_from (get_or b 3 (blocks.whole 1));
    }

-- r is what narrowing b in field k, counted from 0, hands back: the block, and whether numbers were shared
pub record NarrowedIn (k : ℕ) (bounds : Span) (b : Block) (r : Narrowed) : Type 0 where
  pub block : block_of r.block ≡ blocks.narrow k (span_of bounds) (block_of b)
  pub told : r.shared ≡ blocks.narrows k (span_of bounds) (block_of b)
