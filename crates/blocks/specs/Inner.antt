-- Words of private contracts; no public contract uses them.
use Rattle.std.specs.Prelude.{Bool, true, false, ◌&&◌, ◌≡◌, [], ◌∷◌, leb, Option, None, Some}
use Rattle.meaning.specs.Blocks as blocks
use Rattle.meaning.specs.Blocks.{Block, shares}
use Rattle.blocks.specs.Vocabulary.{span_of}
use Rattle.blocks.specs.declared.Block as values
use Rattle.blocks.specs.declared.Narrowed.{Narrowed}
use Rattle.blocks.specs.declared.Span.{Span}

-- no low is above its high
unfoldable pub rising : Block → Bool
rising [] = true
rising (s ∷ b) = leb s.low s.high && rising b

-- r is the numbers that the spans share, if there are any
abbrev pub SharedIn : blocks.Span → blocks.Span → Option Span → Type 0
SharedIn s bounds None = shares s bounds ≡ false
SharedIn s bounds (Some r) = (shares s bounds ≡ true) × (span_of r ≡ blocks.shared s bounds)

-- the block that narrowing made, or b as it was, and which of the two it is
abbrev pub narrowed_or : values.Block → Option values.Block → Narrowed
narrowed_or b None = record { block = b; shared = false }
narrowed_or b (Some c) = record { block = c; shared = true }
