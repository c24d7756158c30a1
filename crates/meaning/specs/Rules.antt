-- Rules, and the rule that decides a packet.
use Rattle.std.specs.Prelude.{Bool, true, false, List}
use Rattle.meaning.specs.Blocks.{Block, holds}
use Rattle.meaning.specs.Fields.{Packet}
use Rattle.meaning.specs.Records.{Found, first}

pub data Action : Type 0 where
  accept deny : Action

unfoldable pub opposite : Action → Action
opposite accept = deny
opposite deny = accept

unfoldable pub same_action : Action → Action → Bool
same_action accept accept = true
same_action accept deny = false
same_action deny accept = false
same_action deny deny = true

-- "A rule is an action and a block."
pub record Rule : Type 0 where
  pub action : Action
  pub block : Block

-- a table: its rules in order, numbered from 1
abbrev pub Table : Type 0
Table = List Rule

-- "The deciding rule is the lowest-numbered rule whose block holds it."
unfoldable pub deciding : Table → Packet → Found Rule
deciding rules p = first (λ (r : Rule). holds r.block p) rules
