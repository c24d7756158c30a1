-- Policies, and what they ask of a packet.
use Rattle.std.specs.Prelude.{Bool, ◌&&◌, cond, List, ℕ, T}
use Rattle.meaning.specs.Blocks.{Block, holds}
use Rattle.meaning.specs.Fields.{Packet}
use Rattle.meaning.specs.Records.{some_of, first, number_of}
use Rattle.meaning.specs.Rules.{Action, opposite, same_action}

-- "An action, a block, and exceptions."
pub record Directive : Type 0 where
  pub action : Action
  pub block : Block
  pub exceptions : List Block

-- a policy: its directives, numbered from 1 (a record, since document 02 adds to it)
pub record Policy : Type 0 where
  pub directives : List Directive

-- p lies in an exception of d
unfoldable pub excepted : Directive → Packet → Bool
excepted d p = some_of (λ (b : Block). holds b p) d.exceptions

-- "A directive asks for its action on its block without its exceptions, and for the opposite action on its exceptions."
unfoldable pub asks : Directive → Action → Packet → Bool
asks d a p = cond (excepted d p) (same_action a (opposite d.action)) (same_action a d.action && holds d.block p)

-- The policy asks for a if a directive of it does: document 000's "p is in SP_a".
unfoldable pub asked : Policy → Action → Packet → Bool
asked policy a p = some_of (λ (d : Directive). asks d a p) policy.directives

-- the same, as a statement
abbrev pub Asked : Policy → Action → Packet → Type 0
Asked policy a p = T (asked policy a p)

-- "The lowest directive asking accept at that packet, or 0, and the lowest asking deny, or 0."
unfoldable pub lowest_asking : Policy → Action → Packet → ℕ
lowest_asking policy a p = number_of (first (λ (d : Directive). asks d a p) policy.directives)
