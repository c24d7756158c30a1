-- Words of private contracts; no public contract uses them.
use Rattle.std.specs.Prelude.{Bool, false, ◌&&◌, cond, List, ◌≡◌, ℕ, ◌+◌, ◌<◌, leb, get_or, Option, Some, None}
use Rattle.meaning.specs.Blocks as blocks
use Rattle.meaning.specs.Fields as fields
use Rattle.meaning.specs.Form.{Exception, naming, most_directives}
use Rattle.meaning.specs.Labels as labels
use Rattle.meaning.specs.Records.{Found, some_of}
use Rattle.meaning.specs.Rules as rules
use Rattle.blocks.specs.declared.Packet.{Packet}
use Rattle.blocks.specs.Vocabulary.{packet_of}
use Rattle.sets.specs.declared.Policy.{Policy}
use Rattle.sets.specs.Inner.{exceptions_of}

-- the label where a is asked and the other action is not
abbrev pub one_asked : rules.Action → Found rules.Rule → labels.Label
one_asked a d = labels.judged (rules.same_action rules.accept a) (rules.same_action rules.deny a) d

-- what a directive of the action `own` asks of a packet, by whether an exception of it holds the packet, and whether its block does
abbrev pub asked_by : rules.Action → rules.Action → Bool → Bool → Bool
asked_by a own excepted held = cond excepted (rules.same_action a (rules.opposite own)) (rules.same_action a own && held)

-- the directive that an exception names, if its block holds p, or 0; a number past the limit is no directive's
abbrev pub excepted_directive : fields.Packet → Exception → ℕ
excepted_directive p e = cond (blocks.holds e.block p && leb e.directive most_directives) e.directive 0

-- the number of the directive at a place, or 0
abbrev pub number_excepted : Option ℕ → ℕ
number_excepted None = 0
number_excepted (Some place) = place + 1

-- at each directive's place: whether an exception that names it holds the packet
pub record Excepted (policy : Policy) (packet : Packet) (marks : List Bool) : Type 0 where
  pub at : (place : ℕ) → place < most_directives
      → get_or marks place false ≡ some_of (λ (b : blocks.Block). blocks.holds b (packet_of packet)) (naming (place + 1) (exceptions_of policy))
