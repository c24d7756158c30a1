-- Words of private contracts; no public contract uses them.
use Rattle.std.specs.Prelude.{List, ◌≡◌, ℕ, ◌+◌, ◌*◌, ◌^◌, ◌<◌, get_or}
use Rattle.meaning.specs.Fields.{Packet}
use Rattle.meaning.specs.Form as form
use Rattle.meaning.specs.Policies.{lowest_asking}
use Rattle.meaning.specs.Rules.{accept, deny}
use Rattle.meaning.specs.Sizes.{field_count, field_places}
use Rattle.blocks.specs.declared.Packet as blocks
use Rattle.blocks.specs.Vocabulary.{packet_of}
use Rattle.sets.specs.declared.Policy.{Policy}
use Rattle.sets.specs.declared.Rules.{Rules}
use Rattle.sets.specs.Vocabulary.{policy_set_of, label_of}
use Rattle.labels.specs.Answers.{number_told}
use Rattle.charts.proofs.Corners.{corner_in}
use Rattle.findings.specs.Found.{label_at}
use Rattle.findings.specs.declared.Finding.{Finding}

-- r is the verdict's answer at a packet
pub record IsVerdictAt (rules : Rules) (policy : Policy) (packet : blocks.Packet) (r : Finding) : Type 0 where
  pub label : label_of r.label ≡ label_at rules policy (packet_of packet)
  pub accept_directive : r.accept_directive ≡ number_told (lowest_asking (form.policy_of (policy_set_of policy)) accept (packet_of packet))
  pub deny_directive : r.deny_directive ≡ number_told (lowest_asking (form.policy_of (policy_set_of policy)) deny (packet_of packet))
  pub at : r.packet ≡ packet

-- the places of the strips of a cell
abbrev pub corner_at : List ℕ → List ℕ → Packet
corner_at places strips = corner_in places 0 strips

-- each field's strip has a place, of 32 bits
pub record CornerPlaced (places strips : List ℕ) : Type 0 where
  pub strip : (field : ℕ) → field < field_count → get_or strips field 0 < field_places
  pub place : (field : ℕ) → field < field_count → get_or places (field_places * field + get_or strips field 0) 0 < 2 ^ 32
