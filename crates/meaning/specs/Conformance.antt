-- Consistent, sound and complete: section 2 of document 000, whose domain of packets is IsPacket.
use Rattle.std.specs.Prelude.{◌≡◌, List, ℕ, ◌<◌}
use Rattle.std.proofs.Math.Option.{some}
use Rattle.meaning.specs.Blocks.{Holds}
use Rattle.meaning.specs.Fields.{Packet, IsPacket}
use Rattle.meaning.specs.Policies.{Policy, Asked}
use Rattle.meaning.specs.Records.{numbered}
use Rattle.meaning.specs.Rules.{Action, accept, deny, Rule, Table}

-- "SP is called consistent if SP_accept ∩ SP_deny = ∅."
abbrev pub Consistent : List ℕ → Policy → Type 0
Consistent ns policy = (p : Packet) → IsPacket ns p → Asked policy accept p → ¬ Asked policy deny p

-- Rule i is r, p is in dom(r), and for all j < i, p is not in dom(r_j). All earlier rules count.
pub record Matches (rules : Table) (p : Packet) (i : ℕ) (r : Rule) : Type 0 where
  pub is_rule : numbered rules i ≡ some r
  pub holds_it : Holds r.block p
  pub none_earlier : (j : ℕ) (s : Rule) → j < i → numbered rules j ≡ some s → ¬ Holds s.block p

-- Definition 1: for all p, if there is a rule r_i ⇒ A_i that so matches p, then p is in SP_(A_i).
abbrev pub Sound : List ℕ → Table → Policy → Type 0
Sound ns rules policy = (p : Packet) → IsPacket ns p → (i : ℕ) (r : Rule) → Matches rules p i r → Asked policy r.action p

-- Definition 2: for all p and A, if p is in SP_A then there is a rule r_i ⇒ A that so matches p.
abbrev pub Complete : List ℕ → Table → Policy → Type 0
Complete ns rules policy =
    (p : Packet) → IsPacket ns p → (a : Action) → Asked policy a p
    → (i : ℕ) × (r : Rule) × (r.action ≡ a) × Matches rules p i r
