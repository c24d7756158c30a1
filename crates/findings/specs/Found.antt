-- The verdict and the listing of the table and the policy that two sets stand for, over all packets.
use Rattle.std.specs.Prelude.{Option, Some, None, List, ◌≡◌, ℕ, ◌≤◌, length}
use Rattle.std.specs.Option.{unwrap_or}
use Rattle.meaning.specs.Buffers as buffers
use Rattle.meaning.specs.Fields.{fields}
use Rattle.meaning.specs.Form as form
use Rattle.meaning.specs.Labels as labels
use Rattle.meaning.specs.Listings as listings
use Rattle.meaning.specs.Sizes.{most_listed}
use Rattle.meaning.specs.Verdicts as verdicts
use Rattle.blocks.specs.Vocabulary.{packet_of}
use Rattle.sets.specs.declared.Policy.{Policy}
use Rattle.sets.specs.declared.Rules.{Rules}
use Rattle.sets.specs.Vocabulary.{rule_set_of, policy_set_of, label_of}
use Rattle.findings.specs.declared.Finding.{Finding}

-- nothing is refused: both sets are in form
abbrev pub InForm : Rules → Policy → Type 0
InForm rules policy = (form.refuse_sets fields (rule_set_of rules) (policy_set_of policy)).number ≡ 0

-- the label of each packet
abbrev pub label_at : Rules → Policy → List ℕ → labels.Label
label_at rules policy = labels.label (form.table_of (rule_set_of rules)) (form.policy_of (policy_set_of policy))

-- the verdict that is told: by nothing that the table conforms; where no directive is told its number is 0
abbrev pub verdict_of : Option Finding → verdicts.Verdict
verdict_of None = verdicts.conforms fields
verdict_of (Some r) =
    record {
      label = label_of r.label;
      accept_directive = unwrap_or r.accept_directive 0;
      deny_directive = unwrap_or r.deny_directive 0;
      packet = packet_of r.packet;
    }

-- what is found is at fault, and no directive has the number 0: so there is one way to tell a verdict
pub record AtFault (r : Finding) : Type 0 where
  pub label : ¬ (label_of r.label ≡ labels.good)
  pub accept_directive : ¬ (r.accept_directive ≡ Some 0)
  pub deny_directive : ¬ (r.deny_directive ≡ Some 0)

-- v is the verdict on the table and the policy
abbrev pub VerdictFor : Rules → Policy → verdicts.Verdict → Type 0
VerdictFor rules policy v = verdicts.VerdictOn fields (form.table_of (rule_set_of rules)) (form.policy_of (policy_set_of policy)) v

-- the blocks are the listing of the table and the policy
abbrev pub ListingFor : Rules → Policy → List (listings.Listed labels.Label) → Type 0
ListingFor rules policy blocks = listings.FaultListing fields (form.table_of (rule_set_of rules)) (form.policy_of (policy_set_of policy)) blocks

-- the total and the buffer tell the listing: all of its blocks are counted, and the first that fit are written
pub record ListingTold (rules : Rules) (policy : Policy) (before after : List ℕ) (total : ℕ) : Type 0 where
  pub blocks : List (listings.Listed labels.Label)
  pub listed : ListingFor rules policy blocks
  pub counted : total ≡ length blocks
  pub written : after ≡ buffers.written fields blocks before
  -- "The total is at most 10,617,447,681."
  pub few : total ≤ most_listed
