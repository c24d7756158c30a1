-- The label of a packet, by document 01's table of kinds.
use Rattle.std.specs.Prelude.{◌≡◌, Bool, true, false, cond, ℕ}
use Rattle.meaning.specs.Fields.{Packet}
use Rattle.meaning.specs.Policies.{Policy, asked}
use Rattle.meaning.specs.Records.{Found, nothing, found}
use Rattle.meaning.specs.Rules.{accept, deny, same_action, Rule, Table, deciding}

-- "A kind and a rule number": six kinds, of which wrong and unasked carry the number of the deciding rule.
pub data Label : Type 0 where
  good conflict unmet_accept unmet_deny : Label
  wrong unasked : ℕ → Label

-- the column "Kind"
unfoldable pub kind : Label → ℕ
kind good = 0
kind conflict = 1
kind (wrong n) = 2
kind (unasked n) = 3
kind unmet_accept = 4
kind unmet_deny = 5

-- the column "Rule"
unfoldable pub rule : Label → ℕ
rule good = 0
rule conflict = 0
rule (wrong n) = n
rule (unasked n) = n
rule unmet_accept = 0
rule unmet_deny = 0

-- Is accept asked, is deny asked, and the deciding rule: by the rows of the table.
unfoldable pub judged : Bool → Bool → Found Rule → Label
judged true true d = conflict
judged true false (found n r) = cond (same_action accept r.action) good (wrong n)
judged true false nothing = unmet_accept
judged false true (found n r) = cond (same_action deny r.action) good (wrong n)
judged false true nothing = unmet_deny
judged false false (found n r) = unasked n
judged false false nothing = good

-- the label of p
unfoldable pub label : Table → Policy → Packet → Label
label rules policy p = judged (asked policy accept p) (asked policy deny p) (deciding rules p)

-- by the labels f, p is of kind k
abbrev pub OfKind : (Packet → Label) → ℕ → Packet → Type 0
OfKind f k p = kind (f p) ≡ k
