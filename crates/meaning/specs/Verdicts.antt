-- The verdict: document 01's four cases, in order.
use Rattle.std.specs.Prelude.{◌≡◌, ◌⊎◌, List, ℕ, ◌<◌}
use Rattle.meaning.specs.Fields.{Packet, InRange, Before, lowest}
use Rattle.meaning.specs.Labels.{Label, good, rule, label, OfKind}
use Rattle.meaning.specs.Policies.{Policy, lowest_asking}
use Rattle.meaning.specs.Rules.{Action, accept, deny, Table}

-- "Beside it stand two directive numbers": the label (kind and rule), the two numbers, and the packet.
pub record Verdict : Type 0 where
  pub label : Label
  pub accept_directive : ℕ
  pub deny_directive : ℕ
  pub packet : Packet

-- p is the least packet of which P holds
pub record Least (ns : List ℕ) (P : Packet → Type 0) (p : Packet) : Type 0 where
  pub in_range : InRange ns p
  pub is_such : P p
  pub none_before : (q : Packet) → InRange ns q → Before q p → ¬ P q

-- P holds of no packet
abbrev pub None : List ℕ → (Packet → Type 0) → Type 0
None ns P = (q : Packet) → InRange ns q → ¬ P q

-- "Conforms, all other numbers 0."
abbrev pub conforms : List ℕ → Verdict
conforms ns = record { label = good; accept_directive = 0; deny_directive = 0; packet = lowest ns }

-- By the labels f: q is of kind 2 or 3, and its rule is n.
abbrev pub Blames : (Packet → Label) → ℕ → Packet → Type 0
Blames f n q = (OfKind f 2 q ⊎ OfKind f 3 q) × (rule (f q) ≡ n)

-- q is of kind 4 or 5
abbrev pub Unmet : (Packet → Label) → Packet → Type 0
Unmet f q = OfKind f 4 q ⊎ OfKind f 5 q

-- the answer at p: its label, and the lowest directives asking there
abbrev pub verdict_at : (Packet → Label) → (Action → Packet → ℕ) → Packet → Verdict
verdict_at f asking p = record { label = f p; accept_directive = asking accept p; deny_directive = asking deny p; packet = p }

-- The verdict by the labels f, where `asking a q` is the lowest directive asking a at q.
pub data IsVerdict (ns : List ℕ) (f : Packet → Label) (asking : Action → Packet → ℕ) : Verdict → Type 0 where
  -- 1. a packet of kind 1 exists: the least
  case_conflict : {p : Packet} → Least ns (OfKind f 1) p → IsVerdict ns f asking (verdict_at f asking p)
  -- 2. else a rule has packets of kind 2 or 3: the lowest such rule, its least such packet
  case_rule : {p : Packet} (n : ℕ) → None ns (OfKind f 1) → ((m : ℕ) → m < n → None ns (Blames f m)) → Least ns (Blames f n) p
      → IsVerdict ns f asking (verdict_at f asking p)
  -- 3. else kind 4 or 5 exists: the least such packet
  case_unmet : {p : Packet} → None ns (OfKind f 1) → ((n : ℕ) → None ns (Blames f n)) → Least ns (Unmet f) p
      → IsVerdict ns f asking (verdict_at f asking p)
  -- 4. else conforms
  case_conforms : None ns (OfKind f 1) → ((n : ℕ) → None ns (Blames f n)) → None ns (Unmet f) → IsVerdict ns f asking (conforms ns)

-- The verdict on a table and a policy.
abbrev pub VerdictOn : List ℕ → Table → Policy → Verdict → Type 0
VerdictOn ns rules policy v = IsVerdict ns (label rules policy) (lowest_asking policy) v
