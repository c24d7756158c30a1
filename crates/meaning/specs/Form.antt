-- Refusals, and number 14: which sets and packets of a caller's are in form.
use Rattle.std.specs.Prelude.{Bool, true, false, ◌&&◌, cond, List, [], ◌∷◌, ℕ, suc, leb, ltb, eqb, take}
use Rattle.std.proofs.Math.Option.{Option, none, some}
use Rattle.meaning.specs.Blocks.{Block, inside}
use Rattle.meaning.specs.Fields.{Packet}
use Rattle.meaning.specs.Policies.{Directive, Policy}
use Rattle.meaning.specs.Records.{numbered, all_of}
use Rattle.meaning.specs.Rules.{Rule, Table}

pub record Refusal : Type 0 where
  pub number : ℕ
  pub line : ℕ
  pub field : ℕ

-- "A call not refused gives number, line and field 0."
abbrev pub unrefused : Refusal
unrefused = record { number = 0; line = 0; field = 0 }

-- 14, with 1 for rules, 2 for a policy, 3 for a packet
abbrev pub out_of_form : ℕ → Refusal
out_of_form what = record { number = 14; line = what; field = 0 }

-- the first of two refusals
unfoldable pub or_else : Refusal → Refusal → Refusal
or_else r s = cond (eqb r.number 0) s r

-- the limits: "at most 64", "at most 32 directives", "at most 64 in the whole policy"
abbrev pub most_rules : ℕ
most_rules = 64

abbrev pub most_directives : ℕ
most_directives = 32

abbrev pub most_exceptions : ℕ
most_exceptions = 64

-- A rule set as a caller makes it: a count, and records of which those past the count are not looked at. (A set of ours has
-- a record for each place up to the limit, so that a count within the limit never goes past the records.)
pub record RuleSet : Type 0 where
  pub count : ℕ
  pub records : List Rule

-- an exception names its directive by number, from 1
pub record Exception : Type 0 where
  pub directive : ℕ
  pub block : Block

-- a policy as a caller makes it; a directive's record is an action and a block, as a rule's
pub record PolicySet : Type 0 where
  pub directive_count : ℕ
  pub directives : List Rule
  pub exception_count : ℕ
  pub exceptions : List Exception

-- the table that a rule set stands for
abbrev pub table_of : RuleSet → Table
table_of s = take s.count s.records

-- the blocks of the exceptions that name directive n
unfoldable pub naming : ℕ → List Exception → List Block
naming n [] = []
naming n (e ∷ es) = cond (eqb e.directive n) (e.block ∷ naming n es) (naming n es)

-- the directives, of which the first has the number n, each with the exceptions that name it
unfoldable pub directives_from : ℕ → List Rule → List Exception → List Directive
directives_from n [] es = []
directives_from n (d ∷ ds) es = record { action = d.action; block = d.block; exceptions = naming n es } ∷ directives_from (suc n) ds es

-- the policy that a policy set stands for
unfoldable pub policy_of : PolicySet → Policy
policy_of s = record { directives = directives_from 1 (take s.directive_count s.directives) (take s.exception_count s.exceptions) }

-- not "a low above its high, a number past its field's largest"
unfoldable pub block_in_form : List ℕ → Block → Bool
block_in_form [] [] = true
block_in_form [] (s ∷ b) = false
block_in_form (n ∷ ns) [] = false
block_in_form (n ∷ ns) (s ∷ b) = leb s.low s.high && ltb s.high n && block_in_form ns b

-- nor "a count above its limit"
unfoldable pub rules_in_form : List ℕ → RuleSet → Bool
rules_in_form ns s = leb s.count most_rules && all_of (λ (r : Rule). block_in_form ns r.block) (table_of s)

-- not "an exception outside its directive, naming none"
unfoldable pub inside_of : Option Rule → Block → Bool
inside_of none b = false
inside_of (some d) b = inside b d.block

-- nor "naming a lower directive than the exception before it", which named `before`
unfoldable pub exceptions_in_form : List ℕ → List Rule → ℕ → List Exception → Bool
exceptions_in_form ns ds before [] = true
exceptions_in_form ns ds before (e ∷ es) =
    leb before e.directive && inside_of (numbered ds e.directive) e.block && block_in_form ns e.block && exceptions_in_form ns ds e.directive es

-- all of this for a policy
unfoldable pub policy_in_form : List ℕ → PolicySet → Bool
policy_in_form ns s =
    leb s.directive_count most_directives
    && leb s.exception_count most_exceptions
    && all_of (λ (d : Rule). block_in_form ns d.block) (take s.directive_count s.directives)
    && exceptions_in_form ns (take s.directive_count s.directives) 0 (take s.exception_count s.exceptions)

-- "A packet to be labelled is out of form if a number is past its field's largest."
unfoldable pub packet_in_form : List ℕ → Packet → Bool
packet_in_form [] [] = true
packet_in_form [] (x ∷ p) = false
packet_in_form (n ∷ ns) [] = false
packet_in_form (n ∷ ns) (x ∷ p) = ltb x n && packet_in_form ns p

-- Each alone; then together: "Rules are looked at first, then the policy, then the packet."
unfoldable pub refuse_rules : List ℕ → RuleSet → Refusal
refuse_rules ns s = cond (rules_in_form ns s) unrefused (out_of_form 1)

unfoldable pub refuse_policy : List ℕ → PolicySet → Refusal
refuse_policy ns s = cond (policy_in_form ns s) unrefused (out_of_form 2)

unfoldable pub refuse_packet : List ℕ → Packet → Refusal
refuse_packet ns p = cond (packet_in_form ns p) unrefused (out_of_form 3)

-- what the verdict and the listing refuse
unfoldable pub refuse_sets : List ℕ → RuleSet → PolicySet → Refusal
refuse_sets ns rules policy = or_else (refuse_rules ns rules) (refuse_policy ns policy)

-- what the label of a packet refuses
unfoldable pub refuse_label : List ℕ → RuleSet → PolicySet → Packet → Refusal
refuse_label ns rules policy p = or_else (refuse_sets ns rules policy) (refuse_packet ns p)
