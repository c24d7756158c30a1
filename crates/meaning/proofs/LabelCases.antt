-- The label in the words of document 01's table of kinds. Assumes nothing.
use mathlib.Core.Path.{◌≡◌, refl, sym, ◌∙◌, ap}
use mathlib.Core.Bool.{Bool, true, false, cond}
use mathlib.Core.Option.{some-injective}
use Prim.Native.Nat.{ℕ, suc, ◌<◌, ◌≤◌}
use native.Mathlib.Omega.{arith}
use lib.ListN.{length}
use Rattle.meaning.specs.Blocks.{holds}
use Rattle.meaning.specs.Conformance.{Matches}
use Rattle.meaning.specs.Fields.{Packet}
use Rattle.meaning.specs.Labels.{Label, good, conflict, wrong, unasked, unmet_accept, unmet_deny, judged, label, kind, rule}
use Rattle.meaning.specs.Policies.{Policy, asked, Asked}
use Rattle.meaning.specs.Records.{nothing, found, numbered}
use Rattle.meaning.specs.Rules.{Action, accept, deny, opposite, same_action, Rule, deciding, Table}
use Rattle.meaning.proofs.LabelKinds.{Numbered, not_blaming}
use Rattle.meaning.proofs.RecordsFirst.{number_within, First, first_none, first_at, first_cases}

module _ (rules : Table) (p : Packet) where
  -- what `deciding` finds is the rule of Definitions 1 and 2
  pub data Decided : Type 0 where
    undecided : deciding rules p ≡ nothing → ((i : ℕ) (r : Rule) → ¬ Matches rules p i r) → Decided
    decided : (i : ℕ) (r : Rule) → deciding rules p ≡ found i r → Matches rules p i r → Decided

  pub decided_cases : Decided
  unfolding deciding
  decided_cases = from (first_cases held rules)
    where
      held : Rule → Bool
      held r = holds r.block p

      from : First held rules → Decided
      from (first_none e s below) = undecided e (λ i r m. below (suc i) i r (omega arith) m.is_rule m.holds_it)
      from (first_at i r e some_hold is_rule t below) = decided i r e (record { is_rule = is_rule; holds_it = t; none_earlier = λ j s l e. below j s (omega arith) e })

-- one rule so matches a packet
pub matches_once : (rules : Table) (p : Packet) (i j : ℕ) (r s : Rule) → Matches rules p i r → Matches rules p j s → (i ≡ j) × (r ≡ s)
matches_once rules p i j r s a b =
    let not_less : ¬ (i < j) = λ l. b.none_earlier i r l a.is_rule a.holds_it in
    let not_more : ¬ (j < i) = λ l. a.none_earlier j s l b.is_rule b.holds_it in
    let e : i ≡ j = omega arith in
    (e, some-injective r s (sym a.is_rule ∙ ap (numbered rules) e ∙ b.is_rule))

module _ (policy : Policy) (p : Packet) where
  -- one action alone is asked
  pub record Only (a : Action) : Type 0 where
    pub this : Asked policy a p
    pub not_other : ¬ Asked policy (opposite a) p

  pub record Neither : Type 0 where
    pub no_accept : ¬ Asked policy accept p
    pub no_deny : ¬ Asked policy deny p

module _ (rules : Table) (policy : Policy) (p : Packet) where
  abbrev pub Undecided : Type 0
  Undecided = (i : ℕ) (r : Rule) → ¬ Matches rules p i r

  -- the rows of the table; a good packet is asked and done, or neither asked nor decided
  pub data Case (l : Label) : Type 0 where
    is_conflict : l ≡ conflict → Asked policy accept p → Asked policy deny p → Case l
    is_wrong : (a : Action) (i : ℕ) (r : Rule) → l ≡ wrong i → Only policy p a → Matches rules p i r → r.action ≡ opposite a → Case l
    is_unasked : (i : ℕ) (r : Rule) → l ≡ unasked i → Neither policy p → Matches rules p i r → Case l
    is_unmet_accept : l ≡ unmet_accept → Only policy p accept → Undecided → Case l
    is_unmet_deny : l ≡ unmet_deny → Only policy p deny → Undecided → Case l
    is_done : (a : Action) (i : ℕ) (r : Rule) → l ≡ good → Only policy p a → Matches rules p i r → r.action ≡ a → Case l
    is_let_be : l ≡ good → Neither policy p → Undecided → Case l

  -- one action is asked, and a rule does it or does the other
  by_action : (asked done : Action) (i : ℕ) (r : Rule) → r.action ≡ done → Only policy p asked → Matches rules p i r
      → Case (cond (same_action asked done) good (wrong i))
  unfolding same_action opposite
  by_action accept accept i r e o m = is_done accept i r refl o m e
  by_action accept deny i r e o m = is_wrong accept i r refl o m e
  by_action deny accept i r e o m = is_wrong deny i r refl o m e
  by_action deny deny i r e o m = is_done deny i r refl o m e

  by_decision : (a d : Bool) → asked policy accept p ≡ a → asked policy deny p ≡ d → Decided rules p → Case (judged a d (deciding rules p))
  unfolding judged opposite
  by_decision true true e f w = is_conflict refl (rw e tt) (rw f tt)
  by_decision true false e f (undecided n h) = rw n (is_unmet_accept refl (record { this = rw e tt; not_other = rw f (λ t. t) }) h)
  by_decision true false e f (decided i r n m) = rw n (by_action accept r.action i r refl (record { this = rw e tt; not_other = rw f (λ t. t) }) m)
  by_decision false true e f (undecided n h) = rw n (is_unmet_deny refl (record { this = rw f tt; not_other = rw e (λ t. t) }) h)
  by_decision false true e f (decided i r n m) = rw n (by_action deny r.action i r refl (record { this = rw f tt; not_other = rw e (λ t. t) }) m)
  by_decision false false e f (undecided n h) = rw n (is_let_be refl (record { no_accept = rw e (λ t. t); no_deny = rw f (λ t. t) }) h)
  by_decision false false e f (decided i r n m) = rw n (is_unasked i r refl (record { no_accept = rw e (λ t. t); no_deny = rw f (λ t. t) }) m)

  pub label_cases : Case (label rules policy p)
  unfolding label
  label_cases = by_decision (asked policy accept p) (asked policy deny p) refl refl (decided_cases rules p)

-- a rule that a label blames is one of the table
pub label_numbered : (rules : Table) (policy : Policy) (q : Packet) → Numbered (length rules) (label rules policy q)
unfolding kind rule
label_numbered rules policy q w = from (label_cases rules policy q)
  where
    Within : Type 0
    Within = (1 ≤ rule (label rules policy q)) × (rule (label rules policy q) ≤ length rules)

    from : Case rules policy q (label rules policy q) → Within
    from (is_wrong a i r e o m u) = let n = number_within rules i r m.is_rule in (omega (arith, ap rule e, n.0), omega (arith, ap rule e, n.1))
    from (is_unasked i r e n m) = let n = number_within rules i r m.is_rule in (omega (arith, ap rule e, n.0), omega (arith, ap rule e, n.1))
    from (is_conflict e a d) = absurd (not_blaming (label rules policy q) 1 (ap kind e) tt w)
    from (is_unmet_accept e o u) = absurd (not_blaming (label rules policy q) 4 (ap kind e) tt w)
    from (is_unmet_deny e o u) = absurd (not_blaming (label rules policy q) 5 (ap kind e) tt w)
    from (is_done a i r e o m u) = absurd (not_blaming (label rules policy q) 0 (ap kind e) tt w)
    from (is_let_be e n u) = absurd (not_blaming (label rules policy q) 0 (ap kind e) tt w)
