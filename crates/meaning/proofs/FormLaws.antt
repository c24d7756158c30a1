-- What follows from form: a packet in form is in range, exceptions in form lie inside their directives, narrowing keeps form.
-- Assumes nothing.
use mathlib.Core.Path.{◌≡◌, refl, ◌∙◌, ap, subst, sym}
use mathlib.Core.Logic.{◌⊎◌, inl, inr, ⊎_elim, ◌↔◌}
use mathlib.Core.Bool.{Bool, true, false, ◌&&◌, cond}
use mathlib.Core.List.{List, [], ◌∷◌}
use mathlib.Core.Option.{Option, none, some, map, some-injective, none-ne-some}
use Prim.Native.Nat.{ℕ, zero, suc, ◌+◌, ◌-◌, ◌<◌, ◌≤◌, min, max}
use native.Mathlib.Omega.{arith}
use lib.Dec.{T, leb, ltb, eqb, le→leb, ltb→lt, lt→ltb, eqb→eq, leb→le}
use lib.ListN.{get_elem?, take, length}
use Rattle.meaning.specs.Blocks.{Span, Block, holds, Holds, inside, widest, shared, shares, narrow_span, narrow}
use Rattle.meaning.specs.Fields.{Packet, InRange, range_none, range_more}
use Rattle.meaning.specs.Form.{or_else, RuleSet, table_of, Exception, PolicySet, naming, directives_from, policy_of, block_in_form, rules_in_form, inside_of, exceptions_in_form, policy_in_form, packet_in_form, refuse_rules, refuse_policy, refuse_packet, refuse_sets, refuse_label, most_rules, most_directives, most_exceptions}
use Rattle.meaning.specs.Policies.{Directive, excepted, asks}
use Rattle.meaning.specs.Records.{numbered, some_of, all_of, Every, every_none, every_more}
use Rattle.meaning.specs.Rules.{Action, accept, deny, opposite, same_action, Rule}
use Rattle.meaning.proofs.BlockHolding.{inside_holds}
use Rattle.meaning.proofs.RecordsEvery.{all_of_iff}
use Rattle.meaning.proofs.Tests.{tested, passed, failed, passes, both, left, right, second}

range_of : (ns : List ℕ) (p : Packet) → T (packet_in_form ns p) → InRange ns p
unfolding packet_in_form
range_of [] [] t = range_none
range_of [] (x ∷ p) t = absurd t
range_of (n ∷ ns) [] t = absurd t
range_of (n ∷ ns) (x ∷ p) t = range_more (ltb→lt x n (left (ltb x n) (packet_in_form ns p) t)) (range_of ns p (right (ltb x n) (packet_in_form ns p) t))

form_of : (ns : List ℕ) (p : Packet) → InRange ns p → T (packet_in_form ns p)
unfolding packet_in_form
form_of ns p range_none = tt
form_of ns p (range_more {n} {x} {ns = ms} {p = q} h i) = both (ltb x n) (packet_in_form ms q) (lt→ltb x n h) (form_of ms q i)

pub packet_in_form_iff : (ns : List ℕ) (p : Packet) → T (packet_in_form ns p) ↔ InRange ns p
packet_in_form_iff ns p = (range_of ns p, form_of ns p)

-- what number 14 asks of a block, and of the first of the exceptions left, in which `before` is the directive named last
pub block_in_form_iff : (n : ℕ) (ns : List ℕ) (s : Span) (b : Block)
    → T (block_in_form (n ∷ ns) (s ∷ b)) ↔ ((s.low ≤ s.high) × (s.high < n) × T (block_in_form ns b))
unfolding block_in_form
block_in_form_iff n ns s b =
    let rises = leb s.low s.high in
    let fits = ltb s.high n in
    let rest = block_in_form ns b in (
      λ t. (leb→le _ _ (left rises fits (left (rises && fits) rest t)), ltb→lt _ _ (right rises fits (left (rises && fits) rest t)), right (rises && fits) rest t),
      λ w. both (rises && fits) rest (both rises fits (le→leb _ _ w.0) (lt→ltb _ _ w.1)) w.2,
    )

inside_of_iff : (o : Option Rule) (b : Block) → T (inside_of o b) ↔ ((d : Rule) × (o ≡ some d) × T (inside b d.block))
unfolding inside_of
inside_of_iff none b = (λ t. absurd t, λ w. absurd (none-ne-some w.0 w.1))
inside_of_iff (some d) b = (λ t. (d, refl, t), λ w. subst (λ (c : Rule). T (inside b c.block)) (sym (some-injective d w.0 w.1)) w.2)

pub exception_in_form_iff : (ns : List ℕ) (ds : List Rule) (before : ℕ) (e : Exception) (es : List Exception)
    → T (exceptions_in_form ns ds before (e ∷ es))
    ↔ ((before ≤ e.directive)
    × ((d : Rule) × (numbered ds e.directive ≡ some d) × T (inside e.block d.block))
    × T (block_in_form ns e.block)
    × T (exceptions_in_form ns ds e.directive es))
unfolding exceptions_in_form
exception_in_form_iff ns ds before e es =
    let order = leb before e.directive in
    let lies = inside_of (numbered ds e.directive) e.block in
    let form = block_in_form ns e.block in
    let rest = exceptions_in_form ns ds e.directive es in
    let named = inside_of_iff (numbered ds e.directive) e.block in (
      λ t.
          let front = left (order && lies && form) rest t in
          let first = left (order && lies) form front in
          (leb→le _ _ (left order lies first), named.0 (right order lies first), right (order && lies) form front, right (order && lies && form) rest t),
      λ w. both (order && lies && form) rest (both (order && lies) form (both order lies (le→leb _ _ w.0) (named.1 w.1)) w.2) w.3,
    )

-- what it asks of rules, and of a policy
pub rules_in_form_iff : (ns : List ℕ) (s : RuleSet) → T (rules_in_form ns s) ↔ ((s.count ≤ 64) × Every (λ r. T (block_in_form ns r.block)) (table_of s))
unfolding rules_in_form
rules_in_form_iff ns s =
    let few = leb s.count most_rules in
    let blocks = all_of (λ (r : Rule). block_in_form ns r.block) (table_of s) in
    let each = all_of_iff (λ (r : Rule). block_in_form ns r.block) (table_of s) in
    (λ t. (leb→le _ _ (left few blocks t), each.0 (right few blocks t)), λ w. both few blocks (le→leb _ _ w.0) (each.1 w.1))

pub policy_in_form_iff : (ns : List ℕ) (s : PolicySet)
    → T (policy_in_form ns s)
    ↔ ((s.directive_count ≤ 32)
    × (s.exception_count ≤ 64)
    × Every (λ d. T (block_in_form ns d.block)) (take s.directive_count s.directives)
    × T (exceptions_in_form ns (take s.directive_count s.directives) 0 (take s.exception_count s.exceptions)))
unfolding policy_in_form
policy_in_form_iff ns s =
    let ds = take s.directive_count s.directives in
    let few = leb s.directive_count most_directives in
    let few_exceptions = leb s.exception_count most_exceptions in
    let blocks = all_of (λ (d : Rule). block_in_form ns d.block) ds in
    let rest = exceptions_in_form ns ds 0 (take s.exception_count s.exceptions) in
    let each = all_of_iff (λ (d : Rule). block_in_form ns d.block) ds in (
      λ t.
          let front = left (few && few_exceptions && blocks) rest t in
          let counts = left (few && few_exceptions) blocks front in
          (leb→le _ _ (left few few_exceptions counts), leb→le _ _ (right few few_exceptions counts), each.0 (right (few && few_exceptions) blocks front), right (few && few_exceptions && blocks) rest t),
      λ w.
          both (few && few_exceptions && blocks) rest
          (both (few && few_exceptions) blocks (both few few_exceptions (le→leb _ _ w.0) (le→leb _ _ w.1)) (each.1 w.2))
          w.3,
    )

-- directive n of the policy that a set stands for is record n, with the exceptions that name n
module _ (es : List Exception) where
  abbrev pub directive_of : ℕ → Rule → Directive
  directive_of n d = record { action = d.action; block = d.block; exceptions = naming n es }

  directive_placed : (n : ℕ) (ds : List Rule) (k : ℕ) → get_elem? (directives_from n ds es) k ≡ map (directive_of (n + k)) (get_elem? ds k)
  unfolding directives_from
  directive_placed n [] k = refl
  directive_placed n (d ∷ ds) zero = ap (λ (m : ℕ). some (directive_of m d)) (omega arith)
  directive_placed n (d ∷ ds) (suc k) =
      let e : suc n + k ≡ n + suc k = omega arith in
      directive_placed (suc n) ds k ∙ ap (λ (m : ℕ). map (directive_of m) (get_elem? ds k)) e

pub directive_numbered : (s : PolicySet) (n : ℕ)
    → numbered (policy_of s).directives n
    ≡ map (directive_of (take s.exception_count s.exceptions) n) (numbered (take s.directive_count s.directives) n)
unfolding policy_of numbered
directive_numbered s zero = refl
directive_numbered s (suc k) =
    let es = take s.exception_count s.exceptions in
    let ds = take s.directive_count s.directives in
    let e : 1 + k ≡ suc k = omega arith in
    directive_placed es 1 ds k ∙ ap (λ (m : ℕ). map (directive_of es m) (get_elem? ds k)) e

-- a block in form lies inside the widest, so it holds packets in range alone
pub form_inside_widest : (ns : List ℕ) (b : Block) → T (block_in_form ns b) → T (inside b (widest ns))
unfolding block_in_form inside
form_inside_widest [] [] t = tt
form_inside_widest [] (s ∷ b) t = absurd t
form_inside_widest (n ∷ ns) [] t = absurd t
form_inside_widest (n ∷ ns) (s ∷ b) t =
    let w = (block_in_form_iff n ns s b).0 t in
    both (leb 0 s.low && leb s.high (n - 1)) (inside b (widest ns))
    (both (leb 0 s.low) (leb s.high (n - 1)) (le→leb 0 s.low (omega arith)) (le→leb s.high (n - 1) (omega (arith, w.1))))
    (form_inside_widest ns b w.2)

-- the exceptions that name a directive lie inside it
module _ (ns : List ℕ) (ds : List Rule) where
  inside_named : (n : ℕ) (d : Rule) → numbered ds n ≡ some d → (before : ℕ) (es : List Exception) → T (exceptions_in_form ns ds before es)
      → Every (λ b. T (inside b d.block)) (naming n es)
  unfolding naming
  inside_named n d e before [] t = every_none
  inside_named n d e before (x ∷ es) t =
      let w = (exception_in_form_iff ns ds before x es).0 t in
      let more = inside_named n d e x.directive es w.3 in
      elim (tested (eqb x.directive n)) [
        | yes u ↦
            let same : w.1.0 ≡ d = some-injective w.1.0 d (sym w.1.1 ∙ ap (numbered ds) (eqb→eq x.directive n u) ∙ e) in
            rw (passed (eqb x.directive n) u) (every_more (subst (λ (c : Rule). T (inside x.block c.block)) same w.1.2) more)
        | no u ↦ rw (failed (eqb x.directive n) u) more
      ]

-- every exception of the directive lies inside its block
abbrev pub Enclosing : Directive → Type 0
Enclosing d = Every (λ b. T (inside b d.block)) d.exceptions

module _ (ns : List ℕ) (ds : List Rule) (es : List Exception) (t : T (exceptions_in_form ns ds 0 es)) where
  all_enclosing : (n : ℕ) (later : List Rule) → ((k : ℕ) (d : Rule) → get_elem? later k ≡ some d → numbered ds (n + k) ≡ some d)
      → Every Enclosing (directives_from n later es)
  unfolding directives_from
  all_enclosing n [] at = every_none
  all_enclosing n (d ∷ later) at =
      every_more (inside_named ns ds n d (subst (λ (k : ℕ). numbered ds k ≡ some d) (omega arith) (at 0 d refl)) 0 es t)
      (all_enclosing (suc n) later (λ k c e. subst (λ (j : ℕ). numbered ds j ≡ some c) (omega arith) (at (suc k) c e)))

pub form_enclosing : (ns : List ℕ) (s : PolicySet) → T (policy_in_form ns s) → Every Enclosing (policy_of s).directives
unfolding policy_of numbered
form_enclosing ns s t =
    let ds = take s.directive_count s.directives in
    let es = take s.exception_count s.exceptions in
    all_enclosing ns ds es ((policy_in_form_iff ns s).0 t).3 1 ds
    (λ k d e. let n : suc k ≡ 1 + k = omega arith in subst (λ (j : ℕ). numbered ds j ≡ some d) n e)

-- Such a directive asks something of a packet just if its block holds it: both readings of document 000's 4.3 are the same.
some_holds : (b : Block) (bs : List Block) (p : Packet) → Every (λ c. T (inside c b)) bs → T (some_of (λ (c : Block). holds c p) bs) → Holds b p
unfolding some_of
some_holds b bs p every_none t = absurd t
some_holds b bs p (every_more {x = c} {xs = cs} i e) t =
    elim (tested (holds c p)) [
      | yes h ↦ inside_holds c b p i h
      | no h ↦ some_holds b cs p e (second (holds c p) (some_of (λ (x : Block). holds x p) cs) h t)
    ]

asks_one : (a : Action) → T (same_action accept a) ⊎ T (same_action deny a)
unfolding same_action
asks_one accept = inl tt
asks_one deny = inr tt

module _ (d : Directive) (p : Packet) where
  abbrev AsksSome : Type 0
  AsksSome = T (asks d accept p) ⊎ T (asks d deny p)

  asked_holds : Enclosing d → (a : Action) → T (asks d a p) → Holds d.block p
  unfolding asks excepted
  asked_holds e a t =
      elim (tested (excepted d p)) [
        | yes x ↦ some_holds d.block d.exceptions p e x
        | no x ↦ right (same_action a d.action) (holds d.block p) (rw (failed (excepted d p) x) at t)
      ]

  holds_asked : Holds d.block p → AsksSome
  unfolding asks
  holds_asked h =
      elim (tested (excepted d p)) [
        | yes x ↦ rw (passed (excepted d p) x) (asks_one (opposite d.action))
        | no x ↦
            rw (failed (excepted d p) x)
            (⊎_elim (λ (u : T (same_action accept d.action)). inl (both (same_action accept d.action) (holds d.block p) u h))
            (λ (u : T (same_action deny d.action)). inr (both (same_action deny d.action) (holds d.block p) u h)) (asks_one d.action))
      ]

  pub asks_iff_holds : Enclosing d → AsksSome ↔ Holds d.block p
  asks_iff_holds e = (⊎_elim (asked_holds e accept) (asked_holds e deny), holds_asked)

-- Rules are looked at first, then the policy, then the packet; records past the count are not looked at.
module _ (ns : List ℕ) (rules : RuleSet) (policy : PolicySet) (p : Packet) where
  pub rules_refused_first : ¬ T (rules_in_form ns rules) → refuse_label ns rules policy p ≡ record { number = 14; line = 1; field = 0 }
  unfolding refuse_label refuse_sets refuse_rules or_else
  rules_refused_first h = rw (failed (rules_in_form ns rules) h)

  pub policy_refused_next : T (rules_in_form ns rules) → ¬ T (policy_in_form ns policy) → refuse_label ns rules policy p ≡ record { number = 14; line = 2; field = 0 }
  unfolding refuse_label refuse_sets refuse_rules refuse_policy or_else
  policy_refused_next t h = rw (passed (rules_in_form ns rules) t, failed (policy_in_form ns policy) h)

  pub packet_refused_last : T (rules_in_form ns rules) → T (policy_in_form ns policy) → ¬ InRange ns p → refuse_label ns rules policy p ≡ record { number = 14; line = 3; field = 0 }
  unfolding refuse_label refuse_sets refuse_rules refuse_policy refuse_packet or_else
  packet_refused_last t u h = rw (passed (rules_in_form ns rules) t, passed (policy_in_form ns policy) u, failed (packet_in_form ns p) (λ v. h (range_of ns p v)))

  pub in_form_unrefused : T (rules_in_form ns rules) → T (policy_in_form ns policy) → InRange ns p → refuse_label ns rules policy p ≡ record { number = 0; line = 0; field = 0 }
  unfolding refuse_label refuse_sets refuse_rules refuse_policy refuse_packet or_else
  in_form_unrefused t u i = rw (passed (rules_in_form ns rules) t, passed (policy_in_form ns policy) u, passed (packet_in_form ns p) (form_of ns p i))

pub rules_past_count_unseen : (ns : List ℕ) (s t : RuleSet) → s.count ≡ t.count → table_of s ≡ table_of t → rules_in_form ns s ≡ rules_in_form ns t
unfolding rules_in_form
rules_past_count_unseen ns s t c e = λ i. leb (c i) most_rules && all_of (λ (r : Rule). block_in_form ns r.block) (e i)

pub policy_past_count_unseen : (ns : List ℕ) (s t : PolicySet)
    → s.directive_count ≡ t.directive_count
    → s.exception_count ≡ t.exception_count
    → take s.directive_count s.directives ≡ take t.directive_count t.directives
    → take s.exception_count s.exceptions ≡ take t.exception_count t.exceptions
    → (policy_in_form ns s ≡ policy_in_form ns t) × (policy_of s ≡ policy_of t)
unfolding policy_in_form policy_of
policy_past_count_unseen ns s t c d e f = (
  λ i.
      leb (c i) most_directives && leb (d i) most_exceptions && all_of (λ (r : Rule). block_in_form ns r.block) (e i) && exceptions_in_form ns (e i) 0 (f i),
  λ i. record { directives = directives_from 1 (e i) (f i) },
)

-- a block in form has a span for each field
pub form_shaped : (ns : List ℕ) (b : Block) → T (block_in_form ns b) → length b ≡ length ns
unfolding block_in_form
form_shaped [] [] t = refl
form_shaped [] (s ∷ b) t = absurd t
form_shaped (n ∷ ns) [] t = absurd t
form_shaped (n ∷ ns) (s ∷ b) t = ap suc (form_shaped ns b ((block_in_form_iff n ns s b).0 t).2)

-- Narrowing keeps a block in form, whatever the bounds: a field's numbers are bounded by its size as before.
narrow_span_in_form : (n : ℕ) (s bounds : Span) → (s.low ≤ s.high) × (s.high < n) → ((narrow_span s bounds).low ≤ (narrow_span s bounds).high) × ((narrow_span s bounds).high < n)
unfolding shares narrow_span
narrow_span_in_form n s bounds h = by_test (shares s bounds) refl
  where
    by_test : (t : Bool) → shares s bounds ≡ t → ((cond t (shared s bounds) s).low ≤ (cond t (shared s bounds) s).high) × ((cond t (shared s bounds) s).high < n)
    by_test true e =
        let rises : max s.low bounds.low ≤ min s.high bounds.high = leb→le _ _ (passes (shares s bounds) e) in
        (rises, omega (arith, h.1))
    by_test false e = h

pub narrow_in_form : (ns : List ℕ) (k : ℕ) (bounds : Span) (b : Block) → T (block_in_form ns b) → T (block_in_form ns (narrow k bounds b))
unfolding narrow block_in_form
narrow_in_form [] k bounds [] t = tt
narrow_in_form [] k bounds (s ∷ b) t = absurd t
narrow_in_form (n ∷ ns) k bounds [] t = absurd t
narrow_in_form (n ∷ ns) zero bounds (s ∷ b) t =
    let w = (block_in_form_iff n ns s b).0 t in
    let v = narrow_span_in_form n s bounds (w.0, w.1) in
    (block_in_form_iff n ns (narrow_span s bounds) b).1 (v.0, v.1, w.2)
narrow_in_form (n ∷ ns) (suc k) bounds (s ∷ b) t =
    let w = (block_in_form_iff n ns s b).0 t in
    (block_in_form_iff n ns s (narrow k bounds b)).1 (w.0, w.1, narrow_in_form ns k bounds b w.2)
