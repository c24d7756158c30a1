-- The lowest directive that asks, walking the directives; and that an action is asked just if there is such a directive. Assumes nothing.
use mathlib.Core.Bool.{Bool, true, false, not, ◌&&◌}
use mathlib.Core.List.{List, map}
use mathlib.Core.Path.{◌≡◌, refl, sym, ap, ◌∙◌}
use native.Mathlib.Numerals.{add-one}
use native.Mathlib.Omega.{arith}
use Prim.Native.Nat.{ℕ, zero, suc, ◌+◌, ◌≤◌, ◌<◌}
use lib.ListN.{length, drop, get_or}
use Rattle.std.specs.Prelude.{Some}
use Rattle.std.specs.Option.{is_some}
use Rattle.meaning.specs.Blocks.{holds}
use Rattle.meaning.specs.Fields.{Packet}
use Rattle.meaning.specs.Form.{Exception, naming, directives_from, policy_of}
use Rattle.meaning.specs.Policies as policies
use Rattle.meaning.specs.Records.{first_from, number_of}
use Rattle.meaning.specs.Rules as rules
use Rattle.meaning.proofs.PolicyAsking.{LowestAsking, nobody, lowest, asking_is_lowest}
use Rattle.meaning.proofs.RecordsFirst.{number_within}
use Rattle.meaning.proofs.Tests.{passed, failed}
use Rattle.sets.specs.declared.Directive.{Directive}
use Rattle.sets.specs.declared.Policy.{Policy}
use Rattle.sets.specs.Empty.{zero_directive}
use Rattle.sets.specs.Inner.{directives_of, exceptions_of}
use Rattle.sets.specs.Vocabulary.{directive_of, policy_set_of}
use Rattle.sets.proofs.Walks.{slice_next, slice_over}
use Rattle.labels.specs.Answers.{number_told}
use Rattle.labels.specs.Inner.{asked_by}
use Rattle.labels.proofs.Marks.{excepted_among}

pub asked_by_number : (policy : policies.Policy) (a : rules.Action) (p : Packet)
    → policies.asked policy a p ≡ is_some (number_told (policies.lowest_asking policy a p))
asked_by_number policy a p = from (policies.lowest_asking policy a p) (asking_is_lowest policy a p)
  where
    numbered : (n : ℕ) → 1 ≤ n → true ≡ is_some (number_told n)
    numbered zero h = absurd (omega arith)
    numbered (suc n) h = refl

    from : (n : ℕ) → LowestAsking policy a p n → policies.asked policy a p ≡ is_some (number_told n)
    from n (nobody e none) = failed (policies.asked policy a p) none ∙ sym (ap (λ (m : ℕ). is_some (number_told m)) e)
    from n (lowest d at t some below) = passed (policies.asked policy a p) some ∙ numbered n (omega (arith, (number_within policy.directives n d at).0))

-- what a directive asks
opposite_differs : (a b : rules.Action) → rules.same_action a (rules.opposite b) ≡ not (rules.same_action a b)
unfolding rules.same_action rules.opposite
opposite_differs rules.accept rules.accept = refl
opposite_differs rules.accept rules.deny = refl
opposite_differs rules.deny rules.accept = refl
opposite_differs rules.deny rules.deny = refl

module _ (a own : rules.Action) (held : Bool) where
  pub own_excepted : rules.same_action a own ≡ true → asked_by a own true held ≡ false
  own_excepted e = opposite_differs a own ∙ ap not e

  pub other_asked : (excepted : Bool) → rules.same_action a own ≡ false → asked_by a own excepted held ≡ excepted
  other_asked true e = opposite_differs a own ∙ ap not e
  other_asked false e = ap (λ (t : Bool). t && held) e

-- the number of the next
pub told_next : (n : ℕ) → number_told (n + 1) ≡ Some (n + 1)
told_next n = rw (add-one n) refl

module _ (ds : List Directive) (es : List Exception) (a : rules.Action) (p : Packet) where
  -- the number of the first that asks among the directives left at i, or 0
  abbrev asking_from : ℕ → List rules.Rule → ℕ
  asking_from n left = number_of (first_from n (λ (d : policies.Directive). policies.asks d a p) (directives_from n left es))

  abbrev pub asking_left : ℕ → ℕ
  asking_left i = asking_from (i + 1) (map directive_of (drop i ds))

  -- what directive i, counted from 0, asks, where it is told whether an exception of it holds p
  module _ (i : ℕ) (there : i < length ds) (excepted : Bool) (told : excepted ≡ excepted_among p (i + 1) es) where
    abbrev d : rules.Rule
    d = directive_of (get_or ds i zero_directive)

    abbrev pub asks : Bool
    asks = asked_by a d.action excepted (holds d.block p)

    asked_here : policies.asks (record { action = d.action; block = d.block; exceptions = naming (i + 1) es }) a p ≡ asks
    unfolding policies.asks policies.excepted
    asked_here = simp (← told)

    pub asking_here : asks ≡ true → asking_left i ≡ i + 1
    unfolding first_from directives_from number_of
    asking_here e = ap (asking_from (i + 1)) (slice_next directive_of ds i zero_directive there) ∙ simp (asked_here, e)

    pub asking_later : asks ≡ false → asking_left i ≡ asking_left (i + 1)
    unfolding first_from directives_from number_of
    asking_later e =
        ap (asking_from (i + 1)) (slice_next directive_of ds i zero_directive there)
        ∙ (simp (asked_here, e)) ∙ ap (λ (n : ℕ). asking_from n (map directive_of (drop (i + 1) ds))) (sym (add-one (i + 1)))

  pub asking_over : (i : ℕ) → length ds ≤ i → asking_left i ≡ 0
  unfolding first_from directives_from number_of
  asking_over i h = ap (asking_from (i + 1)) (slice_over directive_of ds i h)

-- the directives within their count, as a slice holds them
module _ (s : Policy) (a : rules.Action) (p : Packet) (ds : List Directive) (held : directives_of s ≡ map directive_of ds) where
  pub asking_start : policies.lowest_asking (policy_of (policy_set_of s)) a p ≡ asking_left ds (exceptions_of s) a p 0
  unfolding policies.lowest_asking policy_of
  asking_start = ap (asking_from ds (exceptions_of s) a p 1) held
