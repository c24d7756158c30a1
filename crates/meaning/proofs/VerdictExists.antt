-- Every table and policy have a verdict, and it can be computed. Assumes nothing.
use mathlib.Core.Path.{ap}
use mathlib.Core.Bool.{cond}
use mathlib.Core.List.{List}
use mathlib.Core.Option.{Option, none, some}
use Prim.Native.Nat.{ℕ}
use native.Mathlib.Decide.{ℕ_discrete}
use borrow.Author.Tests.{eq-eqb, ne_eqb}
use lib.Dec.{eqb}
use lib.ListN.{length}
use Rattle.meaning.specs.Fields.{Packet, InRange}
use Rattle.meaning.specs.Labels.{Label, kind, label}
use Rattle.meaning.specs.Policies.{Policy, lowest_asking}
use Rattle.meaning.specs.Rules.{Action, Table}
use Rattle.meaning.specs.Verdicts.{Verdict, verdict_at, conforms, IsVerdict, case_conforms, VerdictOn}
use Rattle.meaning.proofs.VerdictFirst.{best, IsBest, best_is}
use Rattle.meaning.proofs.LabelKinds.{Numbered, kind_zero}
use Rattle.meaning.proofs.LabelCases.{label_numbered}
use Rattle.meaning.proofs.VerdictRanks.{rank, first_is_verdict, first_good_conforms}

module _ (ns : List ℕ) (f : Packet → Label) (asking : Action → Packet → ℕ) where
  -- the verdict at the first packet of the lowest rank
  unfoldable pub verdict_for : Option Packet → Verdict
  verdict_for none = conforms ns
  verdict_for (some p) = cond (eqb (kind (f p)) 0) (conforms ns) (verdict_at f asking p)

  unfoldable pub verdict_of : ℕ → Verdict
  verdict_of b = verdict_for (best ns (λ q. rank b (f q)))

  pub verdict_computed : (b : ℕ) → ((q : Packet) → InRange ns q → Numbered b (f q)) → IsVerdict ns f asking (verdict_of b)
  unfolding verdict_of verdict_for kind
  verdict_computed b numbered = from (best ns (λ q. rank b (f q))) (best_is ns (λ q. rank b (f q)))
    where
      from : (o : Option Packet) → IsBest ns (λ q. rank b (f q)) o → IsVerdict ns f asking (verdict_for o)
      from none h = case_conforms (λ q i. absurd (h q i)) (λ n q i. absurd (h q i)) (λ q i. absurd (h q i))
      from (some p) o =
          elim (ℕ_discrete (kind (f p)) 0) [
            | yes e ↦ rw (eq-eqb (kind (f p)) 0 e) (first_good_conforms ns f asking b numbered p o (kind_zero (f p) e))
            | no e ↦ rw (ne_eqb (kind (f p)) 0 e) (first_is_verdict ns f asking b numbered p o (λ g. e (ap kind g)))
          ]

pub verdict_exists : (ns : List ℕ) (rules : Table) (policy : Policy)
    → VerdictOn ns rules policy (verdict_of ns (label rules policy) (lowest_asking policy) (length rules))
verdict_exists ns rules policy = verdict_computed ns (label rules policy) (lowest_asking policy) (length rules) (λ q i. label_numbered rules policy q)
