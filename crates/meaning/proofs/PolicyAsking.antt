-- The directive number beside a verdict: 0 just if nothing asks, and else the lowest directive that does. Assumes nothing.
use mathlib.Core.Path.{◌≡◌, ap}
use mathlib.Core.Bool.{Bool}
use mathlib.Core.Option.{some}
use Prim.Native.Nat.{ℕ, ◌<◌}
use lib.Dec.{T}
use Rattle.meaning.specs.Fields.{Packet}
use Rattle.meaning.specs.Policies.{Directive, Policy, asks, asked, Asked, lowest_asking}
use Rattle.meaning.specs.Records.{numbered, number_of}
use Rattle.meaning.specs.Rules.{Action}
use Rattle.meaning.proofs.RecordsFirst.{First, first_none, first_at, first_cases}

module _ (policy : Policy) (a : Action) (p : Packet) where
  pub data LowestAsking (n : ℕ) : Type 0 where
    nobody : n ≡ 0 → ¬ Asked policy a p → LowestAsking n
    lowest : (d : Directive) → numbered policy.directives n ≡ some d → T (asks d a p) → Asked policy a p
        → ((m : ℕ) (c : Directive) → m < n → numbered policy.directives m ≡ some c → ¬ T (asks c a p)) → LowestAsking n

  pub asking_is_lowest : LowestAsking (lowest_asking policy a p)
  unfolding lowest_asking asked number_of
  asking_is_lowest = from (first_cases test policy.directives)
    where
      test : Directive → Bool
      test d = asks d a p

      from : First test policy.directives → LowestAsking (lowest_asking policy a p)
      from (first_none e s below) = nobody (ap number_of e) s
      from (first_at n d e s at t below) = rw (ap number_of e) (lowest d at t s below)
