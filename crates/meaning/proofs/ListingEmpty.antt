-- Nothing is listed just if every packet is good, so just if the verdict is "conforms". Assumes nothing.
use mathlib.Core.Path.{◌≡◌, refl, ap}
use mathlib.Core.Logic.{inr, ◌↔◌}
use mathlib.Core.List.{List, [], ◌∷◌, nil≢cons}
use Prim.Native.Nat.{ℕ, zero, suc}
use native.Mathlib.Omega.{arith}
use Rattle.meaning.specs.Fields.{Packet}
use Rattle.meaning.specs.Labels.{Label, good, kind, rule}
use Rattle.meaning.specs.Listings.{Listed, Agree, no_more, run, is_good, Listing, told, Tells, tells_good, tells_fault}
use Rattle.meaning.specs.Rules.{Action}
use Rattle.meaning.specs.Verdicts.{conforms, IsVerdict, case_conforms}
use Rattle.meaning.proofs.LabelKinds.{Kinds, is_good as kind_good, is_conflict, is_blaming, is_unmet, kinds, not_blaming, not_lacking}
use Rattle.meaning.proofs.ListingTells.{listing_tells}
use Rattle.meaning.proofs.ListingUnique.{agree_refl, listing_is_unique}
use Rattle.meaning.proofs.VerdictConforms.{AllGood, conforms_means}

module _ {L : Type 0} (fine : L) where
  -- labels that are all good have the empty listing
  pub listing_of_good : (ns : List ℕ) → Listing fine ns (λ p. fine) []
  listing_of_good [] = is_good refl
  listing_of_good (zero ∷ ns) = no_more {low = 0} (omega arith)
  listing_of_good (suc n ∷ ns) =
      run {low = 0} {high = n} {blocks = []} {later = []} (omega arith) (omega arith)
      (λ x a b. agree_refl (λ p. fine))
      (λ l. absurd (omega arith))
      (listing_of_good ns)
      (no_more {low = suc n} (omega arith))

  told_nothing : (l : L) → Tells fine l [] → l ≡ fine
  told_nothing l (tells_good g e) = g
  told_nothing l (tells_fault h e) = absurd (nil≢cons e)

  pub nothing_listed_iff_good : (ns : List ℕ) (f : Packet → L) (bs : List (Listed L)) → Listing fine ns f bs → (bs ≡ []) ↔ Agree ns f (λ p. fine)
  unfolding told
  nothing_listed_iff_good ns f bs a = (
    λ e p i. told_nothing (f p) (listing_tells fine ns f [] p (rw e at a) i),
    λ g. listing_is_unique fine ns f (λ p. fine) bs [] a (listing_of_good ns) g,
  )

module _ (ns : List ℕ) (f : Packet → Label) (asking : Action → Packet → ℕ) where
  good_by_kinds : AllGood ns f → Agree ns f (λ p. good)
  good_by_kinds all q i = from (kinds (f q))
    where
      from : Kinds (f q) → f q ≡ good
      from (kind_good e) = e
      from (is_conflict k) = absurd (all.no_conflict q i k)
      from (is_blaming w) = absurd (all.no_blame (rule (f q)) q i (w, refl))
      from (is_unmet u) = absurd (all.no_unmet q i u)

  pub all_good_conforms : Agree ns f (λ p. good) → IsVerdict ns f asking (conforms ns)
  unfolding kind
  all_good_conforms g =
      case_conforms (λ q i k. omega (arith, ap kind (g q i))) (λ n q i w. not_blaming (f q) 0 (ap kind (g q i)) tt w.0)
      (λ q i u. not_lacking (f q) 0 (ap kind (g q i)) tt (inr u))

  pub conforms_iff_nothing_listed : (bs : List (Listed Label)) → Listing good ns f bs → IsVerdict ns f asking (conforms ns) ↔ (bs ≡ [])
  unfolding kind
  conforms_iff_nothing_listed bs a = (
    λ v. (nothing_listed_iff_good good ns f bs a).1 (good_by_kinds (conforms_means ns f asking v refl)),
    λ e. all_good_conforms ((nothing_listed_iff_good good ns f bs a).0 e),
  )
