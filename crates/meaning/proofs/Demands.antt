-- Demand 3 of the user, as far as it speaks of a table and a policy and not of a call (demand 2 is in VerdictConforms). Assumes nothing.
use mathlib.Core.Path.{◌≡◌}
use mathlib.Core.Logic.{◌↔◌}
use mathlib.Core.List.{List, []}
use Prim.Native.Nat.{ℕ, ◌≤◌}
use lib.Dec.{T}
use lib.ListN.{length}
use Rattle.meaning.specs.Fields.{Packet, InRange}
use Rattle.meaning.specs.Labels.{Label, good, label}
use Rattle.meaning.specs.Listings.{Listed, told, Tells, FaultListing}
use Rattle.meaning.specs.Policies.{Policy}
use Rattle.meaning.specs.Records.{Every}
use Rattle.meaning.specs.Rules.{Table}
use Rattle.meaning.specs.Sizes.{field_count, most_listed, most_strips}
use Rattle.meaning.specs.Strips.{Cut, sizes, counts, corner, cut_for}
use Rattle.meaning.proofs.LabelKinds.{same_label, same_label_iff}
use Rattle.meaning.proofs.ListingCount.{fields_few}
use Rattle.meaning.proofs.ListingExists.{listing_of, listing_computed}
use Rattle.meaning.proofs.ListingTells.{listing_tells, listing_silent, same_listing_iff_agree}
use Rattle.meaning.proofs.ListingUnique.{agree_refl, listing_is_unique}
use Rattle.meaning.proofs.StripLabels.{label_by_cells}

module _ (ns : List ℕ) (rules : Table) (policy : Policy) where
  -- Every table and policy have a fault listing, and only one.
  pub fault_listing_exists : FaultListing ns rules policy (listing_of same_label same_label_iff good ns (label rules policy))
  fault_listing_exists = listing_computed same_label same_label_iff good ns (label rules policy)

  pub fault_listing_is_unique : (bs cs : List (Listed Label)) → FaultListing ns rules policy bs → FaultListing ns rules policy cs → bs ≡ cs
  fault_listing_is_unique bs cs a b = listing_is_unique good ns (label rules policy) (label rules policy) bs cs a b (agree_refl (label rules policy))

  -- "Each packet at fault lies in exactly one block, which carries that packet's kind and rule; no other packet lies in any."
  pub each_fault_told_once : (bs : List (Listed Label)) → FaultListing ns rules policy bs
      → ((p : Packet) → InRange ns p → Tells good (label rules policy p) (told p bs)) × ((p : Packet) → ¬ InRange ns p → told p bs ≡ [])
  each_fault_told_once bs a = (λ p i. listing_tells good ns (label rules policy) bs p a i, λ p h. listing_silent good ns (label rules policy) bs p a h)

-- "Two pairs of table and policy have the same listing exactly if every packet has the same kind and rule in both."
pub same_listing_iff_same_labels : (ns : List ℕ) (rules others : Table) (policy other : Policy) (bs cs : List (Listed Label))
    → FaultListing ns rules policy bs
    → FaultListing ns others other cs
    → (bs ≡ cs)
    ↔ ((p : Packet) → InRange ns p → label rules policy p ≡ label others other p)
same_listing_iff_same_labels ns rules others policy other bs cs a b = same_listing_iff_agree good ns (label rules policy) (label others other) bs cs a b

-- and its bound, with the strips as a premise: fields cut at every end of a block, into no more strips than sets within their limits can make
pub fault_listing_few : (cs : List Cut) (rules : Table) (policy : Policy) (bs : List (Listed Label)) → T (cut_for cs rules policy) → length cs ≡ field_count
    → Every (λ n. n ≤ most_strips) (counts cs)
    → FaultListing (sizes cs) rules policy bs
    → length bs ≤ most_listed
fault_listing_few cs rules policy bs t so_many few a =
    fields_few same_label same_label_iff good cs (λ cell. label rules policy (corner cs cell)) (label rules policy) (label_by_cells cs rules policy t) bs so_many few a
