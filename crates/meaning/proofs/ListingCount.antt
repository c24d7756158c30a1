-- How many blocks a listing can have: no more than cells, so no more than a power of the strips of a field. Assumes nothing.
use mathlib.Core.Path.{◌≡◌, ap}
use mathlib.Core.Logic.{◌↔◌}
use mathlib.Core.Bool.{Bool}
use mathlib.Core.List.{List, [], ◌∷◌, map}
use Prim.Native.Nat.{ℕ, ◌+◌, ◌*◌, ◌^◌, ◌≤◌}
use native.Mathlib.Omega.{arith}
use native.Mathlib.Nat.{suc-mul, zero-mul, mul_comm, mul-le-mul, mul-le-mul_right, pow-zero, pow-suc}
use lib.ListN.{length, length-append, length-map}
use lib.Dec.{T}
use Rattle.meaning.specs.Fields.{Packet}
use Rattle.meaning.specs.Listings.{Listed, Lister, at, Runs, no_more, run, Last, is_good, at_fault, Listing}
use Rattle.meaning.specs.Records.{Every, every_none, every_more}
use Rattle.meaning.specs.Sizes.{field_count, most_listed, most_strips}
use Rattle.meaning.specs.Strips.{Cut, strips, sizes, counts, ByCells, lift}
use Rattle.meaning.proofs.ListingExists.{listing_of, listing_computed}
use Rattle.meaning.proofs.StripListing.{listing_lifts}
use Rattle.meaning.proofs.ListingUnique.{agree_refl, listing_is_unique}

abbrev pub product : List ℕ → ℕ
product [] = 1
product (n ∷ ns) = n * product ns

module _ {L : Type 0} where
  module _ (ns : List ℕ) (Inner : Lister L) (n k : ℕ) (inner_few : (f : Packet → L) (bs : List (Listed L)) → Inner f bs → length bs ≤ k) where
    runs_few : {f : Packet → L} {low : ℕ} {bs : List (Listed L)} → low ≤ n → Runs ns Inner n f low bs → length bs + low * k ≤ n * k
    runs_few h (no_more b) = omega (arith, mul-le-mul_right k h)
    runs_few {f} h (run {low} {high} {blocks} {later} a b c d i r) =
        simp (length-append, length-map)
        (omega (arith, inner_few (at f low) blocks i, runs_few b r, suc-mul low k, suc-mul high k, mul-le-mul_right k a))

  last_few : {good l : L} {bs : List (Listed L)} → Last good l bs → length bs ≤ 1
  last_few (is_good a) = omega arith
  last_few (at_fault a) = omega arith

  pub listing_few : (good : L) (ns : List ℕ) (f : Packet → L) (bs : List (Listed L)) → Listing good ns f bs → length bs ≤ product ns
  listing_few good [] f bs a = last_few a
  listing_few good (n ∷ ns) f bs a =
      omega (arith, runs_few ns (Listing good ns) n (product ns) (listing_few good ns) (omega arith) a, zero-mul (product ns))

-- numbers that are at most m
pub power : (m : ℕ) {ns : List ℕ} → Every (λ n. n ≤ m) ns → product ns ≤ m ^ length ns
power m every_none = omega (arith, pow-zero m)
power m (every_more {x = n} {xs = ns} h e) = omega (arith, mul-le-mul h (power m e), pow-suc m (length ns), mul_comm m (m ^ length ns))

-- Labels constant on strips: no more blocks than cells, so no more than m to the power of the number of fields, where no field
-- has more than m strips.
module _
    {L : Type 0}
    (same : L → L → Bool)
    (same_iff : (a b : L) → T (same a b) ↔ (a ≡ b))
    (good : L)
    (cs : List Cut)
    (h f : Packet → L)
    (hf : ByCells cs h f)
  where
    pub listing_few_by_cells : (bs : List (Listed L)) → Listing good (sizes cs) f bs → length bs ≤ product (counts cs)
    listing_few_by_cells bs a =
        let cells = listing_computed same same_iff good (counts cs) h in
        let e : bs ≡ map (lift cs) (listing_of same same_iff good (counts cs) h) =
        listing_is_unique good (sizes cs) f f bs (map (lift cs) (listing_of same same_iff good (counts cs) h)) a (listing_lifts good cs h f (listing_of same same_iff good (counts cs) h) hf cells) (agree_refl f) in
        rw e (simp length-map (listing_few good (counts cs) h (listing_of same same_iff good (counts cs) h) cells))

    pub listing_within_limits : (m : ℕ) (bs : List (Listed L)) → Every (λ n. n ≤ m) (counts cs) → Listing good (sizes cs) f bs
        → length bs ≤ m ^ length cs
    listing_within_limits m bs e a = omega (arith, listing_few_by_cells bs a, power m e, ap (λ (k : ℕ). m ^ k) (length-map cs strips))

    -- The fields of document 01, and sets within their limits.
    pub fields_few : (bs : List (Listed L)) → length cs ≡ field_count → Every (λ n. n ≤ most_strips) (counts cs) → Listing good (sizes cs) f bs
        → length bs ≤ most_listed
    fields_few bs so_many e a = omega (arith, listing_within_limits most_strips bs e a, ap (λ (k : ℕ). most_strips ^ k) so_many)
