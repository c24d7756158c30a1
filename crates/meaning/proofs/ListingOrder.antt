-- The blocks of a listing come in the order of their low corners. Assumes nothing.
use mathlib.Core.Path.{◌≡◌, refl, sym, subst}
use mathlib.Core.List.{List, [], ◌∷◌, ◌++◌, map}
use Prim.Native.Nat.{ℕ, suc, ◌≤◌}
use native.Mathlib.Omega.{arith}
use Rattle.meaning.specs.Fields.{Packet, Before, sooner, level}
use Rattle.meaning.specs.Listings.{Listed, Lister, at, widen, Runs, no_more, run, Last, is_good, at_fault, Listing, low_corner, InOrder, order_none, order_more}
use Rattle.meaning.specs.Records.{Every, every_none, every_more}
use Rattle.meaning.proofs.RecordsEvery.{every_append, every_map, every_of}

module _ {L : Type 0} where
  -- the first number of the block's low corner is at least `low`
  data StartsFrom (low : ℕ) (b : Listed L) : Type 0 where
    starts_from : (x : ℕ) (p : Packet) → low_corner b ≡ x ∷ p → low ≤ x → StartsFrom low b

  starts_later : {low next : ℕ} (b : Listed L) → low ≤ next → StartsFrom next b → StartsFrom low b
  starts_later b h (starts_from x p e l) = starts_from x p e (omega arith)

  runs_start : {ns : List ℕ} {Inner : Lister L} {n : ℕ} {f : Packet → L} {low : ℕ} {bs : List (Listed L)} → Runs ns Inner n f low bs
      → Every (StartsFrom low) bs
  runs_start (no_more a) = every_none
  runs_start (run {low} {high} {blocks} {later} a b c d i r) =
      every_append (every_map {P = λ x. Unit {0}} (widen low high) (λ x u. starts_from low (low_corner x) refl (omega arith)) (every_of (λ x. tt) blocks))
      (later_start later (runs_start r))
    where
      later_start : (cs : List (Listed L)) → Every (StartsFrom (suc high)) cs → Every (StartsFrom low) cs
      later_start [] every_none = every_none
      later_start (x ∷ cs) (every_more s v) = every_more (starts_later x (omega arith) s) (later_start cs v)

  order_append : {bs cs : List (Listed L)} → InOrder bs → Every (λ b. Every (λ c. Before (low_corner b) (low_corner c)) cs) bs → InOrder cs
      → InOrder (bs ++ cs)
  order_append order_none every_none w = w
  order_append (order_more a v) (every_more h e) w = order_more (every_append a h) (order_append v e w)

  order_widen : (low high : ℕ) {bs : List (Listed L)} → InOrder bs → InOrder (map (widen low high) bs)
  order_widen low high order_none = order_none
  order_widen low high (order_more {b} a v) = order_more (every_map (widen low high) (λ c l. level l) a) (order_widen low high v)

  -- a block that starts at `low` comes before one that starts past it
  before_later : (low high : ℕ) (b c : Listed L) → low ≤ high → StartsFrom (suc high) c → Before (low_corner (widen low high b)) (low_corner c)
  before_later low high b c h (starts_from x p e l) = subst (λ (q : Packet). Before (low ∷ low_corner b) q) (sym e) (sooner (omega arith))

  module _ (ns : List ℕ) (Inner : Lister L) (n : ℕ) (inner_order : (f : Packet → L) (bs : List (Listed L)) → Inner f bs → InOrder bs) where
    runs_order : {f : Packet → L} {low : ℕ} {bs : List (Listed L)} → Runs ns Inner n f low bs → InOrder bs
    runs_order (no_more a) = order_none
    runs_order {f} (run {low} {high} {blocks} {later} a b c d i r) =
        order_append (order_widen low high (inner_order (at f low) blocks i))
        (every_map {P = λ x. Unit {0}} (widen low high) (λ x u. all_later later x (runs_start r)) (every_of (λ x. tt) blocks))
        (runs_order r)
      where
        all_later : (cs : List (Listed L)) (x : Listed L) → Every (StartsFrom (suc high)) cs
            → Every (λ y. Before (low_corner (widen low high x)) (low_corner y)) cs
        all_later [] x every_none = every_none
        all_later (y ∷ cs) x (every_more s v) = every_more (before_later low high x y a s) (all_later cs x v)

  last_order : {good l : L} {bs : List (Listed L)} → Last good l bs → InOrder bs
  last_order (is_good g) = order_none
  last_order (at_fault h) = order_more every_none order_none

  pub listing_in_order : (good : L) (ns : List ℕ) (f : Packet → L) (bs : List (Listed L)) → Listing good ns f bs → InOrder bs
  listing_in_order good [] f bs a = last_order a
  listing_in_order good (n ∷ ns) f bs a = runs_order ns (Listing good ns) n (listing_in_order good ns) a
