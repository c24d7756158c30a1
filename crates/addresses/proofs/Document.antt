-- Document 01's examples of addresses, computed. Assumes nothing.
use mathlib.Core.List.{[], ◌∷◌, map}
use mathlib.Core.Path.{◌≡◌, refl}
use Prim.Native.String.{String}
use lib.Count.{ones_in}
use Rattle.parts.specs.Words.{bytes}
use Rattle.numbers.specs.Decimals.{decimal_of}
use Rattle.numbers.specs.Intervals.{span}
use Rattle.numbers.specs.declared.Unfit.TheVariants.{Unread, NoSpan}
use Rattle.std.specs.Prelude.{Ok, Err}
use Rattle.addresses.specs.Addresses.{quad_of, prefix_of, masked_by, sized_by, address_of}

-- "On each side", and what reads or not in each form
pub document_addresses : map (λ (s : String). address_of (bytes s))
    ("10.20.0.0/24" ∷ "10.20.0.1/24" ∷ "10.20.0.0/32" ∷ "10.20.0.0/33" ∷ "0.0.0.0/0.0.0.0" ∷ "*" ∷ "10.0.0.0/255.0.255.0"
    ∷ "255.0.0.0" ∷ "256.0.0.0" ∷ "010.0.0.0" ∷ "10.0.0.9/255.255.255.255" ∷ "10.0.0.0/08" ∷ "10.0.0.1/33" ∷ "*/0"
    ∷ "1.0.0.0-2.0.0.0" ∷ "2.0.0.0-1.0.0.0" ∷ "256.0.0.0-1.0.0.0" ∷ "2.0.0.0-1.0.0.0/8" ∷ "1.2.3" ∷ "1.2.3.4.5" ∷ "" ∷ [])
    ≡ (Ok (span 169082880 169083135) ∷ Err NoSpan ∷ Ok (span 169082880 169082880) ∷ Err Unread ∷ Ok (span 0 4294967295) ∷ Ok (span 0 4294967295) ∷ Err NoSpan
    ∷ Ok (span 4278190080 4278190080) ∷ Err Unread ∷ Err Unread ∷ Ok (span 167772169 167772169) ∷ Err Unread ∷ Err Unread ∷ Err Unread
    ∷ Ok (span 16777216 33554432) ∷ Err NoSpan ∷ Err Unread ∷ Err Unread ∷ Err Unread ∷ Err Unread ∷ Err Unread ∷ [])
unfolding address_of sized_by masked_by prefix_of quad_of decimal_of ones_in
document_addresses = refl
