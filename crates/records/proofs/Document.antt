-- Document 01's examples of protocols and ports, computed. Assumes nothing.
use mathlib.Core.List.{[], ◌∷◌, map}
use mathlib.Core.Path.{◌≡◌, refl}
use Prim.Native.String.{String}
use Rattle.parts.specs.Words.{bytes}
use Rattle.numbers.specs.Decimals.{decimal_of}
use Rattle.numbers.specs.Intervals.{span, interval_of}
use Rattle.std.specs.Prelude.{Ok, Err}
use Rattle.numbers.specs.declared.Unfit.TheVariants.{Unread, NoSpan}
use Rattle.records.specs.Services.{protocol_of, port_of}

pub document_protocols : map (λ (s : String). protocol_of (bytes s))
    ("255" ∷ "256" ∷ "tcp" ∷ "udp" ∷ "icmp" ∷ "*" ∷ "6-17" ∷ "6-5" ∷ "300-5" ∷ "tcp-udp" ∷ "TCP" ∷ "06" ∷ "" ∷ [])
    ≡ (Ok (span 255 255) ∷ Err Unread ∷ Ok (span 6 6) ∷ Ok (span 17 17) ∷ Ok (span 1 1) ∷ Ok (span 0 255)
    ∷ Ok (span 6 17) ∷ Err NoSpan ∷ Err Unread ∷ Err Unread ∷ Err Unread ∷ Err Unread ∷ Err Unread ∷ [])
unfolding protocol_of interval_of decimal_of
document_protocols = refl

pub document_ports : map (λ (s : String). port_of (bytes s)) ("65535" ∷ "65536" ∷ "5-5" ∷ "6-5" ∷ "70000-5" ∷ "*" ∷ "18446744073709551696" ∷ "0" ∷ "00" ∷ [])
    ≡ (Ok (span 65535 65535) ∷ Err Unread ∷ Ok (span 5 5) ∷ Err NoSpan ∷ Err Unread ∷ Ok (span 0 65535) ∷ Err Unread ∷ Ok (span 0 0) ∷ Err Unread ∷ [])
unfolding port_of interval_of decimal_of
document_ports = refl
