-- "Protocol: `*`, `tcp` (6), `udp` (17), `icmp` (1), a number, or `low-high`. Port: `*`, a number, or `low-high`."
use Rattle.std.specs.Prelude.{cond, List, ℕ, Result, Ok}
use Rattle.parts.specs.Parts.{same}
use Rattle.parts.specs.Words.{bytes}
use Rattle.numbers.specs.Intervals.{span, interval_of}
use Rattle.blocks.specs.declared.Span.{Span}
use Rattle.numbers.specs.declared.Unfit.{Unfit}

-- a word stands alone
unfoldable pub protocol_of : List ℕ → Result Span Unfit
protocol_of s =
    cond (same s (bytes "tcp")) (Ok (span 6 6))
    (cond (same s (bytes "udp")) (Ok (span 17 17))
    (cond (same s (bytes "icmp")) (Ok (span 1 1))
    (interval_of 255 s)))

-- no word
unfoldable pub port_of : List ℕ → Result Span Unfit
port_of s = interval_of 65535 s
