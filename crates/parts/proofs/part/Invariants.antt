-- The invariant: the part wanted is the one that many parts after the one at start. Assumes nothing.
use mathlib.Core.List.{[]}
use mathlib.Core.Path.{◌≡◌}
use Prim.Native.Nat.{◌-◌, ◌≤◌}
use lib.ListN.{length, drop, get_or}
use Rattle.parts.specs.Parts.{parts, pieces_from, piece}
use Rattle.parts.proofs.part.Given as goal

abbrev pub invariant-loop : goal.invariant-loop
invariant-loop l =
    (l.start ≤ length l.text)
    × (piece l.separator l.text l.n ≡ get_or (pieces_from l.start (parts l.separator (drop l.start l.text))) (l.n - l.counter) (record { place = length l.text; bytes = [] }))
