-- Field 0 is the empty part at the line's end; any other is the part before it by number. Assumes nothing.
use mathlib.Core.Path.{◌≡◌, ap}
use native.Mathlib.Omega.{arith}
use Prim.Native.Nat.{ℕ, ◌-◌}
use borrow.Author.Tests.{eq-eqb, ne_eqb}
use lib.ListN.{length, take, drop}
use Rattle.parts.specs.Parts.{shown}
use Rattle.parts.proofs.field.Goals as goal

pub returns-then-n-eq0 : goal.returns-then-n-eq0
returns-then-n-eq0 c =
    let line = c.args.line.now in
    let nothing : length line - length line ≡ 0 = omega arith in
    simp (eq-eqb c.args.n 0 c.if-n-eq0.true)
    (ap (λ (m : ℕ). shown c.args.line (record { place = length line; bytes = take m (drop (length line) line) })) nothing)

pub returns : goal.returns
returns c = simp (ne_eqb c.args.n 0 c.if-n-eq0.false) c.part.ensures
