-- The first separator from start on ends the first part there; where there is none, the text does. Assumes nothing.
use mathlib.Core.List.{List}
use mathlib.Core.Path.{◌≡◌, ap, sym, ◌∙◌}
use native.Mathlib.Omega.{arith}
use Prim.Native.Nat.{ℕ, ◌+◌, ◌-◌}
use lib.Dec.{eqb}
use lib.ListN.{length, take, drop, length-drop}
use lib.Seq.{take_all}
use Rattle.std.specs.Prelude.{Option, Some, None, unwrap_or}
use Rattle.std.specs.List.{position}
use Rattle.parts.specs.Parts.{part}
use Rattle.parts.proofs.Parting.{first_ends, part_fits}
use Rattle.parts.proofs.part_end.Goals as goal

-- what stands before the first separator from place a on, by what was found there
found : (sep : ℕ) (l : List ℕ) (a : ℕ) (o : Option ℕ) → o ≡ position (λ x. eqb x sep) (take (length l - a) (drop a l))
    → unwrap_or o (length l - a) ≡ length (part sep (drop a l) 0)
found sep l a o e =
    let rest = take_all (length l - a) (drop a l) (omega (arith, length-drop a l)) in
    ap (λ (p : Option ℕ). unwrap_or p (length l - a)) (e ∙ ap (λ (xs : List ℕ). position (λ x. eqb x sep) xs) rest)
    ∙ ap (λ (n : ℕ). unwrap_or (position (λ x. eqb x sep) (drop a l)) n) (sym (length-drop a l))
    ∙ first_ends sep (drop a l)

pub returns-in-Some : goal.returns-in-Some
returns-in-Some c =
    let is = found c.args.separator c.args.text.now c.args.start (Some c.in-Some.length) c.in-Some.ensures in
    let ends = ap (λ (n : ℕ). c.args.start + n) is in
    (part_fits c.args.separator c.args.text.now c.args.start _ ends c.requires, ends)

pub returns-in-None : goal.returns-in-None
returns-in-None c =
    let is = found c.args.separator c.args.text.now c.args.start None c.in-None.ensures in
    omega arith
