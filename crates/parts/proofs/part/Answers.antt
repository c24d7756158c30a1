use mathlib.Core.List.{List, []}
use mathlib.Core.Path.{◌≡◌, ap, sym, ◌∙◌}
use native.Mathlib.Omega.{arith}
use Prim.Native.Nat.{ℕ, suc, ◌+◌, ◌-◌}
use lib.ListN.{length, drop, get_or, take}
use Rattle.parts.specs.Parts.{Piece, parts, pieces_from, piece, shown}
use Rattle.parts.proofs.Parting.{pieces_next, pieces_last, piece_here}
use Rattle.parts.proofs.part.Goals as goal

pub loop-init : goal.loop-init
loop-init c =
    let args = c.args in
    let all : args.n ≡ args.n - 0 = omega arith in
    (omega arith, ap (piece args.separator args.text.now) all)

pub loop-preserved : goal.loop-preserved
loop-preserved c =
    let at = c.loop in
    let args = c.args in
    let text = args.text.now in
    let none : Piece = record { place = length text; bytes = [] } in
    let end = c.part_end-end.result in
    let is = c.part_end-end.ensures.1 in
    let fewer : args.n - at.counter ≡ suc (args.n - (at.counter + 1)) = omega arith in
    let counted = ap (λ (k : ℕ). get_or (pieces_from at.start (parts args.separator (drop at.start text))) k none) fewer in
    let next = pieces_next args.separator text at.start end is (omega arith) (omega arith) in
    (omega arith, at.invariant.1 ∙ counted ∙ ap (λ (ps : List Piece). get_or ps (suc (args.n - (at.counter + 1))) none) next)

pub returns-then-end-text : goal.returns-then-end-text
returns-then-end-text c =
    let at = c.loop in
    let args = c.args in
    let text = args.text.now in
    let none : Piece = record { place = length text; bytes = [] } in
    let end = c.part_end-end.result in
    let is = c.part_end-end.ensures.1 in
    let fewer : args.n - at.counter ≡ suc (args.n - (at.counter + 1)) = omega arith in
    let counted = ap (λ (k : ℕ). get_or (pieces_from at.start (parts args.separator (drop at.start text))) k none) fewer in
    let last = pieces_last args.separator text at.start end is (omega arith) (omega arith) in
    let past = ap (λ (ps : List Piece). get_or ps (suc (args.n - (at.counter + 1))) none) last in
    let nothing : end - end ≡ 0 = omega arith in
    ap (λ (m : ℕ). shown args.text (record { place = end; bytes = take m (drop end text) })) nothing
    ∙ ap (λ (m : ℕ). shown args.text (record { place = m; bytes = [] })) c.if-end-text.true
    ∙ ap (shown args.text) (sym (at.invariant.1 ∙ counted ∙ past))

pub returns : goal.returns
returns c =
    let at = c.loop in
    let args = c.args in
    let text = args.text.now in
    let none : Piece = record { place = length text; bytes = [] } in
    let end = c.part_end-end-2.result in
    let is = c.part_end-end-2.ensures.1 in
    let last : args.n - at.counter ≡ 0 = omega arith in
    let counted = ap (λ (k : ℕ). get_or (pieces_from at.start (parts args.separator (drop at.start text))) k none) last in
    ap (shown args.text) (sym (at.invariant.1 ∙ counted ∙ piece_here args.separator text at.start end is (omega arith) none))
