-- The records are folded from the last to the first. Assumes nothing.
use denote.Ref.{Bor}
use mathlib.Core.Bool.{Bool}
use mathlib.Core.Path.{◌≡◌, refl, ◌∙◌}
use Rattle.std.proofs.Common.{rules, arith}
use Rattle.std.proofs.lemmas.Fn.{says_at}
use Rattle.std.proofs.lemmas.Iterator.Consumers.{fold_from_yields_List}
use Rattle.std.proofs.lemmas.Iterator.Adapters.{YieldsList-from_rev_slice}
use Rattle.layout.proofs.Folding.{digit_more, mask_folded}
use Rattle.front.proofs.mask.Goals as goal

pub returns : goal.returns
returns g c = λ passes gives.
    let records = c.args.records.now in
    let gave : (y : Bor g.row.T.Denot) (b : Bool) → g.F.Fn.post c.args.test (y, tt) b → b ≡ passes y.now =
    λ y b post. gives y.now b (says_at g.F.Fn post refl) in
    fold_from_yields_List _ (digit_more passes) 0 _ c.fold.ensures.ran (YieldsList-from_rev_slice records cc)
    (λ m x d q called. (search rules, grind (arith, gave)))
    ∙ mask_folded passes records c.requires.few
