-- The mask of the exceptions within their count. Assumes nothing.
use borrow.Author.Rules.{rules}
use lib.Dec.{eqb}
use Rattle.meaning.specs.Form.{Exception}
use Rattle.sets.specs.Vocabulary.{exception_of}
use Rattle.front.proofs.MaskWithin.{mask_within}
use Rattle.front.proofs.exceptions_of.Goals as goal

pub returns : goal.returns
returns c =
    let policy = c.args.policy in
    let number = c.args.number in
    mask_within exception_of (λ (e : Exception). eqb e.directive number) policy.exceptions policy.exception_count
    (c.mask.ensures (λ e. eqb e.directive number) (λ e b gave. search rules))
