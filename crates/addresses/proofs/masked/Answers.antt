-- Ones and trailing zeros make up 32 digits exactly if the mask is ones and then zeros. Assumes nothing.
use mathlib.Core.Path.{sym, ap, ◌∙◌}
use borrow.Author.Tests.{eq-eqb, ne_eqb}
use lib.Count.{ones_in}
use Rattle.addresses.specs.Addresses.{prefix_of, mask_of, masked_by}
use Rattle.addresses.proofs.Masks.{ones_in_lem, mask_yes, mask_no}
use Rattle.addresses.proofs.masked.Goals as goal

pub returns-then-length-mask-ne32 : goal.returns-then-length-mask-ne32
unfolding masked_by
returns-then-length-mask-ne32 c = simp (ne_eqb c.args.mask (mask_of (ones_in 32 c.args.mask)) (mask_no c.args.mask c.if-length-mask-ne32.true))

pub returns : goal.returns
unfolding masked_by
returns c =
    let mask = c.args.mask in
    simp (eq-eqb mask _ (mask_yes mask c.ranges.mask.fits c.if-length-mask-ne32.false))
    (c.prefix.ensures ∙ ap (prefix_of c.args.address) (sym (ones_in_lem 32 mask c.ranges.mask.fits)))
