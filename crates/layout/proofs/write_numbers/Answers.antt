use Rattle.layout.proofs.Storing.{laid_over}
use Rattle.layout.proofs.write_numbers.Goals as goal

pub returns : goal.returns
returns c = laid_over _ _ _ _ c.requires c.copy_from_slice.ensures.after
