-- For each public call: its contract leaves one place, and of the lent buffer one content. Assumes nothing.
use Rattle.contracts.specs.Answers.{OneOutcome}
use mathlib.Core.Path.{refl}
use Rattle.putting.proofs.OneAnswer.{left, one_put_on}
use Rattle.printing.proofs.put_block.Reads as put_block_call
use Rattle.printing.proofs.put_refused.Reads as Put_refused_call
use Rattle.printing.proofs.put_total.Reads as put_total_call
use Rattle.printing.proofs.put_unreadable.Reads as put_unreadable_call
use Rattle.printing.proofs.put_verdict.Reads as put_verdict_call

pub put_verdict_once : OneOutcome (λ after. left after.0.now) (put_verdict_call.Post)
put_verdict_once κs a r s after after' p q = (refl, one_put_on p q)

pub put_total_once : OneOutcome (λ after. left after.0.now) (put_total_call.Post)
put_total_once κs a r s after after' p q = (refl, one_put_on p q)

pub put_block_once : OneOutcome (λ after. left after.0.now) (put_block_call.Post)
put_block_once κs a r s after after' p q = (refl, one_put_on p q)

pub put_refused_once : OneOutcome (λ after. left after.0.now) (Put_refused_call.Post)
put_refused_once κs a r s after after' p q = (refl, one_put_on p q)

pub put_unreadable_once : OneOutcome (λ after. left after.0.now) (put_unreadable_call.Post)
put_unreadable_once κs a r s after after' p q = (refl, one_put_on p q)
