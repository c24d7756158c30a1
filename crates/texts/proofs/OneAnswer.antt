-- For each public call: its contract leaves one answer, and of the lent place one content. Assumes nothing.
use mathlib.Core.Path.{ap, sym, ◌∙◌}
use Rattle.contracts.specs.Answers.{OneAnswer, OneOutcome}
use Rattle.contracts.proofs.Answering.{one_answer}
use Rattle.texts.proofs.refuse_text.Reads as refuse_text_call
use Rattle.texts.proofs.read_text.Reads as read_text_call

pub refuse_text_once : OneAnswer refuse_text_call.Post
refuse_text_once κs a r s after after' e f = one_answer _ r s e f

-- whatever is read line by line
module _ (R : _) (laws : _) (ghosts : _) (dict : _) (drops : _) where
  pub read_text_once : OneOutcome (λ after. after.1.0.now) (read_text_call.Post R laws ghosts dict drops)
  read_text_once κs a r s after after' e f = let same = e ∙ sym f in (ap (λ x. x.1) same, ap (λ x. x.0) same)
