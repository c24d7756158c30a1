-- For each public call: its contract leaves one answer. Assumes nothing.
use Rattle.contracts.specs.Answers.{OneAnswer}
use Rattle.contracts.proofs.Answering.{one_answer}
use Rattle.policy_text.proofs.read_policy.Reads as read_policy_call

pub read_policy_once : OneAnswer read_policy_call.Post
read_policy_once κs a r s after after' e f = one_answer _ r s e f
