-- For each public call: its contract leaves one answer. Assumes nothing.
use Rattle.contracts.specs.Answers.{OneAnswer}
use Rattle.contracts.proofs.Answering.{one_answer}
use Rattle.rule_text.proofs.read_rules.Reads as read_rules_call

pub read_rules_once : OneAnswer read_rules_call.Post
read_rules_once κs a r s after after' e f = one_answer _ r s e f
