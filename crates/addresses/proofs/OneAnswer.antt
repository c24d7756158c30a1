-- For each public call: its contract leaves one answer. Assumes nothing.
use Rattle.contracts.specs.Answers.{OneAnswer}
use Rattle.contracts.proofs.Answering.{one_answer}
use Rattle.addresses.proofs.address.Reads as address_call
use Rattle.addresses.proofs.quad.Reads as quad_call

pub quad_once : OneAnswer quad_call.Post
quad_once κs a r s after after' e f = one_answer _ r s e f

pub address_once : OneAnswer address_call.Post
address_once κs a r s after after' e f = one_answer _ r s e f
