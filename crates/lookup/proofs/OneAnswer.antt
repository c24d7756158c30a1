-- For each public call: its contract leaves one answer. Assumes nothing.
use Rattle.contracts.specs.Answers.{OneSlice}
use Rattle.contracts.proofs.Answering.{one_answer}
use Rattle.lookup.proofs.record_line.Reads as record_line_call

pub record_line_once : OneSlice record_line_call.Post
record_line_once κs a r s after after' e f = one_answer _ _ _ e f
