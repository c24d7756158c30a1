-- For each public call: its contract leaves one answer. Assumes nothing.
use Rattle.contracts.specs.Answers.{OneAnswer, OneSlice}
use Rattle.contracts.proofs.Answering.{one_answer}
use Rattle.parts.proofs.count.Reads as count_call
use Rattle.parts.proofs.field.Reads as field_call
use Rattle.parts.proofs.part.Reads as part_call
use Rattle.parts.proofs.same.Reads as same_call

pub part_once : OneSlice part_call.Post
part_once κs a r s after after' e f = one_answer _ _ _ e f

pub field_once : OneSlice field_call.Post
field_once κs a r s after after' e f = one_answer _ _ _ e f

pub count_once : OneAnswer count_call.Post
count_once κs a r s after after' e f = one_answer _ r s e f

pub same_once : OneAnswer same_call.Post
same_once κs a r s after after' e f = one_answer _ r s e f
