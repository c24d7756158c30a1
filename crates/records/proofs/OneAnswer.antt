-- For each public call: its contract leaves one answer. Assumes nothing.
use Rattle.contracts.specs.Answers.{OneAnswer}
use Rattle.contracts.proofs.Answering.{one_answer}
use Rattle.records.proofs.FieldRefusal.at_line.Reads as at_line_call
use Rattle.records.proofs.FieldRefusal.of_line.Reads as of_line_call
use Rattle.records.proofs.is_named.Reads as is_named_call
use Rattle.records.proofs.is_skipped.Reads as is_skipped_call
use Rattle.records.proofs.read_action.Reads as read_action_call
use Rattle.records.proofs.read_block.Reads as read_block_call
use Rattle.records.proofs.read_record.Reads as read_record_call

pub is_skipped_once : OneAnswer is_skipped_call.Post
is_skipped_once κs a r s after after' e f = one_answer _ r s e f

pub is_named_once : OneAnswer is_named_call.Post
is_named_once κs a r s after after' e f = one_answer _ r s e f

pub read_action_once : OneAnswer read_action_call.Post
read_action_once κs a r s after after' e f = one_answer _ r s e f

pub read_block_once : OneAnswer read_block_call.Post
read_block_once κs a r s after after' e f = one_answer _ r s e f

pub read_record_once : OneAnswer read_record_call.Post
read_record_once κs a r s after after' e f = one_answer _ r s e f

pub fieldrefusal_of_line_once : OneAnswer of_line_call.Post
fieldrefusal_of_line_once κs a r s after after' e f = one_answer _ r s e f

pub fieldrefusal_at_line_once : OneAnswer at_line_call.Post
fieldrefusal_at_line_once κs a r s after after' e f = one_answer _ r s e f
