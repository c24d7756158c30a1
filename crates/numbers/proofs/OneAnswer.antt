-- For each public call: its contract leaves one answer. Assumes nothing.
use Rattle.contracts.specs.Answers.{OneAnswer}
use Rattle.contracts.proofs.Answering.{one_answer}
use Rattle.numbers.proofs.decimal.Reads as decimal_call
use Rattle.numbers.proofs.decimal_part.Reads as decimal_part_call
use Rattle.numbers.proofs.interval.Reads as interval_call
use Rattle.numbers.proofs.is_star.Reads as is_star_call
use Rattle.numbers.proofs.range.Reads as range_call
use Rattle.numbers.proofs.single.Reads as single_call

pub decimal_once : OneAnswer decimal_call.Post
decimal_once κs a r s after after' e f = one_answer _ r s e f

pub decimal_part_once : OneAnswer decimal_part_call.Post
decimal_part_once κs a r s after after' e f = one_answer _ r s e f

pub single_once : OneAnswer single_call.Post
single_once κs a r s after after' e f = one_answer _ r s e f

pub range_once : OneAnswer range_call.Post
range_once κs a r s after after' e f = one_answer _ r s e f

pub is_star_once : OneAnswer is_star_call.Post
is_star_once κs a r s after after' e f = one_answer _ r s e f

pub interval_once : OneAnswer interval_call.Post
interval_once κs a r s after after' e f = one_answer _ r s e f
