-- Three runs of stores, one behind the other. Assumes nothing.
use borrow.Author.Rules.{rules}
use Rattle.meaning.specs.Form.{Exception}
use Rattle.meaning.specs.Rules.{Rule}
use Rattle.sets.specs.Vocabulary.{rule_of, directive_of, exception_of}
use Rattle.sets.proofs.Walks.{length_of_map}
use Rattle.bounds.proofs.Counted.{Full, rule_blocks_counted, directive_blocks_counted, exception_blocks_counted, all_in_front}
use Rattle.bounds.proofs.Storing.{put_within}
use Rattle.bounds.proofs.put_blocks.Goals as goal

pub returns : goal.returns
returns c =
    let args = c.args in
    let limited = c.requires.limited in
    let full : Full args.rules args.policy = search (rules, length_of_map) in
    let rules_put = c.put_records.ensures (λ r. r.block) (λ x b gave. search rules) in
    let directives_put = c.put_records-2.ensures (λ d. d.block) (λ x b gave. search rules) in
    let exceptions_put = c.put_records-3.ensures (λ e. e.block) (λ x b gave. search rules) in
    record {
      blocks_counted =
          record {
            rules = rule_blocks_counted limited full;
            directives = directive_blocks_counted limited full;
            exceptions = exception_blocks_counted limited full;
          };
      in_front =
          all_in_front limited full _ _ _ _ c.requires.numbers_len
          (put_within rule_of (λ (r : Rule). r.block) args.rules.records args.rules.count _ _ rules_put)
          (put_within directive_of (λ (d : Rule). d.block) args.policy.directives args.policy.directive_count _ _ directives_put)
          (put_within exception_of (λ (e : Exception). e.block) args.policy.exceptions args.policy.exception_count _ _ exceptions_put);
    }
