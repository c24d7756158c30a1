-- The numbers of the blocks, the front of the words, and behind it the charts of the fields. Assumes nothing.
use borrow.Author.Rules.{rules}
use lib.ListN.{take}
use lib.Seq.{length-take-le}
use Rattle.meaning.specs.Sizes.{all_masks, front_words}
use Rattle.charts.proofs.FieldWalk.{all_behind}
use Rattle.charts.proofs.Charts.fill.Goals as goal

pub returns : goal.returns
returns c =
    let blocks-put = c.put_blocks in
    let front-put = c.put_front in
    let fields-put = c.chart_fields in
    record {
      counted = blocks-put.ensures.blocks_counted;
      numbers = _;
      numbered = blocks-put.ensures.in_front;
      front = take front_words front-put.new.words;
      front_long = length-take-le front_words front-put.new.words (search rules);
      masks = fields-put.new.masks;
      words_are = all_behind front-put.new.words fields-put.new.masks front_words all_masks (search rules);
      words_of_front = front-put.ensures;
      each_field = fields-put.ensures;
    }
