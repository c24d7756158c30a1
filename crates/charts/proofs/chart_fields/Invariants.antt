-- The invariant: the fields below `field` are charted. Assumes nothing.
use Rattle.meaning.specs.Fields.{fields}
use Rattle.charts.proofs.FieldWalk.{ChartedUpTo}
use Rattle.charts.proofs.chart_fields.Given as goal

abbrev pub invariant-loop-field : goal.invariant-loop-field
invariant-loop-field l =
    ChartedUpTo l.numbers l.blocks.rules l.blocks.directives l.blocks.exceptions fields l.field l.masks l.counts l.places
