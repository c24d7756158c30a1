use Rattle.std.proofs.Common.{rules}
use mathlib.Core.Path.{◌≡◌, sym, subst, ◌∙◌}
use native.Mathlib.Omega.{arith}
use Rattle.std.specs.Prelude.{Err}
use Rattle.texts.specs.Texts.{all_read, read_before}
use Rattle.texts.proofs.Reading.{Reading, begun, finished, line_went, line_stopped}
use Rattle.texts.proofs.read_lines.Goals as goal

pub loop-cursor-init : goal.loop-cursor-init
loop-cursor-init g c =
    let m = g.R.LineByLine in
    let text = c.args.text.now in (
      subst (Reading m.said all_read read_before m.none text 0 1) (sym c.requires.nothing) (begun m.said all_read read_before m.none text),
      c.requires.kept,
    )

pub read_line-requires : goal.read_line-requires
read_line-requires g c = c.loop-cursor.invariant.1

pub loop-cursor-preserved : goal.loop-cursor-preserved
loop-cursor-preserved g c =
    let m = g.R.LineByLine in
    let at = c.loop-cursor in
    let line = c.line_at-found in
    let read = c.read_line in (
      line_went m.said g.met.R.LineByLine.says_nothing m.none c.args.text at.cursor at.read at.invariant.0 (omega arith) (omega arith)
          line.result line.ensures read.result read.ensures.told c.in_ok-read_line.was
          read.new.self read.ensures.read c.behind-cursor.result c.behind-cursor.ensures,
      read.ensures.kept,
    )

pub returns-in_err-read_line : goal.returns-in_err-read_line
returns-in_err-read_line g c =
    let m = g.R.LineByLine in
    let at = c.loop-cursor in
    let line = c.line_at-found in
    let read = c.read_line in
    let stop = line_stopped m.said g.met.R.LineByLine.says_nothing m.none c.args.text at.cursor at.read at.invariant.0 (omega arith) (omega arith)
    line.result line.ensures read.result read.ensures.told c.in_err-read_line.field-0.0 c.in_err-read_line.was read.new.self read.ensures.read in
    let told : c.from_residual.result ≡ Err c.in_err-read_line.field-0.0 = search rules in
    (λ i. (read.new.self, told i)) ∙ sym stop

pub returns : goal.returns
returns g c =
    let m = g.R.LineByLine in
    let at = c.loop-cursor in
    let nothing = g.met.R.LineByLine.says_nothing in
    sym (finished m.said all_read read_before nothing m.none c.args.text.now at.cursor.at at.cursor.line at.read at.invariant.0 (omega arith))
