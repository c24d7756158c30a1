use native.Mathlib.Omega.{arith}
use Prim.Native.Nat.{◌+◌}
use Rattle.records.proofs.Fieldwise.{has_read, read_none, read_more, read_stop, read_all}
use Rattle.records.proofs.read_block.Goals as goal

pub loop-i-init : goal.loop-i-init
loop-i-init c = read_none c.args.line.now c.args.k

pub returns-in-Err : goal.returns-in-Err
returns-in-Err c =
    let at = c.loop-i in
    let a = c.args in
    let is = c.in-Err.is in
    let shown = rw c.from-first.ensures at c.field.ensures in
    let said = has_read a.line c.field.result at.i (a.k + at.i) _ _ shown c.read_field.ensures is in
    rw c.from-first.ensures (read_stop a.line.now a.k at.i at.bounds at.invariant _ (omega arith) said)

pub loop-i-preserved : goal.loop-i-preserved
loop-i-preserved c =
    let at = c.loop-i in
    let a = c.args in
    let is = c.in-Ok.is in
    let shown = rw c.from-first.ensures at c.field.ensures in
    let said = has_read a.line c.field.result at.i (a.k + at.i) _ _ shown c.read_field.ensures is in
    read_more a.line.now a.k at.i at.bounds at.invariant _ (omega arith) said

pub returns : goal.returns
returns c =
    let at = c.loop-i in
    let a = c.args in
    read_all a.line.now a.k at.i at.bounds at.invariant _ (omega arith) c.from.ensures
