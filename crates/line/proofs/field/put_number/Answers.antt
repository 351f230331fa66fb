-- The tests say whether the columns are there.
use Rattle.std.proofs.Common.{arith, sym, ◌+◌, ◌-◌}
use Rattle.line.proofs.NumberPut.{put_beyond, put_stored}
use Rattle.line.proofs.field.put_number.Goals as goal

pub returns-then-buf-at : goal.returns-then-buf-at
returns-then-buf-at c =
    let p = c.args in
    sym (put_beyond p.buf.now p.at p.width p.n (omega arith))

pub returns-then-buf-at-2 : goal.returns-then-buf-at-2
returns-then-buf-at-2 c =
    let p = c.args in
    sym (put_beyond p.buf.now p.at p.width p.n (omega arith))

pub returns : goal.returns
returns c =
    let p = c.args in
    put_stored p.buf.now p.at p.width p.n (p.at + p.width - p.at) c.write_number.new.columns (omega arith) (omega arith) c.write_number.ensures
