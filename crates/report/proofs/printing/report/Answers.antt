-- What was put into the buffer's first bytes.
use Rattle.std.specs.Array.{IsFirstChunk}
use Rattle.report.proofs.StatementPut.{report_put}
use Rattle.report.proofs.printing.report.Goals as goal

pub returns : goal.returns
returns c =
    let first : IsFirstChunk c.args.out.now c.in_ok-front.front.now 3089 =
    rw (c.ok_or.ensures.ok_part, c.in_ok-front.was) at c.first_chunk_mut.ensures.cases in
    report_put _ _ _ _ _ first c.put_report.ensures
