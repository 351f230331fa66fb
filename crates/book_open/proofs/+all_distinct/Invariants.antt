-- Each call goes on with one holder less.
use Rattle.std.proofs.Common.{length}
use Rattle.book_open.proofs.+all_distinct.Given as goal

abbrev pub decreases-all_distinct : goal.decreases-all_distinct
decreases-all_distinct l =
    length l.holders.now
