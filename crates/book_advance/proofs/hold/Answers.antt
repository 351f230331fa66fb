-- No share and no unit-days are over their totals, so the sum fits 32 bits; and the next position gains its own.
use Rattle.std.proofs.Common.{arith, ◌+◌, ◌*◌, ◌≤◌, get_or}
use Rattle.book_model.specs.Book.{fresh}
use Rattle.book_advance.proofs.Held.{gain_most, gained}
use Rattle.book_advance.proofs.hold.Goals as goal
use Rattle.book_advance.proofs.hold.Goals.{In-loop-position}

most : (c : In-loop-position)
    → ((get_or c.loop-position.held c.loop-position.position-index (fresh 0 0)).share.0 ≤ 1000000)
    × ((get_or c.loop-position.held c.loop-position.position-index (fresh 0 0)).unit_days
    + (get_or c.loop-position.held c.loop-position.position-index (fresh 0 0)).share.0 * c.args.days.0 ≤ 184000000)
most c =
    gain_most c.args.days.0 c.args.held.now _ _ c.loop-position.invariant c.loop-position-test.true
    c.requires.unit_days_most c.requires.shares_most c.requires.days_most

pub overflow_cast-position : goal.overflow_cast-position
overflow_cast-position c = omega (arith, most (goal.at.overflow_cast-position c).In-loop-position)

pub overflow_mul-position : goal.overflow_mul-position
overflow_mul-position c = omega (arith, most (goal.at.overflow_mul-position c).In-loop-position)

pub overflow_add-position : goal.overflow_add-position
overflow_add-position c = omega (arith, most (goal.at.overflow_add-position c).In-loop-position)

pub loop-position-preserved : goal.loop-position-preserved
loop-position-preserved c =
    gained c.args.days.0 c.args.held.now _ _ c.loop-position.invariant c.loop-position-test.true
