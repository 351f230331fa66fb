-- The readers (document 01): "Reading a position (by holder: share, unit-days, received) or the totals (the B fields below) changes nothing;
-- an unknown holder is refused with 10."
use Rattle.std.specs.Prelude.{ℕ, cond, not, ◌||◌, leb, get_or}
use Rattle.calendar.specs.Calendar.{after}
use Rattle.book_model.specs.declared.Book.{Book}
use Rattle.book_model.specs.declared.Position.{Position}
use Rattle.book_model.specs.declared.Refusal.TheVariants as refusal
use Rattle.book_model.specs.declared.Placed.{Placed}
use Rattle.book_model.specs.declared.Totals.{Totals}
use Rattle.book_model.specs.Book.{held}
use Rattle.book_model.specs.Outcome.{Answer, no_position, not_placed, no_totals, answered, declined}
use Rattle.book_model.specs.Positions.{is_holder, place, present}

unfoldable pub position_of : Book → ℕ → Answer Position
position_of b h =
    cond (not b.opened) (declined no_position refusal.Unopened)
    (cond (not (is_holder h) || not (present h (held b))) (declined no_position refusal.Holder)
    (answered (get_or (held b) (place h (held b)) no_position)))

-- the position at a place in book order, counted from 0, with the count of positions
unfoldable pub position_at : Book → ℕ → Answer Placed
position_at b k =
    cond (not b.opened) (declined not_placed refusal.Unopened)
    (cond (leb b.count k) (declined not_placed refusal.Holder)
    (answered (record { count = b.count; position = get_or (held b) k no_position })))

-- today is a date
unfoldable pub totals_of : Book → Answer Totals
totals_of b =
    cond (not b.opened) (declined no_totals refusal.Unopened)
    (answered (record { today = after b.first b.today.0; account = b.account }))
