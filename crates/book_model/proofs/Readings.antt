-- A holder's position is the one at its place; today of an open book is a date, and what its totals are.
use Rattle.std.proofs.Common.{ℕ, ◌+◌, ◌≤◌, ◌<◌, arith, ◌≡◌, refl, ap, true, false, not, get_or}
use Rattle.calendar.proofs.Callers.{laws}
use Rattle.general_laws.proofs.Choice.{by_order}
use Rattle.calendar.specs.Calendar.{after, day_count, days_of_years}
use Rattle.book_model.specs.declared.Book.{Book}
use Rattle.book_model.specs.declared.Totals.{Totals}
use Rattle.book_model.specs.Book.{held}
use Rattle.book_model.specs.Positions.{is_holder, place, present}
use Rattle.book_model.specs.Outcome.{answered, no_position}
use Rattle.book_model.specs.Read.{totals_of, position_of}
use Rattle.book_model.specs.Invariant.{OpenSound}

last_opening_count : day_count 20991231 ≡ 36524
unfolding day_count days_of_years
last_opening_count = refl

-- 6,000 days after the last day on which a right can begin there are still dates
pub today-counted : (b : Book) → OpenSound b → day_count b.first + b.today.0 < 73049
today-counted b s =
    let early : day_count b.first ≤ 36524 =
    by_order b.first 20991231
    (λ lt. omega (arith, laws.count-grows b.first 20991231 s.first-date refl lt, last_opening_count))
    (λ ge. let e : b.first ≡ 20991231 = omega (arith, s.first-early) in omega (arith, ap day_count e, last_opening_count)) in
    omega (arith, s.within-term, s.term-most)

pub totals_open : (b : Book) → not b.opened ≡ false → (date : ℕ) → date ≡ after b.first b.today.0
    → answered {A = Totals} (record { today = date; account = b.account }) ≡ totals_of b
unfolding totals_of
totals_open b is_open date e = rw (is_open, e)

-- No other proof cites it: it says which position is read, so that a definition of `position_of` that reads another is refused.
pub position_there : (b : Book) (h : ℕ) → not b.opened ≡ false → not (is_holder h) ≡ false → present h (held b) ≡ true
    → answered (get_or (held b) (place h (held b)) no_position) ≡ position_of b h
unfolding position_of
position_there b h is_open right there = rw (is_open, right, there)
