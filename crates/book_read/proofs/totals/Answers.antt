-- Today is a date, as a right begins by 20991231 and has 6,000 days at most.
use Rattle.std.proofs.Common.{◌∙◌, ap, not}
use Rattle.calendar.proofs.Callers.{sum_value}
use Rattle.book_model.proofs.Callers.{is_sound, totals_open, today-counted}
use Rattle.book_read.proofs.totals.Goals as goal

pub returns : goal.returns
returns c =
    let b = c.args.book.now.book in
    let right = (is_sound c.args.book.now.reached).when_open c.if-not-book.false in
    totals_open b (ap not c.if-not-book.false) c.unwrap_or-today.result
    (c.unwrap_or-today.ensures
    ∙ sum_value b.first b.today.0 c.plus_days.result c.plus_days.ensures right.first-date (today-counted b right))
