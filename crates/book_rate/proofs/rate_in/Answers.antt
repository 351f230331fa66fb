-- The refusals in the order of the paper's table, and the replayed account where no test stops the call.
use Rattle.std.proofs.Common.{rules, arith, ◌≡◌, ap, ◌∙◌, ℕ, false, ◌&&◌, leb, ◌+◌}
use Rattle.std.proofs.lemmas.List.{set-set, set-get_or}
use Rattle.calendar.proofs.Callers.{count-date, day_tells, laws}
use Rattle.rates.proofs.Callers.{daily_tells, over_tells}
use Rattle.book_model.specs.Rate.{rated}
use Rattle.book_rate.proofs.Orders.{Dated, Placed, was, wrong_day, full, over, fits_after, stands_revised}
use Rattle.book_rate.proofs.rate_in.Goals as goal
use Rattle.book_rate.proofs.rate_in.Goals.{After-count_before-place, After-count_of-first}

dated : (c : After-count_of-first) → Dated c.args.book.now c.args.date c.args.annual c.in_ok-count.count c.count_of-first.result c.in_ok-daily.daily
dated c = record {
  sound = c.requires;
  is_open = c.if-not-book.false;
  told = day_tells c.args.date c.in_ok-count.count c.in_ok-count.ensures;
  first-is =
      c.count_of-first.ensures
      ∙ ap (λ (answer : ℕ × ℕ). answer.1) (count-date _ (c.requires.when_open c.if-not-book.false).first-date);
  rate = daily_tells c.args.annual c.in_ok-daily.daily c.in_ok-daily.ensures;
}

placed : (c : After-count_before-place) → Placed c.args.book.now c.args.date c.args.annual c.in_ok-count.count c.count_of-first.result c.in_ok-daily.daily c.count_before-place.result
placed c = record {
  dated = dated (goal.at.After-count_before-place c).After-count_of-first;
  within = search rules;
  place = c.count_before-place.ensures;
}

pub returns-in_err-daily : goal.returns-in_err-daily
unfolding rated
returns-in_err-daily c =
    let over = over_tells c.args.annual c.in_err-daily.ensures in
    let counted = day_tells c.args.date c.in_ok-count.count c.in_ok-count.ensures in
    search rules

pub overflow_add-first : goal.overflow_add-first
overflow_add-first c =
    let h = dated (goal.at.overflow_add-first c).After-count_of-first in
    omega (arith, h.first-is, laws.count-within c.args.book.now.first (was h).first-date, (was h).within-term, (was h).term-most)

pub returns-then-not-contains : goal.returns-then-not-contains
returns-then-not-contains c =
    let h = dated (goal.at.returns-then-not-contains c).After-count_of-first in
    let out : leb c.count_of-first.result c.in_ok-count.count && leb c.in_ok-count.count (c.count_of-first.result + c.args.book.now.today.0) ≡ false = search rules in
    wrong_day h out

pub returns-then-place-ge-RATES : goal.returns-then-place-ge-RATES
returns-then-place-ge-RATES c =
    full (placed (goal.at.returns-then-place-ge-RATES c).After-count_before-place) c.if-place-ge-RATES.true

pub returns-in-Err : goal.returns-in-Err
returns-in-Err c =
    let over = over (placed (goal.at.returns-in-Err c).After-count_before-place) c.if-place-ge-RATES.false _ c.replay.ensures _ c.in-Err.is in
    search (rules, set-set, set-get_or)

pub changes-answer-requires-clause-fits_after : goal.changes-answer-requires-clause-fits_after
changes-answer-requires-clause-fits_after c =
    fits_after (placed (goal.at.changes-answer-requires-clause-fits_after c).After-count_before-place) c.if-place-ge-RATES.false _ c.replay.ensures _ c.in-Ok.is

pub returns : goal.returns
returns c =
    rw c.changes-answer.ensures
    (stands_revised (placed (goal.at.returns c).After-count_before-place) c.if-place-ge-RATES.false _ c.replay.ensures _ c.in-Ok.is)
