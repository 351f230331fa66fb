-- Advance keeps a book sound.
use Rattle.std.proofs.Common.{ℕ, ◌+◌, ◌≤◌, arith, ◌≡◌, ◌∙◌, true, map, length, length-append, length-drop}
use Rattle.std.proofs.lemmas.List.{length-map}
use Rattle.book_model.specs.declared.Book.{Book}
use Rattle.book_model.specs.Advance.{last_settled, days_passed, advanced}
use Rattle.book_model.specs.Book.{held, rates_of, settlements_of, with_held, with_account, with_today}
use Rattle.book_model.specs.Schedule.{daily_on}
use Rattle.book_model.specs.Invariant.{Sound, OpenSound}
use Rattle.book_model.specs.Closed.{days_held}
use Rattle.book_model.proofs.Accepted.{days_to, advance_cases}
use Rattle.book_model.proofs.RatesInForce.{daily-most}
use Rattle.account.proofs.Callers.{bounded-elapsed, elapsed-outstanding, elapsed_principal_paid, last_within, timely-later}
use Rattle.book_model.proofs.ChangedBook.{Roomy, length-held, held-with_held}
use Rattle.book_model.proofs.DaysHeld.{holders-days, shares-days, receipts-days, unit_days_grown}
use Rattle.book_model.proofs.DaysPassed.{passed_at_once, days_at_once}
use Rattle.book_model.proofs.Timeline.{begun-later}

-- n days more, within the term and the time for a settlement
module _ (b : Book) (h : Sound b) (is_open : b.opened ≡ true) (n : ℕ) (term : b.today.0 + n ≤ b.term.0)
    (near : b.today.0 + n ≤ last_settled b + 92) where
  was : OpenSound b
  was = h.when_open is_open

  room : Roomy b
  room = omega (arith, was.positions-most, h.room-positions)

  held-later : held (passed_at_once n b) ≡ map (days_held n) (held b)
  unfolding with_today with_account
  held-later = held-with_held b (map (days_held n) (held b))

  count-later : length (map (days_held n) (held b)) ≡ b.count
  count-later = length-map (held b) (days_held n) ∙ length-held b room

  open_later : OpenSound (passed_at_once n b)
  unfolding with_today with_account with_held
  open_later =
      let daily = daily_on (rates_of b) in
      record {
        first-date = was.first-date;
        first-early = was.first-early;
        term-most = was.term-most;
        within-term = term;
        settlement_near = near;
        recognised-most = was.recognised-most;
        bounded = bounded-elapsed daily b.today.0 n b.account (daily-most (rates_of b) was.priced) was.bounded;
        principal-whole =
            rw (elapsed-outstanding daily b.today.0 n b.account, elapsed_principal_paid daily b.today.0 n b.account)
            was.principal-whole;
        rates-most = was.rates-most;
        priced = was.priced;
        from_start = was.from_start;
        begun = begun-later (rates_of b) b.today.0 (b.today.0 + n) (omega arith) was.begun;
        settlements-most = was.settlements-most;
        timely = timely-later 0 (settlements_of b) b.today.0 (b.today.0 + n) (omega arith) was.timely;
        received-most = was.received-most;
        positions-some = rw count-later was.positions-some;
        positions-most = rw count-later was.positions-most;
        holders-right = rw (held-later, holders-days n (held b)) was.holders-right;
        holders-distinct = rw (held-later, holders-days n (held b)) was.holders-distinct;
        shares_whole = rw (held-later, shares-days n (held b)) was.shares_whole;
        days-held =
            rw (held-later, unit_days_grown n (held b), was.shares_whole)
            (omega (arith, was.days-held, last_within 0 (settlements_of b) b.today.0 was.timely));
        receipts-whole = rw (held-later, receipts-days n (held b)) was.receipts-whole;
      }

  sound-later : Sound (passed_at_once n b)
  unfolding with_today with_account with_held
  sound-later =
      record {
        room-positions = rw (length-append, length-drop) (omega (arith, count-later, room, h.room-positions));
        room-settlements = h.room-settlements;
        room-rates = h.room-rates;
        empty-before = λ shut. cc;
        when_open = λ _. open_later;
      }

  sound-passed : Sound (days_passed n b)
  sound-passed = rw (days_at_once b room n) sound-later

pub advance-kept : (b : Book) → Sound b → (date : ℕ) → Sound (advanced b date).book
advance-kept b h date =
    advance_cases b date (λ o. Sound o.book) (λ _. h) λ right.
    sound-passed b h right.is_open (days_to b date)
    (omega (arith, right.after-today, right.within-term))
    (omega (arith, right.after-today, right.settlement_near))
