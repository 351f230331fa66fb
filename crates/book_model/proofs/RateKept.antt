-- Rate keeps a book sound.
use Rattle.std.proofs.Common.{ℕ, ◌≤◌, arith, ◌≡◌, refl, length, drop, length-append, length-drop}
use Rattle.book_model.specs.declared.Book.{Book}
use Rattle.account.specs.declared.RateOrder.{RateOrder}
use Rattle.book_model.specs.Book.{rates_of, settlements_of}
use Rattle.book_model.specs.Invariant.{Priced}
use Rattle.book_model.specs.Rate.{with_rates, rated}
use Rattle.book_model.specs.Schedule.{daily_on}
use Rattle.book_model.specs.Invariant.{Sound, OpenSound}
use Rattle.book_model.proofs.Accepted.{RateRight, order_of, rates_after, account_after, revised_book, rate_cases}
use Rattle.account.proofs.Callers.{account-bounded, principal-whole}
use Rattle.book_model.proofs.RatesInForce.{daily-most}
use Rattle.book_model.proofs.RateOrders.{rates-with_rates}
use Rattle.book_model.proofs.StoredRates.{length_with, priced_with, from_start_with, begun_with}

module _ (b : Book) (h : Sound b) (date annual : ℕ) (right : RateRight b date annual) where
  was : OpenSound b
  was = h.when_open right.is_open

  abbrev order : RateOrder
  order = order_of b date annual

  rates-revised : rates_of (revised_book b order) ≡ rates_after b order
  rates-revised = rates-with_rates b (rates_after b order) (account_after b order)

  few : length (rates_after b order) ≤ 16
  few = omega (arith, length_with order (rates_of b), right.place-free)

  priced : Priced (rates_after b order)
  priced = priced_with order (rates_of b) right.annual-most refl was.priced

  open_revised : OpenSound (revised_book b order)
  unfolding with_rates
  open_revised =
      record {
        first-date = was.first-date;
        first-early = was.first-early;
        term-most = was.term-most;
        within-term = was.within-term;
        settlement_near = was.settlement_near;
        recognised-most = was.recognised-most;
        bounded =
            account-bounded b.recognised.0 (daily_on (rates_after b order)) (settlements_of b) was.recognised-most (daily-most (rates_after b order) priced) right.none_over
            b.today.0;
        principal-whole = principal-whole b.recognised.0 (daily_on (rates_after b order)) (settlements_of b) right.none_over b.today.0;
        rates-most = few;
        priced = rw rates-revised priced;
        from_start = rw rates-revised (from_start_with order (rates_of b) was.from_start);
        begun = rw rates-revised (begun_with order (rates_of b) b.today.0 (omega (arith, right.by-today)) was.begun);
        settlements-most = was.settlements-most;
        timely = was.timely;
        received-most = was.received-most;
        positions-some = was.positions-some;
        positions-most = was.positions-most;
        holders-right = was.holders-right;
        holders-distinct = was.holders-distinct;
        shares_whole = was.shares_whole;
        days-held = was.days-held;
        receipts-whole = was.receipts-whole;
      }

  sound-revised : Sound (revised_book b order)
  unfolding with_rates
  sound-revised =
      record {
        room-positions = h.room-positions;
        room-settlements = h.room-settlements;
        room-rates =
            rw (length-append (rates_after b order) (drop (length (rates_after b order)) b.rates), length-drop)
            (omega (arith, few, h.room-rates));
        empty-before = λ shut. cc;
        when_open = λ _. open_revised;
      }

pub rate-kept : (b : Book) → Sound b → (date annual : ℕ) → Sound (rated b date annual).book
rate-kept b h date annual = rate_cases b date annual (λ o. Sound o.book) (λ _. h) (sound-revised b h date annual)
