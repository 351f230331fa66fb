-- What each accepted call changes, and what it leaves.
use Rattle.std.proofs.Common.{ℕ, ◌+◌, arith, ◌≡◌, refl, true, List, [], ◌∷◌, ◌++◌, map}
use Rattle.apportionment.specs.Apportionment.{part}
use Rattle.book_model.specs.declared.Book.{Book}
use Rattle.account.specs.declared.Cents.{Cents}
use Rattle.account.specs.declared.Day.{Day}
use Rattle.account.specs.declared.RateOrder.{RateOrder}
use Rattle.account.specs.Accrual.{paid_off}
use Rattle.book_model.specs.Advance.{days_passed}
use Rattle.book_model.specs.Book.{held, rates_of, settlements_of, with_held, with_account, with_today, with_settlement, order_from}
use Rattle.account.specs.Opening.{opening}
use Rattle.book_model.specs.Open.{founded, new_book}
use Rattle.book_model.specs.Positions.{paid_from, unit_days_column, shares, receipts, holders}
use Rattle.book_model.specs.Rate.{with_rates}
use Rattle.book_model.specs.Schedule.{daily_on}
use Rattle.book_model.specs.Settle.{settled_today, settled_book}
use Rattle.book_model.specs.Invariant.{Sound}
use Rattle.book_model.specs.Closed.{days_held}
use Rattle.account.specs.Walk.{elapsed}
use Rattle.book_model.proofs.Accepted.{AdvanceRight, SettleRight, days_to, rates_after, account_after, revised_book}
use Rattle.book_model.proofs.Assigned.{assigned}
use Rattle.book_model.proofs.ChangedBook.{Roomy, held-with_held}
use Rattle.book_model.proofs.DaysHeld.{holders-days, shares-days, receipts-days}
use Rattle.book_model.proofs.DaysPassed.{passed_at_once, days_at_once}
use Rattle.book_model.proofs.OpenKept.{held_new, rates-new}
use Rattle.book_model.proofs.Paid.{held-settled, holders-settled, shares-settled}
use Rattle.book_model.proofs.RateOrders.{rates-with_rates}
use Rattle.book_model.proofs.SettleKept.{settlements-settled}

-- b is the book that came in, c the one that is given back

-- what stands from the opening on
pub record SameRight (b c : Book) : Type 0 where
  pub opened : c.opened ≡ b.opened
  pub first : c.first ≡ b.first
  pub term : c.term ≡ b.term
  pub recognised : c.recognised ≡ b.recognised
  pub rates : rates_of c ≡ rates_of b

pub record OpenStep (first : ℕ) (term : Day) (annual : ℕ) (cents : Cents) (hs ss : List ℕ) (c : Book) : Type 0 where
  pub is_open : c.opened ≡ true
  pub first-day : c.first ≡ first
  pub term-days : c.term ≡ term
  pub today : c.today.0 ≡ 0
  pub recognised : c.recognised ≡ cents
  pub account : c.account ≡ opening cents.0
  pub positions : held c ≡ founded hs ss
  pub settlements : settlements_of c ≡ []
  pub rates : rates_of c ≡ order_from 0 annual ∷ []

pub record AdvanceStep (n : ℕ) (b c : Book) : Type 0 where
  pub same : SameRight b c
  pub settlements : settlements_of c ≡ settlements_of b
  pub same-holders : holders (held c) ≡ holders (held b)
  pub same-shares : shares (held c) ≡ shares (held b)
  pub same-receipts : receipts (held c) ≡ receipts (held b)
  pub today : c.today.0 ≡ b.today.0 + n
  pub account : c.account ≡ elapsed (daily_on (rates_of b)) b.today.0 n b.account
  pub positions : held c ≡ map (days_held n) (held b)

-- rates and account, and nothing else
pub record RateStep (o : RateOrder) (b c : Book) : Type 0 where
  pub opened : c.opened ≡ b.opened
  pub first : c.first ≡ b.first
  pub term : c.term ≡ b.term
  pub recognised : c.recognised ≡ b.recognised
  pub today : c.today ≡ b.today
  pub settlements : settlements_of c ≡ settlements_of b
  pub positions : held c ≡ held b
  pub rates : rates_of c ≡ rates_after b o
  pub account : c.account ≡ account_after b o

pub record TransferStep (cedent assignee n : ℕ) (b c : Book) : Type 0 where
  pub same : SameRight b c
  pub settlements : settlements_of c ≡ settlements_of b
  pub today : c.today ≡ b.today
  pub account : c.account ≡ b.account
  pub positions : held c ≡ assigned cedent assignee n (held b)

pub record SettleStep (m : ℕ) (b c : Book) : Type 0 where
  pub same : SameRight b c
  pub today : c.today ≡ b.today
  pub same-holders : holders (held c) ≡ holders (held b)
  pub same-shares : shares (held c) ≡ shares (held b)
  pub settlements : settlements_of c ≡ settlements_of b ++ (settled_today b m ∷ [])
  pub account : c.account ≡ paid_off m b.account
  pub positions : held c ≡ paid_from (part m (unit_days_column (held b))) 0 (held b)

module _ (b : Book) (h : Sound b) where
  pub open_step : (first : ℕ) (term : Day) (annual : ℕ) (cents : Cents) (hs ss : List ℕ)
      → OpenStep first term annual cents hs ss (new_book first term annual cents hs ss)
  unfolding new_book
  open_step first term annual cents hs ss =
      record {
        is_open = refl;
        first-day = refl;
        term-days = refl;
        today = refl;
        recognised = refl;
        account = refl;
        positions = held_new b h first term annual cents hs ss;
        settlements = refl;
        rates = rates-new b h first term annual cents hs ss;
      }

  at_once : (n : ℕ) → AdvanceStep n b (passed_at_once n b)
  unfolding with_today with_account with_held
  at_once n =
      let changed = held-with_held b (map (days_held n) (held b)) in
      record {
        same = record { opened = refl; first = refl; term = refl; recognised = refl; rates = refl };
        settlements = refl;
        same-holders = rw changed (holders-days n (held b));
        same-shares = rw changed (shares-days n (held b));
        same-receipts = rw changed (receipts-days n (held b));
        today = refl;
        account = refl;
        positions = changed;
      }

  pub advance_step : (date : ℕ) → AdvanceRight b date → AdvanceStep (days_to b date) b (days_passed (days_to b date) b)
  advance_step date right =
      let room : Roomy b = omega (arith, (h.when_open right.is_open).positions-most, h.room-positions) in
      rw (days_at_once b room (days_to b date)) (at_once (days_to b date))

  pub rate_step : (o : RateOrder) → RateStep o b (revised_book b o)
  unfolding with_rates
  rate_step o =
      record {
        opened = refl;
        first = refl;
        term = refl;
        recognised = refl;
        today = refl;
        settlements = refl;
        positions = refl;
        rates = rates-with_rates b (rates_after b o) (account_after b o);
        account = refl;
      }

  pub transfer_step : (cedent assignee n : ℕ) → TransferStep cedent assignee n b (with_held b (assigned cedent assignee n (held b)))
  unfolding with_held
  transfer_step cedent assignee n =
      record {
        same = record { opened = refl; first = refl; term = refl; recognised = refl; rates = refl };
        settlements = refl;
        today = refl;
        account = refl;
        positions = held-with_held b (assigned cedent assignee n (held b));
      }

  pub settle_step : (m : ℕ) → SettleRight b m → SettleStep m b (settled_book b m)
  unfolding settled_book with_settlement with_account with_held
  settle_step m right =
      record {
        same = record { opened = refl; first = refl; term = refl; recognised = refl; rates = refl };
        today = refl;
        same-holders = holders-settled b m;
        same-shares = shares-settled b m;
        settlements = settlements-settled b h m right;
        account = refl;
        positions = held-settled b m;
      }
