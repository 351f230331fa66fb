-- A book's parts as exact lists, and the book with some of its parts changed.
use Rattle.std.specs.Prelude.{ℕ, ◌+◌, false, List, ◌++◌, length, take, drop, set, replicate}
use Rattle.rates.specs.Rate.{daily_of}
use Rattle.account.specs.Opening.{opening, no_settlement, no_order}
use Rattle.account.specs.declared.Account.{Account}
use Rattle.book_model.specs.declared.Book.{Book}
use Rattle.book_model.specs.declared.Position.{Position}
use Rattle.account.specs.declared.RateOrder.{RateOrder}
use Rattle.account.specs.declared.Settlement.{Settlement}

-- the positions, settlements and rates in use
abbrev pub held : Book → List Position
held b = take b.count b.positions

abbrev pub settlements_of : Book → List Settlement
settlements_of b = take b.settled b.settlements

abbrev pub rates_of : Book → List RateOrder
rates_of b = take b.rated b.rates

-- a new position of a holder
abbrev pub fresh : ℕ → ℕ → Position
fresh h s = record { holder = h; share = record { 0 = s }; unit_days = 0; received = record { 0 = 0 } }

-- a rate from a day on, and its daily rate
abbrev pub order_from : ℕ → ℕ → RateOrder
order_from day annual = record { first = record { 0 = day }; annual = annual; daily = daily_of annual }

-- "An empty book is the same for every caller"
unfoldable pub empty_book : Book
empty_book =
    record {
      opened = false;
      first = 0;
      term = record { 0 = 0 };
      today = record { 0 = 0 };
      recognised = record { 0 = 0 };
      account = opening 0;
      count = 0;
      positions = replicate 64 (fresh 0 0);
      settled = 0;
      settlements = replicate 240 no_settlement;
      rated = 0;
      rates = replicate 16 no_order;
    }

-- other positions in use; the array's places behind them stay as they were
unfoldable pub with_held : Book → List Position → Book
with_held b ps =
    record {
      opened = b.opened;
      first = b.first;
      term = b.term;
      today = b.today;
      recognised = b.recognised;
      account = b.account;
      count = length ps;
      positions = ps ++ drop (length ps) b.positions;
      settled = b.settled;
      settlements = b.settlements;
      rated = b.rated;
      rates = b.rates;
    }

-- another account
unfoldable pub with_account : Book → Account → Book
with_account b a =
    record {
      opened = b.opened;
      first = b.first;
      term = b.term;
      today = b.today;
      recognised = b.recognised;
      account = a;
      count = b.count;
      positions = b.positions;
      settled = b.settled;
      settlements = b.settlements;
      rated = b.rated;
      rates = b.rates;
    }

-- another day
unfoldable pub with_today : Book → ℕ → Book
with_today b day =
    record {
      opened = b.opened;
      first = b.first;
      term = b.term;
      today = record { 0 = day };
      recognised = b.recognised;
      account = b.account;
      count = b.count;
      positions = b.positions;
      settled = b.settled;
      settlements = b.settlements;
      rated = b.rated;
      rates = b.rates;
    }

-- one settlement more
unfoldable pub with_settlement : Book → Settlement → Book
with_settlement b s =
    record {
      opened = b.opened;
      first = b.first;
      term = b.term;
      today = b.today;
      recognised = b.recognised;
      account = b.account;
      count = b.count;
      positions = b.positions;
      settled = b.settled + 1;
      settlements = set b.settlements b.settled s;
      rated = b.rated;
      rates = b.rates;
    }
