-- What the calls work out at once: a position after many days, and a book with another array of positions. Private contracts alone cite this.
use Rattle.std.specs.Prelude.{ℕ, ◌+◌, ◌*◌, List}
use Rattle.book_model.specs.declared.Book.{Book}
use Rattle.book_model.specs.declared.Position.{Position}

-- its share in unit-days, for so many days at once
abbrev pub days_held : ℕ → Position → Position
days_held n p =
    record { holder = p.holder; share = p.share; unit_days = p.unit_days + p.share.0 * n; received = p.received }

-- the book with another count and another array of positions
abbrev pub with_stored : Book → ℕ → List Position → Book
with_stored b count ps =
    record {
      opened = b.opened;
      first = b.first;
      term = b.term;
      today = b.today;
      recognised = b.recognised;
      account = b.account;
      count = count;
      positions = ps;
      settled = b.settled;
      settlements = b.settlements;
      rated = b.rated;
      rates = b.rates;
    }
