-- The invariant: what holds of every reached book. Private contracts alone cite this: nobody has to believe it.
use Rattle.std.specs.Prelude.{ℕ, ◌+◌, ◌-◌, ◌*◌, ◌≤◌, ◌<◌, ◌≡◌, true, false, List, [], ◌∷◌, map, length, sum}
use Rattle.std.specs.List.{list_all}
use Rattle.general_laws.specs.Members.{distinct}
use Rattle.calendar.specs.Calendar.{is_date}
use Rattle.rates.specs.Rate.{daily_of}
use Rattle.book_model.specs.declared.Book.{Book}
use Rattle.account.specs.declared.RateOrder.{RateOrder}
use Rattle.account.specs.declared.Settlement.{Settlement}
use Rattle.book_model.specs.Advance.{last_settled}
use Rattle.book_model.specs.Book.{empty_book, held, rates_of, settlements_of}
use Rattle.book_model.specs.Positions.{is_holder, holders, shares, unit_days_column, receipts}
use Rattle.account.specs.Invariant.{Bounded, FromStart, Timely}

-- the cents of the settlements
abbrev pub settled_cents : List Settlement → List ℕ
settled_cents ss = map (λ (s : Settlement). s.cents.0) ss

-- every stored rate is one that has a daily rate, and stands beside it
abbrev pub Priced : List RateOrder → Type 0
Priced [] = Unit {0}
Priced (o ∷ os) = (o.annual ≤ 4000) × (o.daily ≡ daily_of o.annual) × Priced os

-- no stored rate begins after today
abbrev pub Begun : List RateOrder → ℕ → Type 0
Begun [] today = Unit {0}
Begun (o ∷ os) today = (o.first.0 ≤ today) × Begun os today

pub record OpenSound (b : Book) : Type 0 where
  -- days
  pub first-date : is_date b.first ≡ true
  pub first-early : b.first ≤ 20991231
  pub term-most : b.term.0 ≤ 6000
  pub within-term : b.today.0 ≤ b.term.0
  pub settlement_near : b.today.0 ≤ last_settled b + 92
  -- money
  pub recognised-most : b.recognised.0 ≤ 1000000000000
  pub bounded : Bounded b.today.0 b.account
  pub principal-whole : b.account.outstanding.0 + b.account.principal_paid.0 ≡ b.recognised.0
  -- rates
  pub rates-most : b.rated ≤ 16
  pub priced : Priced (rates_of b)
  pub from_start : FromStart (rates_of b)
  pub begun : Begun (rates_of b) b.today.0
  -- settlements
  pub settlements-most : b.settled ≤ 240
  pub timely : Timely 0 (settlements_of b) b.today.0
  pub received-most : sum (settled_cents (settlements_of b)) ≤ b.settled * 100000000000
  -- positions
  pub positions-some : 0 < b.count
  pub positions-most : b.count ≤ 64
  pub holders-right : list_all is_holder (holders (held b)) ≡ true
  pub holders-distinct : distinct (holders (held b)) ≡ true
  pub shares_whole : sum (shares (held b)) ≡ 1000000
  pub days-held : sum (unit_days_column (held b)) ≡ 1000000 * (b.today.0 - last_settled b)
  pub receipts-whole : sum (receipts (held b)) ≡ sum (settled_cents (settlements_of b))

pub record Sound (b : Book) : Type 0 where
  pub room-positions : length b.positions ≡ 64
  pub room-settlements : length b.settlements ≡ 240
  pub room-rates : length b.rates ≡ 16
  pub empty-before : b.opened ≡ false → b ≡ empty_book
  pub when_open : b.opened ≡ true → OpenSound b
