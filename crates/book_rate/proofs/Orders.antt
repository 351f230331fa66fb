-- An order from its date on: its day, its place among the stored rates, and the replay under these rates.
use Rattle.std.proofs.Common.{ℕ, ◌+◌, ◌-◌, ◌≤◌, ◌<◌, arith, ◌≡◌, refl, ap, ◌∙◌, true, false, cond, ◌&&◌, List, [], ◌∷◌, ◌++◌, leb, ltb, length, take, drop, set, length-take-le, rules}
use Rattle.std.specs.Prelude.{Result, Ok, Err, filter}
use Rattle.std.proofs.lemmas.Bool.Decides.{nat_tests}
use Rattle.calendar.specs.Calendar.{day_count}
use Rattle.calendar.proofs.Callers.{Counted}
use Rattle.rates.specs.Rate.{daily_of}
use Rattle.account.specs.declared.Account.{Account}
use Rattle.account.specs.declared.RateOrder.{RateOrder}
use Rattle.account.specs.declared.Unreckoned.{Unreckoned}
use Rattle.account.specs.Invariant.{Fits}
use Rattle.account.specs.Reckoning.{replayed, standing}
use Rattle.account.specs.Standing.{overpaid}
use Rattle.account.proofs.Callers.{account-bounded, fits, is-over, replays, stands}
use Rattle.book_model.specs.declared.Book.{Book}
use Rattle.book_model.specs.declared.Refusal.TheVariants as refusal
use Rattle.book_model.specs.Book.{rates_of, settlements_of}
use Rattle.book_model.specs.Invariant.{OpenSound, Priced, Sound}
use Rattle.book_model.specs.Outcome.{no_changes, accept, refuse}
use Rattle.book_model.specs.Rate.{starting_before, changes_of, with_rates, revised, rated_from, rated}
use Rattle.book_model.specs.Schedule.{daily_on}
use Rattle.book_model.proofs.Callers.{rates_after, account_after, stored_is_daily, daily-most, moderate, count_most, length_with, priced_with, from_start_with, stored, stored_in_use}

-- the specification's word for std's
filtered : (day : ℕ) (os : List RateOrder) → filter (λ (o : RateOrder). ltb o.first.0 day) os ≡ starting_before day os
unfolding starting_before
filtered day [] = refl
filtered day (o ∷ os) =
    ap (λ (rest : List RateOrder). cond (ltb o.first.0 day) (o ∷ rest) rest) (filtered day os)

-- What is known once the date and the rate are right
pub record Dated (b : Book) (date annual count first daily : ℕ) : Type 0 where
  pub sound : Sound b
  pub is_open : b.opened ≡ true
  pub told : Counted date count
  pub first-is : first ≡ day_count b.first
  pub rate : (annual ≤ 4000) × (daily ≡ daily_of annual)

module _ {b : Book} {date annual count first daily : ℕ} (h : Dated b date annual count first daily) where
  pub was : OpenSound b
  was = h.sound.when_open h.is_open

  pub wrong_day : leb first count && leb count (first + b.today.0) ≡ false → refuse no_changes b refusal.Day ≡ rated b date annual
  unfolding rated rated_from
  wrong_day out = grind (arith, nat_tests)

-- and once the order has a place among the stored rates
pub record Placed (b : Book) (date annual count first daily n : ℕ) : Type 0 where
  pub dated : Dated b date annual count first daily
  pub within : leb first count && leb count (first + b.today.0) ≡ true
  pub place : n ≡ length (filter (λ (o : RateOrder). ltb o.first.0 (count - first)) (rates_of b))

module _ {b : Book} {date annual count first daily n : ℕ} (p : Placed b date annual count first daily n) where
  abbrev order : RateOrder
  order = record { first = record { 0 = count - first }; annual = annual; daily = daily }

  at_place : n ≡ length (starting_before (count - first) (rates_of b))
  at_place = p.place ∙ ap length (filtered (count - first) (rates_of b))

  pub full : 16 ≤ n → refuse no_changes b refusal.BookFull ≡ rated b date annual
  unfolding rated rated_from
  full le = let dated = p.dated in let place = at_place in grind (arith, nat_tests)

  module _ (free : n < 16) where
    of-order : revised b order ≡ rated b date annual
    unfolding rated rated_from
    of-order = let dated = p.dated in let place = at_place in grind (arith, nat_tests)

    room : b.rated ≤ length b.rates
    room = omega (arith, (was p.dated).rates-most, p.dated.sound.room-rates)

    most : n ≤ b.rated
    most = omega (arith, at_place, count_most (count - first) (rates_of b), length-take-le b.rated b.rates room)

    in_array : n < length b.rates
    in_array = omega (arith, p.dated.sound.room-rates)

    as_many : n + 1 ≡ length (rates_after b order)
    as_many = omega (arith, at_place, length_with order (rates_of b))

    in_use : take (n + 1) (set b.rates n order) ≡ rates_after b order
    in_use = stored_in_use b.rates b.rated order (was p.dated).from_start n at_place most in_array

    array : set b.rates n order ≡ rates_after b order ++ drop (length (rates_after b order)) b.rates
    array =
        stored b.rates b.rated order (was p.dated).from_start n at_place most in_array
        ∙ ap (λ (k : ℕ). rates_after b order ++ drop k b.rates) as_many

    priced : Priced (rates_after b order)
    priced = priced_with order (rates_of b) p.dated.rate.0 p.dated.rate.1 (was p.dated).priced

    abbrev daily_rates : ℕ → ℕ
    daily_rates = daily_on (rates_after b order)

    few : b.today.0 ≤ 6000
    few = omega (arith, (was p.dated).within-term, (was p.dated).term-most)

    module _ (r : Result Account Unreckoned) (replay : r ≡ replayed b.recognised.0 (take (n + 1) (set b.rates n order)) (settlements_of b) b.today.0) where
      replayed-is : r ≡ standing b.recognised.0 daily_rates (settlements_of b) b.today.0
      replayed-is =
          replay
          ∙ rw in_use
          (replays b.recognised.0 (rates_after b order) (settlements_of b) b.today.0 (was p.dated).recognised-most few (omega (arith, as_many))
          (omega (arith, (was p.dated).settlements-most, p.dated.sound.room-settlements, length-take-le b.settled b.settlements (omega (arith, (was p.dated).settlements-most, p.dated.sound.room-settlements)))) (moderate (rates_after b order) priced)
          (from_start_with order (rates_of b) (was p.dated).from_start) (was p.dated).timely)
          ∙ ap (λ (d : ℕ → ℕ). standing b.recognised.0 d (settlements_of b) b.today.0) (stored_is_daily (rates_after b order) priced)

      pub over : (u : Unreckoned) → r ≡ Err u → refuse no_changes b refusal.Overpaid ≡ rated b date annual
      unfolding revised
      over u e = let stops = is-over b.recognised.0 daily_rates (settlements_of b) b.today.0 r replayed-is u e in let is = of-order in search rules

      module _ (a : Account) (e : r ≡ Ok a) where
        is : (overpaid b.recognised.0 daily_rates (settlements_of b) ≡ false) × (a ≡ account_after b order)
        is = stands b.recognised.0 daily_rates (settlements_of b) b.today.0 r replayed-is a e

        pub fits_after : Fits a
        fits_after =
            rw is.1
            (fits b.today.0 (account_after b order) few
            (account-bounded b.recognised.0 daily_rates (settlements_of b) (was p.dated).recognised-most
            (daily-most (rates_after b order) priced) is.0 b.today.0))

        abbrev after : Book
        after =
            record {
              opened = b.opened;
              first = b.first;
              term = b.term;
              today = b.today;
              recognised = b.recognised;
              account = a;
              count = b.count;
              positions = b.positions;
              settled = b.settled;
              settlements = b.settlements;
              rated = n + 1;
              rates = set b.rates n order;
            }

        pub stands_revised : accept (changes_of b.account a) after ≡ rated b date annual
        unfolding revised with_rates
        stands_revised = let known = is in let rates = array in let many = as_many in let revises = of-order in search rules
