-- The cases of Advance in an open book, and the book after its days, which pass at once.
use Rattle.std.proofs.Common.{arith, rules, ℕ, ◌≡◌, ◌+◌, ◌-◌, ◌*◌, ◌≤◌, ◌<◌, List, ◌++◌, map, sym, ap, ◌∙◌, true, length, get_or, drop}
use Rattle.std.proofs.lemmas.List.{length-map}
use Rattle.std.specs.Prelude.{Ok}
use Rattle.std.specs.List.{sum}
use Rattle.calendar.proofs.Callers.{Counted, count-date, laws}
use Rattle.calendar.specs.Answers.{count_of}
use Rattle.calendar.specs.Calendar.{day_count}
use Rattle.account.specs.declared.Account.{Account}
use Rattle.account.specs.Accrual.{accrued_days}
use Rattle.account.specs.Opening.{no_order}
use Rattle.account.specs.Reckoning.{accrued}
use Rattle.account.specs.Walk.{elapsed}
use Rattle.account.proofs.Callers.{accrues, fits, last_within}
use Rattle.book_model.specs.declared.Book.{Book}
use Rattle.book_model.specs.declared.Position.{Position}
use Rattle.book_model.specs.Advance.{last_settled, days_passed, advanced, advanced_to}
use Rattle.book_model.specs.Book.{held, rates_of, settlements_of, with_held, with_account, with_today}
use Rattle.book_model.specs.Closed.{days_held}
use Rattle.book_model.specs.Invariant.{Sound, OpenSound}
use Rattle.book_model.specs.Outcome.{accept}
use Rattle.book_model.specs.Positions.{unit_days_column}
use Rattle.book_model.specs.Schedule.{daily_on}
use Rattle.book_model.proofs.Callers.{Roomy, length-held, days_at_once, with_array, last_elapses, last-order, priced-at}

module _ {b : Book} (sound : Sound b) (is_open : b.opened ≡ true) where
  known : OpenSound b
  known = sound.when_open is_open

  -- the count of the first day, which is a date
  pub first-counted : (first : ℕ) → first ≡ (count_of b.first).1 → (first ≡ day_count b.first) × (first < 73049)
  first-counted first e =
      let counted : first ≡ day_count b.first = e ∙ ap (λ (answer : ℕ × ℕ). answer.1) (count-date b.first known.first-date) in
      (counted, omega (arith, laws.count-within b.first known.first-date))

  -- The cases, by the first day's count and the date's

  module _ (date count first : ℕ) (told : Counted date count) (e : first ≡ day_count b.first) where
    module _ (after : first + b.today.0 < count) (within : count ≤ first + b.term.0) where
      abbrev days : ℕ
      days = count - (first + b.today.0)

      -- the days since the last settlement follow from the unit-days
      pub passes : sum (unit_days_column (held b)) + 1000000 * days ≤ 92000000 → accept (record { 0 = days }) (days_passed days b) ≡ advanced b date
      unfolding advanced advanced_to
      passes near =
          let last = last_within 0 (settlements_of b) b.today.0 known.timely in
          let soon : count ≤ first + (last_settled b + 92) = omega (arith, known.days-held) in
          search rules

  -- The account

  orders_fit : b.rated ≤ length b.rates
  orders_fit = omega (arith, known.rates-most, sound.room-rates)

  abbrev daily : ℕ
  daily = (get_or b.rates (b.rated - 1) no_order).daily

  pub accrues_last : (n : ℕ) → n ≤ 6000 → accrued b.account daily n ≡ Ok (accrued_days n daily b.account)
  accrues_last n few =
      let some = last-order b.rated b.rates b.today.0 known.from_start known.begun orders_fit in
      accrues b.account daily n
      (fits _ _ (omega (arith, known.within-term, known.term-most)) known.bounded)
      (priced-at b.rated b.rates (b.rated - 1) known.priced orders_fit (omega arith))
      few

  -- The book

  module _ (n : ℕ) (ps : List Position) (a : Account) (p : ps ≡ map (days_held n) (held b)) (q : a ≡ accrued_days n daily b.account) where
    room : Roomy b
    room = omega (arith, known.positions-most, sound.room-positions)

    as_many : length (map (days_held n) (held b)) ≡ b.count
    as_many = length-map (held b) (days_held n) ∙ length-held b room

    holding : with_array b (ps ++ drop b.count b.positions) ≡ with_held b (map (days_held n) (held b))
    unfolding with_held
    holding = rw (p, as_many)

    accrued-elapsed : a ≡ elapsed (daily_on (rates_of b)) b.today.0 n b.account
    accrued-elapsed =
        q ∙ last_elapses b.rated b.rates b.today.0 n b.account known.priced known.from_start known.begun orders_fit

    pub book-after : with_today (with_account (with_array b (ps ++ drop b.count b.positions)) a) (b.today.0 + n) ≡ days_passed n b
    book-after =
        ap (λ (g : Book). with_today (with_account g a) (b.today.0 + n)) holding
        ∙ ap (λ (c : Account). with_today (with_account (with_held b (map (days_held n) (held b))) c) (b.today.0 + n)) accrued-elapsed
        ∙ sym (days_at_once b room n)
