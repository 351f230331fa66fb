-- A call is accepted where all of its conditions hold; otherwise it is refused and the book stays.
use Rattle.std.proofs.Common.{ℕ, ◌+◌, ◌-◌, ◌≤◌, ◌<◌, arith, ◌≡◌, true, false, not, ◌&&◌, ◌||◌, List, leb-true, leb-false, ltb-false, eqb, leb, ltb, length}
use Rattle.std.proofs.lemmas.Bool.{and_parts, or_parts, eqb-false, not-true, not-false}
use Rattle.general_laws.proofs.Choice.{choice}
use Rattle.calendar.specs.Calendar.{is_date, day_count}
use Rattle.account.specs.declared.Account.{Account}
use Rattle.book_model.specs.declared.Book.{Book}
use Rattle.account.specs.declared.Cents.{Cents}
use Rattle.account.specs.declared.Day.{Day}
use Rattle.book_model.specs.declared.Parts.{Parts}
use Rattle.account.specs.declared.RateOrder.{RateOrder}
use Rattle.book_model.specs.declared.Refusal.{Refusal}
use Rattle.book_model.specs.declared.Revised.{Revised}
use Rattle.book_model.specs.declared.Taken.{Taken}
use Rattle.book_model.specs.declared.Refusal.TheVariants as refusal
use Rattle.book_model.specs.declared.Revised.{Revised}
use Rattle.book_model.specs.declared.Taken.{Taken}
use Rattle.account.specs.Accrual.{worth}
use Rattle.book_model.specs.Advance.{last_settled, days_passed, count_of_day, advanced_to, advanced}
use Rattle.book_model.specs.Book.{held, rates_of, settlements_of, order_from, with_held}
use Rattle.book_model.specs.Open.{is_financing, is_term, is_recognised, new_book, opened}
use Rattle.book_model.specs.Outcome.{Outcome, refusal_number, accept, refuse, nothing, no_days, no_parts, nothing_taken, no_changes}
use Rattle.book_model.specs.Positions.{is_holder, present, share_of, change, less, given}
use Rattle.book_model.specs.Rate.{starting_before, with_rate, with_rates, changes_of, revised, rated_from, rated}
use Rattle.book_model.specs.Settle.{settled_book, taken_of, settled}
use Rattle.book_model.specs.Schedule.{daily_on}
use Rattle.account.specs.Standing.{account_at, overpaid}
use Rattle.book_model.specs.Transfer.{moved, transferred}
use Rattle.book_model.proofs.Financing.{Financed, financed}

pub refusal_within : (r : Refusal) → (1 ≤ refusal_number r) × (refusal_number r ≤ 14)
refusal_within refusal.Unopened = omega arith
refusal_within refusal.AlreadyOpen = omega arith
refusal_within refusal.Date = omega arith
refusal_within refusal.Term = omega arith
refusal_within refusal.Amount = omega arith
refusal_within refusal.Rate = omega arith
refusal_within refusal.Financing = omega arith
refusal_within refusal.Day = omega arith
refusal_within refusal.SettlementPending = omega arith
refusal_within refusal.Holder = omega arith
refusal_within refusal.Share = omega arith
refusal_within refusal.BookFull = omega arith
refusal_within refusal.NoDayHeld = omega arith
refusal_within refusal.Overpaid = omega arith

pub no_refusal_is_0 : (r : Refusal) → refusal_number r ≡ 0 → ⊥
no_refusal_is_0 r e = omega (arith, refusal_within r)

-- Open

pub record OpenRight (b : Book) (first : ℕ) (term : Day) (annual : ℕ) (cents : Cents) (hs ss : List ℕ) : Type 0 where
  pub is-empty : b.opened ≡ false
  pub is-date : is_date first ≡ true
  pub term-some : 1 ≤ term.0
  pub term-most : term.0 ≤ 6000
  pub first-early : first ≤ 20991231
  pub cents-some : cents.0 ≡ 0 → ⊥
  pub cents-most : cents.0 ≤ 1000000000000
  pub annual-most : annual ≤ 4000
  pub financing : Financed hs ss

module _ (b : Book) (first : ℕ) (term : Day) (annual : ℕ) (cents : Cents) (hs ss : List ℕ) (P : Outcome (Unit {0}) → Type 0) where
  pub open_cases : ((r : Refusal) → P (refuse nothing b r))
      → (OpenRight b first term annual cents hs ss → P (accept nothing (new_book first term annual cents hs ss)))
      → P (opened b first term annual cents hs ss)
  unfolding opened
  open_cases refused accepted =
      choice P b.opened (λ _. refused refusal.AlreadyOpen) λ o.
      choice P (not (is_date first)) (λ _. refused refusal.Date) λ d.
      choice P (not (is_term first term.0)) (λ _. refused refusal.Term) λ t.
      choice P (not (is_recognised cents.0)) (λ _. refused refusal.Amount) λ c.
      choice P (ltb 4000 annual) (λ _. refused refusal.Rate) λ r.
      choice P (not (is_financing hs ss)) (λ _. refused refusal.Financing) λ f.
      let some-term = and_parts (leb 1 term.0) (leb term.0 6000 && leb first 20991231) (not-false _ t) in
      let most-term = and_parts (leb term.0 6000) (leb first 20991231) some-term.1 in
      let amount = and_parts (not (eqb cents.0 0)) (leb cents.0 1000000000000) (not-false _ c) in
      accepted
      record {
        is-empty = o;
        is-date = not-false _ d;
        term-some = leb-true _ _ some-term.0;
        term-most = leb-true _ _ most-term.0;
        first-early = leb-true _ _ most-term.1;
        cents-some = eqb-false _ _ (not-true _ amount.0);
        cents-most = leb-true _ _ amount.1;
        annual-most = ltb-false _ _ r;
        financing = financed hs ss (not-false _ f);
      }

-- Advance

pub record AdvanceRight (b : Book) (date : ℕ) : Type 0 where
  pub is_open : b.opened ≡ true
  pub is-date : is_date date ≡ true
  pub after-today : count_of_day b b.today.0 < day_count date
  pub within-term : day_count date ≤ count_of_day b b.term.0
  pub settlement_near : day_count date ≤ count_of_day b (last_settled b + 92)

-- the days from today to a date
abbrev pub days_to : Book → ℕ → ℕ
days_to b date = day_count date - count_of_day b b.today.0

module _ (b : Book) (date : ℕ) (P : Outcome Day → Type 0) where
  pub advance_cases : ((r : Refusal) → P (refuse no_days b r))
      → (AdvanceRight b date → P (accept (record { 0 = days_to b date }) (days_passed (days_to b date) b))) → P (advanced b date)
  unfolding advanced advanced_to
  advance_cases refused accepted =
      choice P (not b.opened) (λ _. refused refusal.Unopened) λ o.
      choice P (not (is_date date)) (λ _. refused refusal.Date) λ d.
      choice P (leb (day_count date) (count_of_day b b.today.0) || ltb (count_of_day b b.term.0) (day_count date)) (λ _. refused refusal.Day) λ t.
      choice P (ltb (count_of_day b (last_settled b + 92)) (day_count date)) (λ _. refused refusal.SettlementPending) λ s.
      let day = or_parts (leb (day_count date) (count_of_day b b.today.0)) (ltb (count_of_day b b.term.0) (day_count date)) t in
      accepted
      record {
        is_open = not-false _ o;
        is-date = not-false _ d;
        after-today = leb-false _ _ day.0;
        within-term = ltb-false _ _ day.1;
        settlement_near = ltb-false _ _ s;
      }

-- Rate

-- the order of a date
abbrev pub order_of : Book → ℕ → ℕ → RateOrder
order_of b date annual = order_from (day_count date - day_count b.first) annual

-- the rates with an order, the account under them, and the book with both
abbrev pub rates_after : Book → RateOrder → List RateOrder
rates_after b o = with_rate o (rates_of b)

abbrev pub account_after : Book → RateOrder → Account
account_after b o = account_at b.recognised.0 (daily_on (rates_after b o)) (settlements_of b) b.today.0

abbrev pub revised_book : Book → RateOrder → Book
revised_book b o = with_rates b (rates_after b o) (account_after b o)

pub record RateRight (b : Book) (date annual : ℕ) : Type 0 where
  pub is_open : b.opened ≡ true
  pub is-date : is_date date ≡ true
  pub annual-most : annual ≤ 4000
  pub from_first : count_of_day b 0 ≤ day_count date
  pub by-today : day_count date ≤ count_of_day b b.today.0
  pub place-free : length (starting_before (order_of b date annual).first.0 (rates_of b)) < 16
  pub none_over : overpaid b.recognised.0 (daily_on (rates_after b (order_of b date annual))) (settlements_of b) ≡ false

module _ (b : Book) (date annual : ℕ) (P : Outcome Revised → Type 0) where
  pub rate_cases : ((r : Refusal) → P (refuse no_changes b r))
      → (RateRight b date annual
      → P (accept (changes_of b.account (account_after b (order_of b date annual))) (revised_book b (order_of b date annual))))
      → P (rated b date annual)
  unfolding rated rated_from revised
  rate_cases refused accepted =
      let o = order_of b date annual in
      choice P (not b.opened) (λ _. refused refusal.Unopened) λ n.
      choice P (not (is_date date)) (λ _. refused refusal.Date) λ d.
      choice P (ltb 4000 annual) (λ _. refused refusal.Rate) λ r.
      choice P (ltb (day_count date) (count_of_day b 0) || ltb (count_of_day b b.today.0) (day_count date)) (λ _. refused refusal.Day) λ t.
      choice P (leb 16 (length (starting_before o.first.0 (rates_of b)))) (λ _. refused refusal.BookFull) λ f.
      choice P (overpaid b.recognised.0 (daily_on (rates_after b o)) (settlements_of b)) (λ _. refused refusal.Overpaid) λ w.
      let day = or_parts (ltb (day_count date) (count_of_day b 0)) (ltb (count_of_day b b.today.0) (day_count date)) t in
      accepted
      record {
        is_open = not-false _ n;
        is-date = not-false _ d;
        annual-most = ltb-false _ _ r;
        from_first = ltb-false _ _ day.0;
        by-today = ltb-false _ _ day.1;
        place-free = leb-false _ _ f;
        none_over = w;
      }

-- Transfer

pub record TransferRight (b : Book) (c a n : ℕ) : Type 0 where
  pub is_open : b.opened ≡ true
  pub cedent-right : is_holder c ≡ true
  pub assignee-right : is_holder a ≡ true
  pub cedent_present : present c (held b) ≡ true
  pub apart : c ≡ a → ⊥
  pub parts-some : n ≡ 0 → ⊥
  pub parts-most : n ≤ share_of c (held b)
  pub place-free : present a (held b) ≡ false → b.count < 64

module _ (b : Book) (c a : ℕ) (n : Parts) (P : Outcome Parts → Type 0) where
  pub transfer_cases : ((r : Refusal) → P (refuse no_parts b r))
      → (TransferRight b c a n.0
      → P (accept (record { 0 = share_of c (held b) - n.0 }) (with_held b (given a n.0 (change c (less n.0) (held b))))))
      → P (transferred b c a n)
  unfolding transferred moved
  transfer_cases refused accepted =
      choice P (not b.opened) (λ _. refused refusal.Unopened) λ o.
      choice P (not (is_holder c) || (not (is_holder a) || (not (present c (held b)) || eqb c a))) (λ _. refused refusal.Holder) λ h.
      choice P (eqb n.0 0 || ltb (share_of c (held b)) n.0) (λ _. refused refusal.Share) λ s.
      choice P (not (present a (held b)) && leb 64 b.count) (λ _. refused refusal.BookFull) λ f.
      let cedent = or_parts (not (is_holder c)) (not (is_holder a) || (not (present c (held b)) || eqb c a)) h in
      let assignee = or_parts (not (is_holder a)) (not (present c (held b)) || eqb c a) cedent.1 in
      let known = or_parts (not (present c (held b))) (eqb c a) assignee.1 in
      let share = or_parts (eqb n.0 0) (ltb (share_of c (held b)) n.0) s in
      accepted
      record {
        is_open = not-false _ o;
        cedent-right = not-false _ cedent.0;
        assignee-right = not-false _ assignee.0;
        cedent_present = not-false _ known.0;
        apart = eqb-false _ _ known.1;
        parts-some = eqb-false _ _ share.0;
        parts-most = ltb-false _ _ share.1;
        place-free = λ e. leb-false _ _ (rw e at f);
      }

-- Settle

pub record SettleRight (b : Book) (m : ℕ) : Type 0 where
  pub is_open : b.opened ≡ true
  pub cents-most : m ≤ 100000000000
  pub place-free : b.settled < 240
  pub day-held : last_settled b < b.today.0
  pub owed : m ≤ worth b.account

module _ (b : Book) (m : Cents) (P : Outcome Taken → Type 0) where
  pub settle_cases : ((r : Refusal) → P (refuse nothing_taken b r))
      → (SettleRight b m.0 → P (accept (taken_of b m.0) (settled_book b m.0))) → P (settled b m)
  unfolding settled
  settle_cases refused accepted =
      choice P (not b.opened) (λ _. refused refusal.Unopened) λ o.
      choice P (ltb 100000000000 m.0) (λ _. refused refusal.Amount) λ c.
      choice P (leb 240 b.settled) (λ _. refused refusal.BookFull) λ f.
      choice P (leb b.today.0 (last_settled b)) (λ _. refused refusal.NoDayHeld) λ d.
      choice P (ltb (worth b.account) m.0) (λ _. refused refusal.Overpaid) λ w.
      accepted
      record {
        is_open = not-false _ o;
        cents-most = ltb-false _ _ c;
        place-free = leb-false _ _ f;
        day-held = leb-false _ _ d;
        owed = ltb-false _ _ w;
      }
