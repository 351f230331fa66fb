-- In every reached book the account is what the recognised cents, rates, settlements and today make it, and no settlement is over.
use Rattle.std.proofs.Common.{ℕ, ◌≤◌, ◌≡◌, refl, sym, ap, subst, ◌∙◌, false, List}
use Rattle.account.specs.declared.Account.{Account}
use Rattle.book_model.specs.declared.Book.{Book}
use Rattle.account.specs.declared.Cents.{Cents}
use Rattle.account.specs.declared.Day.{Day}
use Rattle.book_model.specs.declared.Parts.{Parts}
use Rattle.account.specs.declared.RateOrder.{RateOrder}
use Rattle.account.specs.declared.Settlement.{Settlement}
use Rattle.account.specs.Accrual.{paid_off, worth}
use Rattle.book_model.specs.Advance.{advanced}
use Rattle.book_model.specs.Book.{empty_book, rates_of, settlements_of}
use Rattle.account.specs.Walk.{elapsed}
use Rattle.book_model.specs.Open.{new_book, opened}
use Rattle.book_model.specs.Rate.{rated}
use Rattle.book_model.specs.Reached.{Reached, empty, opens, advances, rates, transfers, settles}
use Rattle.book_model.specs.Schedule.{daily_on}
use Rattle.book_model.specs.Settle.{settled_today, settled}
use Rattle.book_model.specs.Invariant.{Sound}
use Rattle.account.specs.Standing.{settled_on, day_begins, account_at, overpaid}
use Rattle.book_model.specs.Transfer.{transferred}
use Rattle.book_model.proofs.Accepted.{days_to, order_of, open_cases, advance_cases, rate_cases, transfer_cases, settle_cases}
use Rattle.account.proofs.Callers.{account-elapsed, account_paid_off, not_over_joined, none_after_last, none_after_today}
use Rattle.book_model.proofs.Kept.{sound}
use Rattle.book_model.proofs.Steps.{advance_step, rate_step, transfer_step, settle_step}

pub record Standing (b : Book) : Type 0 where
  pub account-is : b.account ≡ account_at b.recognised.0 (daily_on (rates_of b)) (settlements_of b) b.today.0
  pub not_over_lem : overpaid b.recognised.0 (daily_on (rates_of b)) (settlements_of b) ≡ false

-- from the parts of a book
module _ (b : Book) {cents : ℕ} {orders : List RateOrder} {ss : List Settlement} {today : ℕ} (cents-are : b.recognised.0 ≡ cents)
    (orders-are : rates_of b ≡ orders) (settlements_are : settlements_of b ≡ ss) (today-is : b.today.0 ≡ today) where
  by_parts : b.account ≡ account_at cents (daily_on orders) ss today → overpaid cents (daily_on orders) ss ≡ false → Standing b
  by_parts a o =
      record {
        account-is = rw (cents-are, orders-are, settlements_are, today-is) a;
        not_over_lem = rw (cents-are, orders-are, settlements_are) o;
      }

-- Open

pub empty-standing : Standing empty_book
unfolding empty_book account_at day_begins settled_on overpaid
empty-standing = record { account-is = refl; not_over_lem = refl }

pub new-standing : (first : ℕ) (term : Day) (annual : ℕ) (cents : Cents) (hs ss : List ℕ) → Standing (new_book first term annual cents hs ss)
unfolding new_book account_at day_begins settled_on overpaid
new-standing first term annual cents hs ss = record { account-is = refl; not_over_lem = refl }

pub open_standing : (b : Book) → Standing b → (first : ℕ) (term : Day) (annual : ℕ) (cents : Cents) (hs ss : List ℕ)
    → Standing (opened b first term annual cents hs ss).book
open_standing b was first term annual cents hs ss =
    open_cases b first term annual cents hs ss (λ o. Standing o.book) (λ _. was) (λ _. new-standing first term annual cents hs ss)

module _ (b : Book) (h : Sound b) (was : Standing b) where
  -- Advance

  pub advance-standing : (date : ℕ) → Standing (advanced b date).book
  advance-standing date =
      advance_cases b date (λ o. Standing o.book) (λ _. was) λ right.
      let step = advance_step b h date right in
      let timely = (h.when_open right.is_open).timely in
      by_parts _ (ap (λ (c : Cents). c.0) step.same.recognised) step.same.rates step.settlements step.today
      (step.account
      ∙ ap (elapsed (daily_on (rates_of b)) b.today.0 (days_to b date)) was.account-is
      ∙ sym (account-elapsed b.recognised.0 (daily_on (rates_of b)) (settlements_of b) b.today.0 (days_to b date)
      (λ t lt. none_after_today 0 (settlements_of b) b.today.0 t timely lt)))
      was.not_over_lem

  -- Transfer

  pub transfer-standing : (cedent assignee : ℕ) (parts : Parts) → Standing (transferred b cedent assignee parts).book
  transfer-standing cedent assignee parts =
      transfer_cases b cedent assignee parts (λ o. Standing o.book) (λ _. was) λ right.
      let step = transfer_step b h cedent assignee parts.0 in
      by_parts _ (ap (λ (c : Cents). c.0) step.same.recognised) step.same.rates step.settlements
      (ap (λ (d : Day). d.0) step.today) (step.account ∙ was.account-is) was.not_over_lem

  -- Settle

  pub settle-standing : (cents : Cents) → Standing (settled b cents).book
  settle-standing cents =
      settle_cases b cents (λ o. Standing o.book) (λ _. was) λ right.
      let step = settle_step b h cents.0 right in
      let timely = (h.when_open right.is_open).timely in
      let quiet = none_after_last 0 (settlements_of b) b.today.0 b.today.0 timely right.day-held in
      by_parts _ (ap (λ (c : Cents). c.0) step.same.recognised) step.same.rates step.settlements (ap (λ (d : Day). d.0) step.today)
      (step.account
      ∙ ap (paid_off cents.0) was.account-is
      ∙ sym (account_paid_off b.recognised.0 (daily_on (rates_of b)) (settlements_of b) (settled_today b cents.0) quiet))
      (not_over_joined b.recognised.0 (daily_on (rates_of b)) (settlements_of b) (settled_today b cents.0) b.today.0 timely right.day-held quiet
      (subst (λ (a : Account). cents.0 ≤ worth a) was.account-is right.owed) was.not_over_lem)

  -- Rate

  pub rate-standing : (date annual : ℕ) → Standing (rated b date annual).book
  rate-standing date annual =
      rate_cases b date annual (λ o. Standing o.book) (λ _. was) λ right.
      let step = rate_step b h (order_of b date annual) in
      by_parts _ (ap (λ (c : Cents). c.0) step.recognised) step.rates step.settlements (ap (λ (d : Day). d.0) step.today)
      step.account right.none_over

pub standing : (b : Book) → Reached b → Standing b
standing b r = go r
  where
    go : {b : Book} → Reached b → Standing b
    go empty = empty-standing
    go (opens r first term annual cents hs ss) = open_standing _ (go r) first term annual cents hs ss
    go (advances r date) = advance-standing _ (sound _ r) (go r) date
    go (rates r date annual) = rate-standing _ (sound _ r) (go r) date annual
    go (transfers r cedent assignee parts) = transfer-standing _ (sound _ r) (go r) cedent assignee parts
    go (settles r cents) = settle-standing _ (sound _ r) (go r) cents
