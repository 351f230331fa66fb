-- The tally's opening and rates are the book's: what an opening leaves, a rate order changes, and every other call keeps.
use Rattle.std.proofs.Common.{ℕ, ◌-◌, ◌≡◌, refl, ap, ◌∙◌}
use Rattle.calendar.specs.Calendar.{day_count}
use Rattle.account.specs.declared.Account.{Account}
use Rattle.book_model.specs.declared.Book.{Book}
use Rattle.account.specs.declared.Cents.{Cents}
use Rattle.book_model.specs.Book.{order_from, rates_of}
use Rattle.book_model.specs.Rate.{with_rate, with_rates}
use Rattle.book_model.specs.Schedule.{annual_on}
use Rattle.book_model.specs.Call.{Opening}
use Rattle.conservation.specs.Tally.{Tally, start, advance, revise, transfer, settle, day_of_date}
use Rattle.book_model.proofs.Callers.{rates-with_rates, annual-opened, rate_sets_from, OpenStep, SameRight}

pub record SameTerms (o : Opening) (b : Book) (t : Tally) : Type 0 where
  pub first : b.first ≡ o.first
  pub recognised : b.recognised.0 ≡ o.cents
  pub rates : (day : ℕ) → annual_on (rates_of b) day ≡ t.rate day

module _ (o : Opening) where
  pub terms-opened : (c : Book) → OpenStep o.first (record { 0 = o.term }) o.annual (record { 0 = o.cents }) o.holders o.shares c
      → SameTerms o c (start o)
  unfolding start
  terms-opened c step =
      record {
        first = step.first-day;
        recognised = ap (λ (n : Cents). n.0) step.recognised;
        rates = λ day. rw step.rates (annual-opened o.annual day);
      }

  module _ (b c : Book) (t : Tally) (was : SameTerms o b t) where
    -- a call that changes no rate
    module _ (same : SameRight b c) where
      terms-kept : (u : Tally) → ((day : ℕ) → t.rate day ≡ u.rate day) → SameTerms o c u
      terms-kept u e =
          record {
            first = same.first ∙ was.first;
            recognised = ap (λ (n : Cents). n.0) same.recognised ∙ was.recognised;
            rates = λ day. rw same.rates (was.rates day ∙ e day);
          }

      pub terms-advanced : (day : ℕ) → SameTerms o c (advance t day)
      unfolding advance
      terms-advanced day = terms-kept (advance t day) (λ _. refl)

      pub terms-transferred : (cedent assignee n : ℕ) → SameTerms o c (transfer t cedent assignee n)
      unfolding transfer
      terms-transferred cedent assignee n = terms-kept (transfer t cedent assignee n) (λ _. refl)

      pub terms-settled : (m : ℕ) → SameTerms o c (settle t m)
      unfolding settle
      terms-settled m = terms-kept (settle t m) (λ _. refl)

  pub terms-rated : (b : Book) (t : Tally) → SameTerms o b t → (date annual : ℕ) (a : Account)
      → SameTerms o (with_rates b (with_rate (order_from (day_count date - day_count b.first) annual) (rates_of b)) a) (revise t (day_of_date o date) annual)
  unfolding with_rates revise
  terms-rated b t was date annual a =
      let order = order_from (day_count date - day_count b.first) annual in
      record {
        first = was.first;
        recognised = was.recognised;
        rates = λ day.
            rw (rates-with_rates b (with_rate order (rates_of b)) a)
            (rate_sets_from (rates_of b) order day ∙ rw (was.first, was.rates day));
      }
