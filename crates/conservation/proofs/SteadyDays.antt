-- Days passed at one annual rate, its daily rate a known number: the book that they give computes.
use Rattle.std.proofs.Common.{ℕ, zero, suc, ◌+◌, ◌≡◌, refl, ap, ◌∙◌, [], ◌∷◌, map, arith, le-leb}
use Rattle.rates.specs.Rate.{daily_of}
use Rattle.book_model.specs.declared.Book.{Book}
use Rattle.account.specs.Accrual.{accrued_day}
use Rattle.account.specs.declared.Day.{Day}
use Rattle.book_model.specs.Advance.{day_passed, days_passed, advanced}
use Rattle.book_model.specs.Call.{Advance}
use Rattle.book_model.specs.Calls.{book_after}
use Rattle.book_model.specs.Outcome.{Answer, answered}
use Rattle.book_model.proofs.Callers.{no_refusal_is_0, advance_cases}
use Rattle.book_model.specs.Book.{held, rates_of, order_from, with_held, with_account, with_today}
use Rattle.book_model.specs.Positions.{day_held}
use Rattle.account.specs.Schedule.{in_force}
use Rattle.book_model.specs.Schedule.{daily_on}

-- a day at a daily rate
abbrev day_at : ℕ → Book → Book
day_at d b = with_today (with_account (with_held b (map day_held (held b))) (accrued_day d b.account)) (b.today.0 + 1)

abbrev pub days_at : ℕ → ℕ → Book → Book
days_at d zero b = b
days_at d (suc n) b = day_at d (days_at d n b)

-- an Advance that answers n days passes n
pub days_answered : (b : Book) (date n : ℕ) → (advanced b date).answer ≡ answered (record { 0 = n }) → book_after b (Advance date) ≡ days_passed n b
days_answered b date n =
    advance_cases b date (λ o. o.answer ≡ answered (record { 0 = n }) → o.book ≡ days_passed n b)
    (λ r e. absurd (no_refusal_is_0 r (ap (λ a. a.number) e)))
    (λ _ e. ap (λ (a : Answer Day). days_passed a.value.0 b) e)

-- a day whose daily rate is known, and two such days
pub day_known : (d : ℕ) (b : Book) → daily_on (rates_of b) b.today.0 ≡ d → day_passed b ≡ days_at d 1 b
unfolding day_passed
day_known d b e = rw e

pub two_known : (d : ℕ) (b : Book) → daily_on (rates_of b) b.today.0 ≡ d → daily_on (rates_of b) (b.today.0 + 1) ≡ d → days_passed 2 b ≡ days_at d 2 b
unfolding days_passed with_held with_account with_today
two_known d b e f = ap day_passed (day_known d b e) ∙ day_known d (days_at d 1 b) f

module _ (annual d : ℕ) (known : daily_of annual ≡ d) (b : Book) (steady : rates_of b ≡ order_from 0 annual ∷ []) where
  rates-kept : (n : ℕ) → rates_of (days_passed n b) ≡ rates_of b
  unfolding days_passed day_passed with_held with_account with_today
  rates-kept zero = refl
  rates-kept (suc n) = rates-kept n

  day_steady : (c : Book) → rates_of c ≡ order_from 0 annual ∷ [] → day_passed c ≡ day_at d c
  unfolding in_force
  day_steady c e = day_known d c (rw (e, le-leb 0 c.today.0 (omega arith), known))

  pub days_steady : (n : ℕ) → days_passed n b ≡ days_at d n b
  unfolding days_passed
  days_steady zero = refl
  days_steady (suc n) = day_steady (days_passed n b) (rates-kept n ∙ steady) ∙ ap (day_at d) (days_steady n)
