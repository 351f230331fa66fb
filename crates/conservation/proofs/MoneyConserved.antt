-- Demand 3 on the money, for a book and a tally with the same opening, today, rates and settlements.
use Rattle.std.proofs.Common.{ℕ, ◌+◌, ◌*◌, ◌≡◌, sym, ap, ◌∙◌}
use Rattle.general_laws.specs.Sums.{sum_below}
use Rattle.rates.specs.Rate.{daily_of}
use Rattle.book_model.specs.declared.Book.{Book}
use Rattle.book_model.specs.Book.{rates_of, settlements_of}
use Rattle.book_model.specs.Schedule.{daily_on}
use Rattle.account.specs.Standing.{settled_on}
use Rattle.book_model.specs.Call.{Opening}
use Rattle.conservation.specs.Tally.{Tally, daily_of_day, sums_on, sums_today, outstanding_on, due_of, outstanding_of}
use Rattle.conservation.proofs.AccountTally.{SameFigures, account_is_tally}
use Rattle.account.proofs.Callers.{principal-whole as whole-principal}
use Rattle.conservation.proofs.SameTerms.{SameTerms}
use Rattle.book_model.proofs.Callers.{Standing}
use Rattle.conservation.proofs.TallySums.{through_same, through-accrued}

-- the fields of Conserved
pub record MoneyConserved (o : Opening) (b : Book) (t : Tally) : Type 0 where
  pub principal-whole : b.account.outstanding.0 + b.account.principal_paid.0 ≡ o.cents
  pub interest-whole : 10000000000 * (b.account.interest_paid.0 + b.account.due.0) + b.account.fraction
      ≡ sum_below t.today (λ day. outstanding_on o t day * daily_of_day t day)
  pub outstanding-same : b.account.outstanding.0 ≡ outstanding_of o.cents (sums_today o t)
  pub due-same : b.account.due.0 ≡ due_of (sums_today o t)
  pub principal-same : b.account.principal_paid.0 ≡ (sums_today o t).paid_principal
  pub interest-same : b.account.interest_paid.0 ≡ (sums_today o t).paid_interest

module _ (o : Opening) (b : Book) (t : Tally) (is : Standing b) (terms : SameTerms o b t) (same-today : b.today.0 ≡ t.today)
    (same-paid : (day : ℕ) → t.paid day ≡ settled_on (settlements_of b) day) where
  figures : SameFigures o.cents b.account (sums_today o t)
  unfolding sums_on
  figures =
      rw (
        is.account-is,
        ← terms.recognised,
        ← same-today,
        through_same b.recognised.0 (daily_of_day t) (daily_on (rates_of b)) t.paid (settled_on (settlements_of b))
            (λ day. ap daily_of (sym (terms.rates day))) same-paid b.today.0,
      )
      (account_is_tally b.recognised.0 (daily_on (rates_of b)) (settlements_of b) b.today.0)

  whole : b.account.outstanding.0 + b.account.principal_paid.0 ≡ o.cents
  whole =
      rw is.account-is
      (whole-principal b.recognised.0 (daily_on (rates_of b)) (settlements_of b) is.not_over_lem b.today.0 ∙ terms.recognised)

  pub money_conserved : MoneyConserved o b t
  unfolding sums_on outstanding_on
  money_conserved =
      record {
        principal-whole = whole;
        interest-whole = figures.accrued ∙ through-accrued o.cents (daily_of_day t) t.paid t.today;
        outstanding-same = figures.outstanding;
        due-same = figures.due;
        principal-same = figures.principal-paid;
        interest-same = figures.interest-paid;
      }
