-- What one day and one settlement do to an account (document 01, Advance and Settle).
use Rattle.std.specs.Prelude.{ℕ, zero, suc, ◌+◌, ◌-◌, ◌*◌, ◌/◌, ◌%◌, min}
use Rattle.account.specs.declared.Account.{Account}

-- the account with another interest due and fraction
abbrev pub with_interest : Account → ℕ → ℕ → Account
with_interest a due fraction =
    record {
      outstanding = a.outstanding;
      due = record { 0 = due };
      fraction = fraction;
      principal_paid = a.principal_paid;
      interest_paid = a.interest_paid;
    }

-- "fraction + outstanding × d"
abbrev pub grown : ℕ → Account → ℕ
grown d a = a.fraction + a.outstanding.0 * d

-- "is divided by 10^10, the quotient joins interest due and the remainder is the fraction"
unfoldable pub accrued_day : ℕ → Account → Account
accrued_day d a = with_interest a (a.due.0 + grown d a / 10000000000) (grown d a % 10000000000)

-- so many days at one daily rate, one after the other
unfoldable pub accrued_days : ℕ → ℕ → Account → Account
accrued_days zero d a = a
accrued_days (suc k) d a = accrued_day d (accrued_days k d a)

-- "Interest takes the lesser of M and interest due; principal takes the rest."
abbrev pub interest_of : ℕ → Account → ℕ
interest_of m a = min m a.due.0

abbrev pub principal_of : ℕ → Account → ℕ
principal_of m a = m - interest_of m a

unfoldable pub paid_off : ℕ → Account → Account
paid_off m a =
    record {
      outstanding = record { 0 = a.outstanding.0 - principal_of m a };
      due = record { 0 = a.due.0 - interest_of m a };
      fraction = a.fraction;
      principal_paid = record { 0 = a.principal_paid.0 + principal_of m a };
      interest_paid = record { 0 = a.interest_paid.0 + interest_of m a };
    }

-- "due plus outstanding"
abbrev pub worth : Account → ℕ
worth a = a.due.0 + a.outstanding.0
