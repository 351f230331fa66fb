-- What the entries answer.
use Rattle.std.specs.Prelude.{ℕ, cond, not, List, length, ltb, Result, Ok, Err}
use Rattle.rates.specs.Rate.{greatest_daily}
use Rattle.account.specs.declared.Account.{Account}
use Rattle.account.specs.declared.RateOrder.{RateOrder}
use Rattle.account.specs.declared.Settlement.{Settlement}
use Rattle.account.specs.declared.Unreckoned.{Unreckoned}
use Rattle.account.specs.declared.Unreckoned.TheVariants.{Overpaid, OutOfRange}
use Rattle.account.specs.Accrual.{accrued_days, paid_off, worth}
use Rattle.account.specs.Ranges.{is_account, is_schedule, is_timely}
use Rattle.account.specs.Schedule.{stored_on}
use Rattle.account.specs.Standing.{account_at, overpaid}

-- so many days at one daily rate
unfoldable pub accrued : Account → ℕ → ℕ → Result Account Unreckoned
accrued a d n =
    cond (not (is_account a)) (Err OutOfRange)
    (cond (ltb greatest_daily d) (Err OutOfRange)
    (cond (ltb 6000 n) (Err OutOfRange)
    (Ok (accrued_days n d a))))

-- a settlement of m cents
unfoldable pub paid : Account → ℕ → Result Account Unreckoned
paid a m =
    cond (not (is_account a)) (Err OutOfRange)
    (cond (ltb (worth a) m) (Err Overpaid)
    (Ok (paid_off m a)))

-- the account of today under daily rates and settlements, or that a settlement is over
unfoldable pub standing : ℕ → (ℕ → ℕ) → List Settlement → ℕ → Result Account Unreckoned
standing recognised daily settlements today =
    cond (overpaid recognised daily settlements) (Err Overpaid) (Ok (account_at recognised daily settlements today))

-- the same at the daily rates that are stored
unfoldable pub replayed : ℕ → List RateOrder → List Settlement → ℕ → Result Account Unreckoned
replayed recognised rates settlements today =
    cond (ltb 1000000000000 recognised) (Err OutOfRange)
    (cond (ltb 6000 today) (Err OutOfRange)
    (cond (ltb 16 (length rates)) (Err OutOfRange)
    (cond (ltb 240 (length settlements)) (Err OutOfRange)
    (cond (not (is_schedule rates)) (Err OutOfRange)
    (cond (not (is_timely 0 settlements today)) (Err OutOfRange)
    (standing recognised (stored_on rates) settlements today))))))
