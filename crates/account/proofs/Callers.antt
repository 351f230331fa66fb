-- What callers may cite of this crate, by the file that proves it.

-- The figures of an account stay within bounds: at most `day_interest` and a cent of interest a day, and no principal but the first.
pub use Rattle.account.proofs.Bounds.{bounded-elapsed, bounded-opening, bounded-paid, elapsed-outstanding, elapsed_principal_paid, fits, paid_principal_kept, stored-most}
-- While one order holds, the days are days at its rate.
pub use Rattle.account.proofs.Segments.{elapsed-last}
-- Stored settlements beside today: a later today, and one settlement more.
pub use Rattle.account.proofs.Timeline.{last-joined, last_within, timely-joined, timely-later}
-- A day's settlement off the stored list: none after the last, and one settlement more.
pub use Rattle.account.proofs.SettledDays.{none_after_last, none_after_today, none_yet, settled-joined}
-- The account from day to day: days without a settlement elapse, and a settlement pays off.
pub use Rattle.account.proofs.AccountSteps.{account-elapsed, account_paid_off, begins-same}
-- Where no settlement is over due plus outstanding, the principal is whole on every day; and one settlement more that is not over.
pub use Rattle.account.proofs.NotOverpaid.{not_over_joined, principal-whole}
-- Where no settlement is over due plus outstanding, the account of every day stays within the bounds of that day.
pub use Rattle.account.proofs.AccountBounds.{account-bounded}
-- The answers of the entries where every number is in range, and what callers learn of one.
pub use Rattle.account.proofs.Reckonings.{accrues, pays, replays}
pub use Rattle.account.proofs.InRange.{is-over, stands}
