-- What callers may cite of this crate, by the file that proves it.

-- The book with another array of positions.
pub use Rattle.book_model.proofs.Filled.{with_array}
-- A book's positions in use after others replace them.
pub use Rattle.book_model.proofs.ChangedBook.{Roomy, length-held}
-- What a caller shows: the book that a call gave back is reached.
pub use Rattle.book_model.proofs.CallsReach.{advance-reached, call-reached, open_reached, rate-reached, reached_by, settle-reached, transfer-reached}
-- Days passed one by one are days passed at once.
pub use Rattle.book_model.proofs.DaysPassed.{days_at_once}
-- Positions that are paid, each by its place, and the book after a settlement.
pub use Rattle.book_model.proofs.Paid.{divided, length-paid, paid-at, paid_by_parts, parts-most, receipt_most, receipts-settled}
-- The positions of an opening: one for each holder, in order, with its share and nothing else yet.
pub use Rattle.book_model.proofs.Founded.{founded-at, founded-receipts, founded-shares, length-founded}
-- What an accepted financing tells of its holders and shares.
pub use Rattle.book_model.proofs.Financing.{Financed, financed}
-- Stored rates as the account takes them: each daily number is its annual rate's, and from today on the last one holds.
pub use Rattle.book_model.proofs.RatesInForce.{daily-most, last_elapses, last-order, moderate, priced-at, stored_is_daily}
-- A call is accepted where all of its conditions hold; otherwise it is refused and the book stays.
pub use Rattle.book_model.proofs.Accepted.{AdvanceRight, RateRight, SettleRight, TransferRight, account_after, advance_cases, days_to, no_refusal_is_0, refusal_within, open_cases, order_of, rate_cases, rates_after, settle_cases, transfer_cases}
-- Where a holder stands among positions, and what a search for it found.
pub use Rattle.book_model.proofs.Places.{found_at, found_nothing, share-at}
-- Positions after parts of a share went from a cedent to an assignee: what stays the same.
pub use Rattle.book_model.proofs.Assigned.{assigned, receipts-kept}
-- The cases of Transfer.
pub use Rattle.book_model.proofs.Transfers.{Cedent, moved-between, moved-last, moved_none, moved-over, share-most, transfer-other}
-- Every reached book is sound.
pub use Rattle.book_model.proofs.Kept.{empty-sound, sound}
pub use Rattle.book_model.proofs.SoundOnce.{is_sound}
-- What each accepted call changes, and what it leaves.
pub use Rattle.book_model.proofs.Steps.{AdvanceStep, OpenStep, SameRight, SettleStep, TransferStep, advance_step, open_step, settle_step, transfer_step}
-- A settlement that is accepted, and the book after it.
pub use Rattle.book_model.proofs.Settlements.{accepted, put-together}
-- Today of an open book is a date, and what its totals are.
pub use Rattle.book_model.proofs.Readings.{today-counted, totals_open}
-- A rate order sets the rate from its first day on, and leaves the account up to that day as it was.
pub use Rattle.book_model.proofs.RateOrders.{annual-opened, rate_sets_from, rates-with_rates}
-- In every reached book the account is what the recognised cents, rates, settlements and today make it, and no settlement is over.
pub use Rattle.book_model.proofs.StandingKept.{Standing, standing}
-- Stored rates follow one another by first day, so those that start before a day are the first ones, and an order may follow them.
pub use Rattle.book_model.proofs.StoredRates.{count_most, from_start_with, length_with, priced_with, stored, stored_in_use}
