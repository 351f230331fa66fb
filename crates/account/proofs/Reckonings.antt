-- The answers of the entries where every number is in range.
use Rattle.std.proofs.Common.{ℕ, ◌≤◌, ◌≡◌, ◌∙◌, List, le-ltb, length}
use Rattle.std.specs.Prelude.{Ok}
use Rattle.rates.specs.Rate.{greatest_daily}
use Rattle.account.specs.declared.Account.{Account}
use Rattle.account.specs.declared.RateOrder.{RateOrder}
use Rattle.account.specs.declared.Settlement.{Settlement}
use Rattle.account.specs.Accrual.{accrued_days, paid_off, worth}
use Rattle.account.specs.Invariant.{Fits, Moderate, FromStart, Timely}
use Rattle.account.specs.Ranges.{is_schedule, is_timely}
use Rattle.account.specs.Reckoning.{accrued, paid, standing, replayed}
use Rattle.account.specs.Schedule.{stored_on}
use Rattle.account.proofs.RangeTests.{fits-account, schedule_told, timely-told}
use Rattle.account.proofs.Replays.{tested}

pub accrues : (a : Account) (d n : ℕ) → Fits a → d ≤ greatest_daily → n ≤ 6000 → accrued a d n ≡ Ok (accrued_days n d a)
unfolding accrued
accrues a d n h low few = rw (fits-account a h, le-ltb greatest_daily d low, le-ltb 6000 n few)

pub pays : (a : Account) (m : ℕ) → Fits a → m ≤ worth a → paid a m ≡ Ok (paid_off m a)
unfolding paid
pays a m h within = rw (fits-account a h, le-ltb (worth a) m within)

module _ (recognised : ℕ) (rates : List RateOrder) (ss : List Settlement) (today : ℕ)
    (small : recognised ≤ 1000000000000) (soon : today ≤ 6000) (few : length rates ≤ 16) (some : length ss ≤ 240) where
  pub replay_tests : replayed recognised rates ss today ≡ tested (is_schedule rates) (is_timely 0 ss today) (standing recognised (stored_on rates) ss today)
  unfolding replayed
  replay_tests =
      rw (le-ltb 1000000000000 recognised small, le-ltb 6000 today soon, le-ltb 16 (length rates) few, le-ltb 240 (length ss) some)

  pub replays : Moderate rates → FromStart rates → Timely 0 ss today → replayed recognised rates ss today ≡ standing recognised (stored_on rates) ss today
  replays m h t = replay_tests ∙ rw (schedule_told rates m h, timely-told 0 ss today t)
