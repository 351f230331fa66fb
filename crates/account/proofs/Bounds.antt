-- The figures of an account stay within bounds: at most `day_interest` and a cent of interest a day, and no principal but the first.
use Rattle.std.proofs.Common.{ℕ, zero, suc, ◌+◌, ◌*◌, ◌/◌, ◌%◌, ◌≤◌, arith, mul-le-mul, add-zero, add-suc, ◌≡◌, refl, cond, List, [], ◌∷◌, leb}
use Rattle.std.proofs.Math.Nat.{min-le_right}
use Rattle.general_laws.proofs.Choice.{choice}
use Rattle.rates.specs.Rate.{greatest_daily}
use Rattle.account.specs.declared.Account.{Account}
use Rattle.account.specs.declared.RateOrder.{RateOrder}
use Rattle.account.specs.Accrual.{accrued_day, accrued_days, paid_off, worth}
use Rattle.account.specs.Opening.{opening}
use Rattle.account.specs.Schedule.{in_force, stored_on}
use Rattle.account.specs.Invariant.{Fits, Bounded, Moderate, day_interest}
use Rattle.account.specs.Walk.{elapsed}

-- Bounded holds of an opening, and is kept

pub bounded-opening : (cents : ℕ) → cents ≤ 1000000000000 → Bounded 0 (opening cents)
unfolding opening
bounded-opening cents le = record { principal = omega arith; below = omega arith; interest = omega arith }

pub ruleset bounds_begin = (bounded-opening)

-- after at most 6,000 days each figure fits
pub fits : (n : ℕ) (a : Account) → n ≤ 6000 → Bounded n a → Fits a
fits n a le h =
    record {
      principal = omega (arith, h.principal);
      interest = omega (arith, h.interest);
      below = h.below;
      principal-paid = omega (arith, h.principal);
      interest-paid = omega (arith, h.interest);
    }

pub product_bound : (d : ℕ) (a : Account) → d ≤ greatest_daily → a.outstanding.0 ≤ 1000000000000 → a.outstanding.0 * d ≤ 1000000000000 * greatest_daily
product_bound d a low le = mul-le-mul le low

-- the products of days at one rate fit

pub whole_bound : (k p : ℕ) → k ≤ 6000 → p ≤ 1000000000000 * greatest_daily → k * (p / 10000000000) ≤ 6000 * day_interest
whole_bound k p few low = let q : p / 10000000000 ≤ day_interest = omega arith in mul-le-mul few q

pub rest_bound : (k p : ℕ) → k ≤ 6000 → k * (p % 10000000000) ≤ 6000 * 10000000000
rest_bound k p few = let r : p % 10000000000 ≤ 10000000000 = omega arith in mul-le-mul few r

pub bounded-day : (n d : ℕ) (a : Account) → d ≤ greatest_daily → Bounded n a → Bounded (suc n) (accrued_day d a)
unfolding accrued_day
bounded-day n d a low h =
    let g = product_bound d a low (omega (arith, h.principal)) in
    record { principal = h.principal; below = omega arith; interest = omega arith }

pub bounded-days : (n k d : ℕ) (a : Account) → d ≤ greatest_daily → Bounded n a → Bounded (n + k) (accrued_days k d a)
unfolding accrued_days
bounded-days n zero d a low h = rw (add-zero n) h
bounded-days n (suc k) d a low h = rw (add-suc n k) (bounded-day (n + k) d _ low (bounded-days n k d a low h))

pub bounded-elapsed : (daily : ℕ → ℕ) (from k : ℕ) (a : Account) → ((t : ℕ) → daily t ≤ greatest_daily) → Bounded from a → Bounded (from + k) (elapsed daily from k a)
unfolding elapsed
bounded-elapsed daily from zero a low h = rw (add-zero from) h
bounded-elapsed daily from (suc k) a low h =
    rw (add-suc from k)
    (bounded-day (from + k) (daily (from + k)) _ (low (from + k)) (bounded-elapsed daily from k a low h))

-- a settlement that is not over moves principal and interest from unpaid to paid
pub bounded-paid : (n m : ℕ) (a : Account) → m ≤ worth a → Bounded n a → Bounded n (paid_off m a)
unfolding paid_off
bounded-paid n m a le h =
    let x = min-le_right m a.due.0 in
    record { principal = omega (arith, h.principal); below = h.below; interest = omega (arith, h.interest) }

-- Principal outstanding and principal paid

pub elapsed-outstanding : (daily : ℕ → ℕ) (from k : ℕ) (a : Account) → (elapsed daily from k a).outstanding ≡ a.outstanding
unfolding elapsed accrued_day
elapsed-outstanding daily from zero a = refl
elapsed-outstanding daily from (suc k) a = elapsed-outstanding daily from k a

pub elapsed_principal_paid : (daily : ℕ → ℕ) (from k : ℕ) (a : Account) → (elapsed daily from k a).principal_paid ≡ a.principal_paid
unfolding elapsed accrued_day
elapsed_principal_paid daily from zero a = refl
elapsed_principal_paid daily from (suc k) a = elapsed_principal_paid daily from k a

pub paid_principal_kept : (m : ℕ) (a : Account) → m ≤ worth a
    → (paid_off m a).outstanding.0 + (paid_off m a).principal_paid.0 ≡ a.outstanding.0 + a.principal_paid.0
unfolding paid_off
paid_principal_kept m a le = let x = min-le_right m a.due.0 in omega arith

-- Rates in force are among the stored ones

in_force_moderate : (daily : ℕ) (orders : List RateOrder) (day : ℕ) → daily ≤ greatest_daily → Moderate orders → in_force (λ (o : RateOrder). o.daily) daily orders day ≤ greatest_daily
unfolding in_force
in_force_moderate daily [] day le p = le
in_force_moderate daily (o ∷ orders) day le p =
    in_force_moderate (cond (leb o.first.0 day) o.daily daily) orders day
    (choice (λ (n : ℕ). n ≤ greatest_daily) (leb o.first.0 day) (λ _. p.0) (λ _. le)) p.1

pub stored-most : (orders : List RateOrder) → Moderate orders → (day : ℕ) → stored_on orders day ≤ greatest_daily
stored-most orders p day = in_force_moderate 0 orders day (omega arith) p
