-- The account of every day has the tally's figures: each step of the one is a step of the other.
use Rattle.std.proofs.Common.{ℕ, zero, suc, ◌+◌, ◌-◌, ◌*◌, ◌/◌, ◌≤◌, ◌<◌, min, arith, ◌≡◌, refl, ap, List}
use Rattle.std.proofs.Math.Nat.{min-le_right}
use Rattle.std.proofs.Math.Option.{Option, none, some}
use Rattle.account.specs.declared.Account.{Account}
use Rattle.account.specs.declared.Settlement.{Settlement}
use Rattle.account.specs.Accrual.{accrued_day, paid_off}
use Rattle.account.specs.Opening.{opening}
use Rattle.account.specs.Standing.{settled_on, paying_off, day_begins, account_at}
use Rattle.conservation.specs.Tally.{Sums, no_sums, due_of, outstanding_of, paying, elapsing, before, through}

pub record SameFigures (cents : ℕ) (a : Account) (s : Sums) : Type 0 where
  pub due : a.due.0 ≡ due_of s
  pub outstanding : a.outstanding.0 ≡ outstanding_of cents s
  pub interest-paid : a.interest_paid.0 ≡ s.paid_interest
  pub principal-paid : a.principal_paid.0 ≡ s.paid_principal
  pub accrued : 10000000000 * (a.interest_paid.0 + a.due.0) + a.fraction ≡ s.accrued
  pub below : a.fraction < 10000000000

opening-agrees : (cents : ℕ) → SameFigures cents (opening cents) no_sums
unfolding opening
opening-agrees cents =
    record {
      due = omega arith;
      outstanding = omega arith;
      interest-paid = refl;
      principal-paid = refl;
      accrued = omega arith;
      below = omega arith;
    }

-- what is taken from a difference is added to what it lacks
less-more : (left whole gone x y : ℕ) → left ≡ whole - gone → x ≡ y → left - x ≡ whole - (gone + y)
less-more left whole gone x y e f = omega arith

-- interest that is due becomes paid
due_to_paid : (paid due fraction accrued x : ℕ) → x ≤ due → 10000000000 * (paid + due) + fraction ≡ accrued
    → 10000000000 * (paid + x + (due - x)) + fraction ≡ accrued
due_to_paid paid due fraction accrued x le e = omega arith

paid-agrees : (cents : ℕ) (p : Option ℕ) (a : Account) (s : Sums) → SameFigures cents a s → SameFigures cents (paying_off p a) (paying p s)
unfolding paid_off
paid-agrees cents none a s h = h
paid-agrees cents (some m) a s h =
    let same : min m a.due.0 ≡ min m (due_of s) = ap (min m) h.due in
    let rest : m - min m a.due.0 ≡ m - min m (due_of s) = ap (λ (n : ℕ). m - n) same in
    record {
      due = less-more a.due.0 (s.accrued / 10000000000) s.paid_interest _ _ h.due same;
      outstanding = less-more a.outstanding.0 cents s.paid_principal _ _ h.outstanding rest;
      interest-paid = rw (h.interest-paid, same);
      principal-paid = rw (h.principal-paid, same);
      accrued =
          due_to_paid a.interest_paid.0 a.due.0 a.fraction s.accrued _ (min-le_right m a.due.0) h.accrued;
      below = h.below;
    }

day-agrees : (cents d : ℕ) (a : Account) (s : Sums) → SameFigures cents a s → SameFigures cents (accrued_day d a) (elapsing cents d s)
unfolding accrued_day
day-agrees cents d a s h =
    let grown : a.outstanding.0 * d ≡ outstanding_of cents s * d = ap (λ (n : ℕ). n * d) h.outstanding in
    record {
      due = omega arith;
      outstanding = h.outstanding;
      interest-paid = h.interest-paid;
      principal-paid = h.principal-paid;
      accrued = omega arith;
      below = omega arith;
    }

begins-agrees : (cents : ℕ) (daily : ℕ → ℕ) (paid : ℕ → Option ℕ) (day : ℕ)
    → SameFigures cents (day_begins cents daily paid day) (before cents daily paid day)
unfolding day_begins before
begins-agrees cents daily paid zero = opening-agrees cents
begins-agrees cents daily paid (suc day) =
    day-agrees cents (daily day) _ _ (paid-agrees cents (paid day) _ _ (begins-agrees cents daily paid day))

-- also where a settlement is over
pub account_is_tally : (cents : ℕ) (daily : ℕ → ℕ) (settlements : List Settlement) (day : ℕ)
    → SameFigures cents (account_at cents daily settlements day) (through cents daily (settled_on settlements) day)
unfolding account_at through
account_is_tally cents daily settlements day =
    paid-agrees cents (settled_on settlements day) _ _ (begins-agrees cents daily (settled_on settlements) day)
