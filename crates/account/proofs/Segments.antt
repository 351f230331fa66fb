-- While one order holds, the days are days at its rate.
use Rattle.std.proofs.Common.{ℕ, zero, suc, ◌+◌, ◌≤◌, ◌<◌, arith, add-zero, add-suc, add_assoc, ◌≡◌, refl, sym, true, cond, List, [], ◌∷◌, ◌++◌, le-leb, leb}
use Rattle.std.proofs.lemmas.Bool.{and_parts, lt-leb}
use Rattle.account.specs.declared.Account.{Account}
use Rattle.account.specs.declared.RateOrder.{RateOrder}
use Rattle.account.specs.Schedule.{in_force, stored_on}
use Rattle.account.specs.Accrual.{accrued_days}
use Rattle.account.specs.Invariant.{Rising}
use Rattle.account.specs.Ranges.{is_next, is_rising}
use Rattle.account.specs.Walk.{elapsed, Next}
use Rattle.account.proofs.RangeTests.{rising_says}

-- Properties of elapsed

-- days, and then more days
pub elapsed-add : (daily : ℕ → ℕ) (from j k : ℕ) (a : Account) → elapsed daily from (j + k) a ≡ elapsed daily (from + j) k (elapsed daily from j a)
unfolding elapsed
elapsed-add daily from j zero a = rw (add-zero j)
elapsed-add daily from j (suc k) a = rw (add-suc j k, elapsed-add daily from j k a, add_assoc)

-- days at one rate
pub elapsed_constant : (daily : ℕ → ℕ) (d from k : ℕ) (a : Account) → ((t : ℕ) → from ≤ t → t < from + k → daily t ≡ d) → elapsed daily from k a ≡ accrued_days k d a
unfolding elapsed accrued_days
elapsed_constant daily d from zero a same = refl
elapsed_constant daily d from (suc k) a same =
    rw (same (from + k) (omega arith) (omega arith), elapsed_constant daily d from k a (λ t le lt. same t le (omega arith)))

-- days at rates that are the same from the first of them on
pub elapsed_same : (daily daily' : ℕ → ℕ) (from k : ℕ) (a : Account) → ((t : ℕ) → from ≤ t → daily t ≡ daily' t) → elapsed daily from k a ≡ elapsed daily' from k a
unfolding elapsed
elapsed_same daily daily' from zero a same = refl
elapsed_same daily daily' from (suc k) a same = rw (same (from + k) (omega arith), elapsed_same daily daily' from k a same)

-- Orders that follow one another, after a first one: none of them has begun

none-begun : (of : RateOrder → ℕ) (daily : ℕ) (os : List RateOrder) (day t : ℕ) → Rising day os → t ≤ day → in_force of daily os t ≡ daily
unfolding in_force
none-begun of daily [] day t r le = refl
none-begun of daily (o ∷ os) day t r le =
    rw (lt-leb o.first.0 t (omega (arith, r.0))) (none-begun of daily os o.first.0 t r.1 (omega (arith, r.0)))

pub none_until : (of : RateOrder → ℕ) (daily : ℕ) (os : List RateOrder) (day to t : ℕ) → is_rising day os ≡ true → Next day to os → t < to → in_force of daily os t ≡ daily
unfolding in_force is_rising
none_until of daily [] day to t r next lt = refl
none_until of daily (o ∷ os) day to t r next lt =
    let h = and_parts (is_next day o) _ r in
    let begins = next o os refl h.0 in
    rw (lt-leb o.first.0 t (omega arith)) (none-begun of daily os o.first.0 t (rising_says _ _ h.1) (omega arith))

-- From the day on which the last order has begun, its daily rate holds

in_force_last : (of : RateOrder → ℕ) (daily : ℕ) (os : List RateOrder) (o : RateOrder) (t : ℕ) → o.first.0 ≤ t → in_force of daily (os ++ (o ∷ [])) t ≡ of o
unfolding in_force
in_force_last of daily [] o t le = rw (le-leb o.first.0 t le)
in_force_last of daily (x ∷ os) o t le = in_force_last of (cond (leb x.first.0 t) (of x) daily) os o t le

pub elapsed-last : (os : List RateOrder) (o : RateOrder) (from k : ℕ) (a : Account) → o.first.0 ≤ from
    → accrued_days k o.daily a ≡ elapsed (stored_on (os ++ (o ∷ []))) from k a
elapsed-last os o from k a le =
    sym (elapsed_constant (stored_on (os ++ (o ∷ []))) o.daily from k a (λ t low high. in_force_last (λ (x : RateOrder). x.daily) 0 os o t (omega arith)))
