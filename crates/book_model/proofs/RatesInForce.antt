-- Stored rates as the account takes them: each daily number is its annual rate's, and from today on the last one holds.
use Rattle.std.proofs.Common.{ℕ, zero, suc, ◌-◌, ◌≤◌, ◌<◌, arith, ◌≡◌, refl, sym, ap, subst, ◌∙◌, Bool, true, false, cond, List, [], ◌∷◌, ◌++◌, leb, length, take, get_or}
use Rattle.std.proofs.Math.Path.{fun_ext}
use Rattle.rates.proofs.Callers.{greatest, none_at_0}
use Rattle.rates.specs.Rate.{daily_of, greatest_daily}
use Rattle.account.specs.declared.Account.{Account}
use Rattle.account.specs.declared.RateOrder.{RateOrder}
use Rattle.account.specs.Accrual.{accrued_days}
use Rattle.account.specs.Opening.{no_order}
use Rattle.account.specs.Invariant.{Moderate, FromStart}
use Rattle.account.specs.Walk.{elapsed}
use Rattle.account.specs.Schedule.{in_force, stored_on}
use Rattle.book_model.specs.Schedule.{daily_on}
use Rattle.account.proofs.Callers.{stored-most, elapsed-last}
use Rattle.book_model.specs.Invariant.{Priced, Begun}

-- The daily number in force is the daily rate of the annual rate in force

daily_of_annual : (annual : ℕ) (os : List RateOrder) (t : ℕ) → Priced os
    → in_force (λ (o : RateOrder). o.daily) (daily_of annual) os t ≡ daily_of (in_force (λ (o : RateOrder). o.annual) annual os t)
unfolding in_force
daily_of_annual annual [] t p = refl
daily_of_annual annual (o ∷ os) t p =
    ap (λ (d : ℕ). in_force (λ (o : RateOrder). o.daily) d os t) (chosen (leb o.first.0 t))
    ∙ daily_of_annual (cond (leb o.first.0 t) o.annual annual) os t p.2
  where
    chosen : (b : Bool) → cond b o.daily (daily_of annual) ≡ daily_of (cond b o.annual annual)
    chosen true = p.1
    chosen false = refl

pub stored_is_daily : (os : List RateOrder) → Priced os → stored_on os ≡ daily_on os
stored_is_daily os p =
    fun_ext λ t. ap (λ (d : ℕ). in_force (λ (o : RateOrder). o.daily) d os t) (sym none_at_0) ∙ daily_of_annual 0 os t p

pub moderate : (os : List RateOrder) → Priced os → Moderate os
moderate [] p = tt
moderate (o ∷ os) p = (rw p.1 (greatest o.annual p.0), moderate os p.2)

pub daily-most : (orders : List RateOrder) → Priced orders → (day : ℕ) → daily_on orders day ≤ greatest_daily
daily-most orders p day =
    subst (λ (daily : ℕ → ℕ). daily day ≤ greatest_daily) (stored_is_daily orders p) (stored-most orders (moderate orders p) day)

-- From today on the last holds

last-after : (o : RateOrder) (n : ℕ) (rs : List RateOrder) (today : ℕ) → Begun (o ∷ take n rs) today → n ≤ length rs
    → ((get_or (o ∷ rs) n no_order).first.0 ≤ today) × (o ∷ take n rs ≡ take n (o ∷ rs) ++ (get_or (o ∷ rs) n no_order ∷ []))
last-after o zero rs today h room = (h.0, refl)
last-after o (suc n) [] today h room = absurd (omega arith)
last-after o (suc n) (x ∷ rs) today h room =
    let more = last-after x n rs today h.1 (omega arith) in (more.0, ap (λ (l : List RateOrder). o ∷ l) more.1)

pub last-order : (n : ℕ) (rs : List RateOrder) (today : ℕ) → FromStart (take n rs) → Begun (take n rs) today → n ≤ length rs
    → (0 < n) × ((get_or rs (n - 1) no_order).first.0 ≤ today) × (take n rs ≡ take (n - 1) rs ++ (get_or rs (n - 1) no_order ∷ []))
last-order zero rs today h begun room = absurd h
last-order (suc n) [] today h begun room = absurd (omega arith)
last-order (suc n) (o ∷ rs) today h begun room =
    let last = last-after o n rs today begun (omega arith) in
    let e : suc n - 1 ≡ n = omega arith in
    (omega arith, rw e last.0, rw e last.1)

-- the days from today on, at its daily rate
pub last_elapses : (n : ℕ) (rs : List RateOrder) (today k : ℕ) (a : Account) → Priced (take n rs) → FromStart (take n rs) → Begun (take n rs) today → n ≤ length rs
    → accrued_days k (get_or rs (n - 1) no_order).daily a ≡ elapsed (daily_on (take n rs)) today k a
last_elapses n rs today k a p h begun room =
    let last = last-order n rs today h begun room in
    elapsed-last (take (n - 1) rs) (get_or rs (n - 1) no_order) today k a last.1
    ∙ ap (λ (os : List RateOrder). elapsed (stored_on os) today k a) (sym last.2)
    ∙ ap (λ (daily : ℕ → ℕ). elapsed daily today k a) (stored_is_daily (take n rs) p)

-- an order that is stored has a daily rate
pub priced-at : (n : ℕ) (rs : List RateOrder) (at : ℕ) → Priced (take n rs) → n ≤ length rs → at < n → (get_or rs at no_order).daily ≤ greatest_daily
priced-at zero rs at p room lt = absurd (omega arith)
priced-at (suc n) [] at p room lt = absurd (omega arith)
priced-at (suc n) (o ∷ rs) zero p room lt = rw p.1 (greatest o.annual p.0)
priced-at (suc n) (o ∷ rs) (suc at) p room lt = priced-at n rs at p.2 (omega arith) (omega arith)
