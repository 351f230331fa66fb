-- A rate order sets the rate from its first day on, and leaves the account up to that day as it was.
use Rattle.std.proofs.Common.{ℕ, ◌≤◌, ◌<◌, arith, ◌≡◌, refl, ap, ◌∙◌, Bool, true, false, cond, List, [], ◌∷◌, ◌++◌, ltb-false, leb-false, le-leb, leb, ltb, length, drop}
use Rattle.std.proofs.Math.Seq.{take-append_seam}
use Rattle.std.proofs.lemmas.Bool.{lt-leb}
use Rattle.rates.specs.Rate.{daily_of}
use Rattle.account.specs.declared.Account.{Account}
use Rattle.book_model.specs.declared.Book.{Book}
use Rattle.account.specs.declared.RateOrder.{RateOrder}
use Rattle.account.specs.declared.Settlement.{Settlement}
use Rattle.book_model.specs.Book.{rates_of, order_from}
use Rattle.book_model.specs.Rate.{starting_before, with_rate, with_rates}
use Rattle.book_model.specs.Schedule.{annual_on, daily_on}
use Rattle.account.specs.Schedule.{in_force}
use Rattle.account.specs.Standing.{settled_on, paying_off, account_at}
use Rattle.account.proofs.Callers.{begins-same}

pub rates-with_rates : (b : Book) (orders : List RateOrder) (a : Account) → rates_of (with_rates b orders a) ≡ orders
unfolding with_rates
rates-with_rates b orders a = take-append_seam orders (drop (length orders) b.rates)

abbrev annual_of : RateOrder → ℕ
annual_of o = o.annual

-- the rate of an opening, on every day
pub annual-opened : (annual t : ℕ) → annual_on (order_from 0 annual ∷ []) t ≡ annual
unfolding in_force
annual-opened annual t = rw (le-leb 0 t (omega arith))

in_force_joined : (annual : ℕ) (orders : List RateOrder) (o : RateOrder) (t : ℕ)
    → in_force annual_of annual (orders ++ (o ∷ [])) t ≡ cond (leb o.first.0 t) o.annual (in_force annual_of annual orders t)
unfolding in_force
in_force_joined annual [] o t = refl
in_force_joined annual (x ∷ orders) o t = in_force_joined (cond (leb x.first.0 t) x.annual annual) orders o t

-- before a day the rates that start from it on are not in force
in_force_before : (annual first : ℕ) (orders : List RateOrder) (t : ℕ) → t < first
    → in_force annual_of annual (starting_before first orders) t ≡ in_force annual_of annual orders t
unfolding in_force starting_before
in_force_before annual first [] t lt = refl
in_force_before annual first (o ∷ orders) t lt = go (ltb o.first.0 first) refl (λ a. in_force_before a first orders t lt)
  where
    go : (b : Bool) → ltb o.first.0 first ≡ b → ((a : ℕ) → in_force annual_of a (starting_before first orders) t ≡ in_force annual_of a orders t)
        → in_force annual_of annual (cond b (o ∷ starting_before first orders) (starting_before first orders)) t
        ≡ in_force annual_of (cond (leb o.first.0 t) o.annual annual) orders t
    go true e ih = ih (cond (leb o.first.0 t) o.annual annual)
    go false e ih = let le = ltb-false o.first.0 first e in rw (lt-leb o.first.0 t (omega arith)) (ih annual)

module _ (orders : List RateOrder) (o : RateOrder) where
  -- "Rate sets its rate from its date on"
  pub rate_sets_from : (t : ℕ) → annual_on (with_rate o orders) t ≡ cond (leb o.first.0 t) o.annual (annual_on orders t)
  rate_sets_from t = in_force_joined 0 (starting_before o.first.0 orders) o t ∙ go (leb o.first.0 t) refl
    where
      go : (b : Bool) → leb o.first.0 t ≡ b
          → cond b o.annual (annual_on (starting_before o.first.0 orders) t) ≡ cond b o.annual (annual_on orders t)
      go true e = refl
      go false e = in_force_before 0 o.first.0 orders t (leb-false _ _ e)

  pub rate_kept_before : (t : ℕ) → t < o.first.0 → daily_on (with_rate o orders) t ≡ daily_on orders t
  rate_kept_before t lt = ap daily_of (rate_sets_from t ∙ rw (lt-leb o.first.0 t lt))

  pub account_kept_before : (cents : ℕ) (ss : List Settlement) (day : ℕ) → day ≤ o.first.0
      → account_at cents (daily_on (with_rate o orders)) ss day ≡ account_at cents (daily_on orders) ss day
  unfolding account_at
  account_kept_before cents ss day le =
      ap (paying_off (settled_on ss day))
      (begins-same cents (daily_on (with_rate o orders)) (daily_on orders) (settled_on ss) (settled_on ss) day
      (λ t lt. rate_kept_before t (omega arith)) (λ t lt. refl))
