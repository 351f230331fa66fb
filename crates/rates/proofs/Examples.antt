-- The worked examples: each daily rate by its two bounds.
use Rattle.std.proofs.Common.{◌≡◌, refl, sym, ◌∙◌, ap, ℕ, suc, ◌≤◌, lit≤, lit<, true, false}
use Rattle.rates.specs.Rate.{within, rate_of, greatest_daily}
use Rattle.rates.specs.Examples.{Examples}
use Rattle.rates.proofs.Rule.{only}
use Rattle.rates.proofs.Answers.{accepted, refused}

found : (i d : ℕ) → i ≤ 4000 → within i d ≡ true → within i (suc d) ≡ false → rate_of i ≡ (0, d)
found i d h t u = accepted i h ∙ ap (λ (x : ℕ). (0, x)) (sym (only i d t u))

pub examples : Examples
unfolding within
examples =
    record {
      rate_0 = found 0 0 (lit≤ tt) refl refl;
      rate_1 = found 1 274 (lit≤ tt) refl refl;
      rate_2000 = found 2000 542552 (lit≤ tt) refl refl;
      rate_4000 = found 4000 greatest_daily (lit≤ tt) refl refl;
      rate_4001 = refused 4001 (lit< tt);
    }
