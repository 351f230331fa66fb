-- What `largest` is: it passes the test, and nothing larger does.
use Rattle.std.proofs.Common.{◌≡◌, Bool, true, false, ℕ, zero, suc, ◌≤◌, arith}
use Rattle.general_laws.proofs.Choice.{by_order, choice}
use Rattle.rates.specs.Rate.{largest}

pub largest_holds : (p : ℕ → Bool) (n : ℕ) → p 0 ≡ true → p (largest p n) ≡ true
unfolding largest
largest_holds p zero t = t
largest_holds p (suc n) t = choice (λ m. p m ≡ true) (p (suc n)) (λ e. e) (λ _. largest_holds p n t)

pub largest-most : (p : ℕ → Bool) (n d : ℕ) → p d ≡ true → d ≤ n → d ≤ largest p n
unfolding largest
largest-most p zero d t h = h
largest-most p (suc n) d t h = choice (λ m. d ≤ m) (p (suc n)) (λ _. h) (λ f. largest-most p n d t (not_last f))
  where
    not_last : p (suc n) ≡ false → d ≤ n
    not_last f = by_order n d (λ lt. let e : d ≡ suc n = omega arith in cc) (λ le. le)
