-- Interest over k days at one rate, at once: with outstanding × d = p it is (fraction + k × p) / 10^10.
use Rattle.std.proofs.Common.{ℕ, zero, suc, ◌+◌, ◌*◌, ◌/◌, ◌%◌, ◌<◌, arith, mul-add, mul_comm, mul_left_comm, mul-suc, ◌≡◌, refl, ap, ◌∙◌}
use Rattle.std.proofs.Math.Nat.{div-add-mod}
use Rattle.account.specs.declared.Account.{Account}
use Rattle.account.specs.Accrual.{with_interest, accrued_day, accrued_days}

same-interest : (a : Account) {due due' fraction fraction' : ℕ} → due ≡ due' → fraction ≡ fraction'
    → with_interest a due fraction ≡ with_interest a due' fraction'
same-interest a p q = rw (p, q)

-- the sums of k days, undivided
pub together : (k d units : ℕ) (a : Account) → a.fraction < 10000000000 → units ≡ a.outstanding.0 * d * k + a.fraction
    → with_interest a (a.due.0 + units / 10000000000) (units % 10000000000) ≡ accrued_days k d a
unfolding accrued_days accrued_day
together zero d units a below e = same-interest a (omega arith) (omega arith)
together (suc k) d units a below e =
    let more = mul-suc (a.outstanding.0 * d) k in
    same-interest a (omega arith) (omega arith) ∙ ap (accrued_day d) (together k d _ a below refl)

split : (k p : ℕ) → p * k ≡ 10000000000 * (k * (p / 10000000000)) + k * (p % 10000000000)
split k p =
    grind (arith, mul_comm p k, div-add-mod p 10000000000, mul-add k (10000000000 * (p / 10000000000)) (p % 10000000000), mul_left_comm k 10000000000 (p / 10000000000))

-- with p = q × 10^10 + r it is k × q + (fraction + k × r) / 10^10
pub apart : (k p : ℕ) (a : Account)
    → with_interest a (a.due.0 + k * (p / 10000000000) + (a.fraction + k * (p % 10000000000)) / 10000000000) ((a.fraction + k * (p % 10000000000)) % 10000000000)
    ≡ with_interest a (a.due.0 + (p * k + a.fraction) / 10000000000) ((p * k + a.fraction) % 10000000000)
apart k p a = let e = split k p in same-interest a (omega arith) (omega arith)
