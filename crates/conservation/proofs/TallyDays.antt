-- The tally's sums over days: they rest on the days before alone.
use Rattle.std.proofs.Common.{ℕ, zero, suc, ◌+◌, ◌-◌, ◌*◌, ◌≤◌, ◌<◌, arith, add-zero, add-suc, ◌≡◌, refl, ◌∙◌, map, le-leb, leb}
use Rattle.std.proofs.Math.Option.{Option, none, some}
use Rattle.std.proofs.lemmas.Bool.{lt-leb}
use Rattle.std.specs.List.{sum}
use Rattle.general_laws.specs.Sums.{sum_below}
use Rattle.general_laws.proofs.Choice.{choice}
use Rattle.general_laws.proofs.Sums.{sum_same, sum-zero}
use Rattle.std.proofs.lemmas.List.Sums.{sum_by-le-sum_by, sum-map}
use Rattle.conservation.specs.Tally.{Tally, share_days, is_settled, last_before, weight}

-- The day of the last settlement before a day

pub last-most : (paid : ℕ → Option ℕ) (d : ℕ) → last_before paid d ≤ d - 1
unfolding last_before
last-most paid zero = omega arith
last-most paid (suc d) =
    let ih = last-most paid d in choice (λ (k : ℕ). k ≤ suc d - 1) (is_settled (paid d)) (λ _. omega arith) (λ _. omega arith)

pub last-same : (paid paid' : ℕ → Option ℕ) (d : ℕ) → ((k : ℕ) → k < d → paid k ≡ paid' k) → last_before paid d ≡ last_before paid' d
unfolding last_before
last-same paid paid' zero e = refl
last-same paid paid' (suc d) e = rw (e d (omega arith), last-same paid paid' d (λ k lt. e k (omega arith)))

-- a day without a settlement, and one with
pub last_none : (paid : ℕ → Option ℕ) (d : ℕ) → paid d ≡ none → last_before paid (suc d) ≡ last_before paid d
unfolding last_before
last_none paid d e = rw e

pub last_some : (paid : ℕ → Option ℕ) (d m : ℕ) → paid d ≡ some m → last_before paid (suc d) ≡ d
unfolding last_before
last_some paid d m e = rw e

-- n days more, none with a settlement
pub last_further : (paid : ℕ → Option ℕ) (d n : ℕ) → ((k : ℕ) → d ≤ k → paid k ≡ none) → last_before paid (d + n) ≡ last_before paid d
last_further paid d zero e = rw (add-zero d)
last_further paid d (suc n) e = rw (add-suc d n) (last_none paid (d + n) (e (d + n) (omega arith)) ∙ last_further paid d n e)

-- A holder's shares, summed over days

pub share_days_same : (t t' : Tally) (h from to : ℕ) → ((d : ℕ) → d < to → t.share h d ≡ t'.share h d) → share_days t h from to ≡ share_days t' h from to
unfolding share_days
share_days_same t t' h from to e = sum_same to _ _ (λ d lt. rw (e d lt))

-- one day more
pub share_days_more : (t : Tally) (h from d : ℕ) → from ≤ d → share_days t h from (suc d) ≡ share_days t h from d + t.share h d
unfolding share_days sum_below
share_days_more t h from d le = rw (le-leb from d le)

-- n days more, at one share
pub share_days_further : (t : Tally) (h from d share n : ℕ) → from ≤ d → ((k : ℕ) → d ≤ k → t.share h k ≡ share)
    → share_days t h from (d + n) ≡ share_days t h from d + share * n
share_days_further t h from d share zero le e = rw (add-zero d) (omega arith)
share_days_further t h from d share (suc n) le e =
    rw (add-suc d n)
    (omega (arith, share_days_more t h from (d + n) (omega arith), e (d + n) (omega arith), share_days_further t h from d share n le e))

-- no day lies between
pub share_days_none : (t : Tally) (h d : ℕ) → share_days t h d d ≡ 0
unfolding share_days
share_days_none t h d = sum-zero d _ (λ k lt. rw (lt-leb d k lt))

pub share_days_absent : (t : Tally) (h from to : ℕ) → ((d : ℕ) → t.share h d ≡ 0) → share_days t h from to ≡ 0
unfolding share_days
share_days_absent t h from to e = sum-zero to _ (λ d lt. choice (λ (k : ℕ). k ≡ 0) (leb from d) (λ _. e d) (λ _. refl))

-- A settlement's weights

pub weight-same : (t t' : Tally) (d h : ℕ) → ((k : ℕ) → k < d → t.paid k ≡ t'.paid k) → ((k : ℕ) → k < d → t.share h k ≡ t'.share h k)
    → weight t d h ≡ weight t' d h
unfolding weight
weight-same t t' d h p e = rw (last-same t.paid t'.paid d p) (share_days_same t t' h _ d e)

-- after day 0 there are unit-days to divide by
pub weights-some : (t : Tally) (d : ℕ) → 0 < d → ((k : ℕ) → sum (map (λ h. t.share h k) t.holders) ≡ 1000000)
    → 0 < sum (map (weight t d) t.holders)
unfolding weight
weights-some t zero after whole = absurd (omega arith)
weights-some t (suc d) after whole =
    let most = sum_by-le-sum_by (λ h. t.share h d) (weight t (suc d)) t.holders
    (λ h. omega (arith, share_days_more t h (last_before t.paid (suc d)) d (omega (arith, last-most t.paid (suc d))))) in
    omega (arith, whole d, sum-map (λ h. t.share h d) t.holders, sum-map (weight t (suc d)) t.holders)
