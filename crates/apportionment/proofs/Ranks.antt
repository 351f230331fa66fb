-- Of n positions ordered by remainder, greatest first and earlier first among equals, exactly l have a rank below l.
use Rattle.std.proofs.Common.{ℕ, zero, suc, ◌+◌, ◌≤◌, ◌<◌, arith, ◌≡◌, ap, true, false, cond, ltb, lt-ltb, le-ltb}
use Rattle.std.proofs.lemmas.Bool.Decides.{nat_tests}
use Rattle.general_laws.specs.Sums.{count_below}
use Rattle.general_laws.proofs.Choice.{by_order, ltb_same}
use Rattle.general_laws.proofs.Counts.{bit_true, bit_false, count_same, count_le, count_lt, count-suc, count_most}
use Rattle.apportionment.specs.Apportionment.{comes_before, rank}

-- Properties of comes_before

module _ (r : ℕ → ℕ) (j k : ℕ) where
  pub greater_before : r k < r j → comes_before r j k ≡ true
  unfolding comes_before
  greater_before h = rw (lt-ltb (r k) (r j) h)

  -- an earlier position comes before where its remainder is not less
  pub earlier_before : j < k → r k ≤ r j → comes_before r j k ≡ true
  unfolding comes_before
  earlier_before lt le = grind (arith, nat_tests)

  -- a later one only where its remainder is greater
  pub later_not_before : k ≤ j → r j ≤ r k → comes_before r j k ≡ false
  unfolding comes_before
  later_not_before lt le = grind (arith, nat_tests)

pub before_trans : (r : ℕ → ℕ) (i j k : ℕ) → comes_before r i j ≡ true → comes_before r j k ≡ true → comes_before r i k ≡ true
unfolding comes_before
before_trans r i j k s t = grind (arith, nat_tests)

-- Properties of rank

pub rank-suc : (r : ℕ → ℕ) (n k : ℕ) → rank r (suc n) k ≡ rank r n k + cond (comes_before r n k) 1 0
unfolding rank
rank-suc r n k = count-suc n (λ j. comes_before r j k)

-- a position before another has a lower rank
pub rank-lower : (r : ℕ → ℕ) (n j k : ℕ) → j < n → comes_before r j k ≡ true → rank r n j < rank r n k
unfolding rank
rank-lower r n j k lt t =
    count_lt n (λ i. comes_before r i j) (λ i. comes_before r i k) j lt
    (λ i _ s. before_trans r i j k s t)
    (later_not_before r j j (omega arith) (omega arith)) t

pub rank_least : (r : ℕ → ℕ) (n j k : ℕ) → comes_before r j k ≡ true → rank r n j ≤ rank r n k
unfolding rank
rank_least r n j k t = count_le n (λ i. comes_before r i j) (λ i. comes_before r i k) (λ i _ s. before_trans r i j k s t)

pub rank_most : (r : ℕ → ℕ) (n k : ℕ) → rank r n k ≤ n
unfolding rank
rank_most r n k = count_most n (λ j. comes_before r j k)

-- One position n more: those that come before it keep their rank, those that it comes before go down by one.
module _ (r : ℕ → ℕ) (n : ℕ) where
  kept : (k : ℕ) → r n ≤ r k → k ≤ n → rank r (suc n) k ≡ rank r n k
  kept k le lt = let e = rank-suc r n k in let z = bit_false (comes_before r n k) (later_not_before r n k lt le) in omega arith

  lowered : (k : ℕ) → r k < r n → rank r (suc n) k ≡ rank r n k + 1
  lowered k lt = let e = rank-suc r n k in let z = bit_true (comes_before r n k) (greater_before r n k lt) in omega arith

  -- where the new position gets no unit, the others are as before
  same_units : (l : ℕ) → l ≤ rank r n n → (k : ℕ) → k < n → ltb (rank r (suc n) k) l ≡ ltb (rank r n k) l
  same_units l le k lt =
      by_order (r k) (r n)
      (λ less.
      let e = lowered k less in
      let g = rank_least r n n k (greater_before r n k less) in
      ltb_same (rank r (suc n) k) l (rank r n k) l (λ h. absurd (omega arith)) (λ h. absurd (omega arith)))
      (λ ge. ap (λ (x : ℕ). ltb x l) (kept k ge (omega arith)))

  -- where it gets one, the others are as before with one unit less
  fewer_units : (l : ℕ) → rank r n n ≤ l → (k : ℕ) → k < n → ltb (rank r (suc n) k) (suc l) ≡ ltb (rank r n k) l
  fewer_units l le k lt =
      by_order (r k) (r n)
      (λ less.
      let e = lowered k less in
      ltb_same (rank r (suc n) k) (suc l) (rank r n k) l (λ h. omega arith) (λ h. omega arith))
      (λ ge.
      let e = kept k ge (omega arith) in
      let g = rank-lower r n k n lt (earlier_before r k n lt ge) in
      ltb_same (rank r (suc n) k) (suc l) (rank r n k) l (λ h. omega arith) (λ h. omega arith))

  -- so l units among n positions, for every l, give l units among one more
  module _ (ih : (l : ℕ) → l ≤ n → count_below n (λ k. ltb (rank r n k) l) ≡ l) where
    own : rank r (suc n) n ≡ rank r n n
    own = kept n (omega arith) (omega arith)

    last_none : (l : ℕ) → l ≤ rank r n n → count_below (suc n) (λ k. ltb (rank r (suc n) k) l) ≡ l
    last_none l le =
        let e = count-suc n (λ k. ltb (rank r (suc n) k) l) in
        let s = count_same n (λ k. ltb (rank r (suc n) k) l) (λ k. ltb (rank r n k) l) (same_units l le) in
        let z = bit_false (ltb (rank r (suc n) n) l) (le-ltb (rank r (suc n) n) l (omega (arith, own))) in
        omega (arith, ih l (omega (arith, rank_most r n n)))

    last_one : (l : ℕ) → rank r n n ≤ l → l ≤ n → count_below (suc n) (λ k. ltb (rank r (suc n) k) (suc l)) ≡ suc l
    last_one l le most =
        let e = count-suc n (λ k. ltb (rank r (suc n) k) (suc l)) in
        let s = count_same n (λ k. ltb (rank r (suc n) k) (suc l)) (λ k. ltb (rank r n k) l) (fewer_units l le) in
        let z = bit_true (ltb (rank r (suc n) n) (suc l)) (lt-ltb (rank r (suc n) n) (suc l) (omega (arith, own))) in
        omega (arith, ih l most)

    one_more : (l : ℕ) → l ≤ suc n → count_below (suc n) (λ k. ltb (rank r (suc n) k) l) ≡ l
    one_more zero le = last_none zero (omega arith)
    one_more (suc l) le = by_order l (rank r n n) (λ lt. last_none (suc l) (omega arith)) (λ ge. last_one l ge (omega arith))

pub exactly : (r : ℕ → ℕ) (n l : ℕ) → l ≤ n → count_below n (λ k. ltb (rank r n k) l) ≡ l
exactly r zero l le = let e = count_most 0 (λ k. ltb (rank r 0 k) l) in omega arith
exactly r (suc n) l le = one_more r n (exactly r n) l le
