-- Where the leftover units run out: the threshold decides as the rank does.
use Rattle.std.proofs.Common.{ℕ, ◌+◌, ◌≤◌, ◌<◌, arith, add-one, ◌≡◌, refl, sym, ap, ◌∙◌, Bool, cond, List, [], ◌∷◌, ltb, leb, eqb, length, set, ltb-true, lt-ltb, le-ltb, le-leb, eq-eqb, ne_eqb}
use Rattle.std.proofs.lemmas.Bool.Decides.{nat_tests}
use Rattle.std.specs.Int.{from_bool}
use Rattle.std.specs.List.{count_by}
use Rattle.std.specs.Prelude.{Option, None, Some, MatchOption, EachIndex}
use Rattle.std.specs.Option.{unwrap_or}
use Rattle.std.proofs.lemmas.List.Sums.{sum_by-cons}
use Rattle.general_laws.specs.Sums.{sum_below, count_below, list_below}
use Rattle.general_laws.proofs.Choice.{by_order, ltb_same}
use Rattle.general_laws.proofs.Counts.{bit_true, bit_false, count_le, count_lt, count-suc, count-all, count_none}
use Rattle.general_laws.proofs.Lists.{list_at, list_of, list_set}
use Rattle.general_laws.proofs.Sums.{sum-none, sum_first, sum_same, sum-add, sum-cut}
use Rattle.apportionment.specs.Apportionment.{comes_before, rank}
use Rattle.apportionment.specs.Steps.{at, above, not_below, equals, Threshold, with_extra}

-- those of a list that pass a test, counted by their places
pub counted : (test : ℕ → Bool) (xs : List ℕ) → count_by test xs ≡ count_below (length xs) (λ j. test (at xs j))
unfolding count_below
counted test [] = sum-none (λ j. cond (test (at [] j)) 1 0)
counted test (x ∷ xs) =
    sum_by-cons (λ y. cond (test y) 1 0) x xs
    ∙ ap (λ (n : ℕ). cond (test x) 1 0 + n) (counted test xs)
    ∙ sym (sum_first (length xs) (λ j. cond (test (at (x ∷ xs) j)) 1 0))

-- The least and the greatest of the numbers

pub least_of : (rs : List ℕ) (o : Option ℕ) (b : ℕ) → b ≡ unwrap_or o 0 → MatchOption o (length rs ≡ 0) (λ m. EachIndex rs (λ k. m ≤ at rs k)) → EachIndex rs (λ k. b ≤ at rs k)
least_of rs None b e none k lt = absurd (omega arith)
least_of rs (Some m) b e h k lt = omega (arith, h k lt)

pub greatest_of : (rs : List ℕ) (o : Option ℕ) (b : ℕ) → b ≡ unwrap_or o 0 → MatchOption o (length rs ≡ 0) (λ m. EachIndex rs (λ k. at rs k ≤ m)) → EachIndex rs (λ k. at rs k ≤ b)
greatest_of rs None b e none k lt = absurd (omega arith)
greatest_of rs (Some m) b e h k lt = omega (arith, h k lt)

pub none_above : (rs : List ℕ) (b : ℕ) → EachIndex rs (λ k. at rs k ≤ b) → above rs b ≡ 0
none_above rs b most = counted (λ r. ltb b r) rs ∙ count_none (length rs) (λ j. ltb b (at rs j)) (λ j lt. le-ltb b (at rs j) (most j lt))

pub all_from : (rs : List ℕ) (b : ℕ) → EachIndex rs (λ k. b ≤ at rs k) → not_below rs b ≡ length rs
all_from rs b least = counted (λ r. leb b r) rs ∙ count-all (length rs) (λ j. leb b (at rs j)) (λ j lt. le-leb b (at rs j) (least j lt))

-- those above a number are not below it
pub above-within : (rs : List ℕ) (b : ℕ) → above rs b ≤ not_below rs b
above-within rs b =
    let e = count_le (length rs) (λ j. ltb b (at rs j)) (λ j. leb b (at rs j)) (λ j _ t. le-leb b (at rs j) (omega (arith, ltb-true b (at rs j) t))) in
    omega (arith, counted (λ r. ltb b r) rs, counted (λ r. leb b r) rs)

-- Properties of equals

pub equals_none : (rs : List ℕ) (b : ℕ) → equals rs 0 b ≡ 0
unfolding equals count_below sum_below
equals_none rs b = refl

pub equals_counts : (rs : List ℕ) (i b : ℕ) → at rs i ≡ b → equals rs (i + 1) b ≡ equals rs i b + 1
unfolding equals
equals_counts rs i b e = rw (add-one i) (count-suc i (λ j. eqb (at rs j) b) ∙ omega (arith, bit_true (eqb (at rs i) b) (eq-eqb (at rs i) b e)))

pub equals-skips : (rs : List ℕ) (i b : ℕ) → (at rs i ≡ b → ⊥) → equals rs (i + 1) b ≡ equals rs i b
unfolding equals
equals-skips rs i b h = rw (add-one i) (count-suc i (λ j. eqb (at rs j) b) ∙ omega (arith, bit_false (eqb (at rs i) b) (ne_eqb (at rs i) b h)))

-- The threshold and the ranks

module _ (rs : List ℕ) (l b k : ℕ) (within : k < length rs) where
  above_gets : above rs b ≤ l → b < at rs k → rank (at rs) (length rs) k < l
  unfolding rank comes_before
  above_gets upper h =
      let e = count_lt (length rs) (λ j. comes_before (at rs) j k) (λ j. ltb b (at rs j)) k within (λ j _ t. grind (arith, nat_tests)) (grind (arith, nat_tests)) (lt-ltb b (at rs k) h) in
      omega (arith, counted (λ r. ltb b r) rs)

  below_gets_not : l ≤ not_below rs b → at rs k < b → l ≤ rank (at rs) (length rs) k
  unfolding rank comes_before
  below_gets_not lower h =
      let e = count_le (length rs) (λ j. leb b (at rs j)) (λ j. comes_before (at rs) j k) (λ j _ t. grind (arith, nat_tests)) in
      omega (arith, counted (λ r. leb b r) rs)

  -- those at the threshold come after those above it, in order
  equal_rank : at rs k ≡ b → rank (at rs) (length rs) k ≡ above rs b + equals rs k b
  unfolding rank equals count_below comes_before
  equal_rank h =
      sum_same (length rs) (λ j. cond (comes_before (at rs) j k) 1 0) (λ j. cond (ltb b (at rs j)) 1 0 + cond (ltb j k) (cond (eqb (at rs j) b) 1 0) 0) (λ j _. grind (arith, nat_tests))
      ∙ sum-add (length rs) (λ j. cond (ltb b (at rs j)) 1 0) (λ j. cond (ltb j k) (cond (eqb (at rs j) b) 1 0) 0)
      ∙ omega (arith, counted (λ r. ltb b r) rs, sum-cut (length rs) k (λ j. cond (eqb (at rs j) b) 1 0) (omega arith))

-- The units handed out: the places below i have theirs

pub extra_none : (ps rs : List ℕ) (l : ℕ) → length ps ≡ 64 → ps ≡ list_below 64 (with_extra ps rs l 0)
unfolding with_extra
extra_none ps rs l e = list_of 64 (with_extra ps rs l 0) ps e (λ k _. rw (le-ltb k 0 (omega arith)) (omega arith))

-- and place i has what it had
pub extra_at : (ps rs : List ℕ) (l i : ℕ) → i < 64 → at (list_below 64 (with_extra ps rs l i)) i ≡ at ps i
unfolding with_extra
extra_at ps rs l i lt = list_at 64 (with_extra ps rs l i) i lt ∙ rw (le-ltb i i (omega arith)) (omega arith)

module _ (ps rs now : List ℕ) (l b i : ℕ) (t : Threshold rs l b) (below : i < length rs) (places : length rs ≤ 64)
    (so_far : now ≡ list_below 64 (with_extra ps rs l i)) where
  one_more : (x : ℕ) → x ≡ cond (ltb (rank (at rs) (length rs) i) l) 1 0 → set now i (at now i + x) ≡ list_below 64 (with_extra ps rs l (i + 1))
  unfolding with_extra
  one_more x is =
      rw (so_far, extra_at ps rs l i (omega arith))
      (list_set 64 (with_extra ps rs l i) (with_extra ps rs l (i + 1)) i _ (omega arith)
      (rw (lt-ltb i (i + 1) (omega arith)) (omega arith))
      (λ k _ other. rw (ltb_same k i k (i + 1) (λ h. omega arith) (λ h. omega arith))))

  pub given_equal : at rs i ≡ b → above rs b + equals rs i b < l → set now i (at now i + 1) ≡ list_below 64 (with_extra ps rs l (i + 1))
  given_equal e h = one_more 1 (rw (lt-ltb (rank (at rs) (length rs) i) l (omega (arith, equal_rank rs l b i below e))))

  pub given_above : (x : ℕ) → x ≡ from_bool (ltb b (at rs i)) → (at rs i ≡ b → l ≤ above rs b + equals rs i b) → set now i (at now i + x) ≡ list_below 64 (with_extra ps rs l (i + 1))
  given_above x is spent =
      one_more x
      (is ∙ by_order b (at rs i)
      (λ gt. rw (lt-ltb b (at rs i) gt, lt-ltb (rank (at rs) (length rs) i) l (above_gets rs l b i below t.upper gt)))
      (λ le. rw (le-ltb b (at rs i) le, le-ltb (rank (at rs) (length rs) i) l (after le))))
    where
      after : at rs i ≤ b → l ≤ rank (at rs) (length rs) i
      after le =
          by_order (at rs i) b
          (λ lt. below_gets_not rs l b i below t.lower lt)
          (λ ge. let e : at rs i ≡ b = omega arith in omega (arith, spent e, equal_rank rs l b i below e))
