-- Stored rates follow one another by first day, so those that start before a day are the first ones, and an order may follow them.
use Rattle.std.proofs.Common.{ℕ, suc, ◌+◌, ◌≤◌, ◌<◌, arith, add-one, ◌≡◌, refl, sym, ap, ◌∙◌, Bool, true, false, cond, List, [], ◌∷◌, ◌++◌, ltb-true, ltb-false, le-ltb, ltb, length, take, drop, set, length-append, take_at, take-take}
use Rattle.std.proofs.Math.Seq.{append_snoc}
use Rattle.std.proofs.lemmas.List.{set_split}
use Rattle.rates.specs.Rate.{daily_of}
use Rattle.account.specs.declared.RateOrder.{RateOrder}
use Rattle.book_model.specs.Invariant.{Priced, Begun}
use Rattle.account.specs.Invariant.{Rising, FromStart}
use Rattle.book_model.specs.Rate.{starting_before, with_rate}

-- How many start before a day

pub count_most : (day : ℕ) (os : List RateOrder) → length (starting_before day os) ≤ length os
unfolding starting_before
count_most day [] = omega arith
count_most day (o ∷ os) = go (ltb o.first.0 day) (count_most day os)
  where
    go : (b : Bool) → length (starting_before day os) ≤ length os
        → length (cond b (o ∷ starting_before day os) (starting_before day os)) ≤ suc (length os)
    go true ih = omega arith
    go false ih = omega arith

pub length_with : (o : RateOrder) (os : List RateOrder) → length (with_rate o os) ≡ length (starting_before o.first.0 os) + 1
length_with o os = rw length-append (omega arith)

-- none does where all come after a day that is not before it
none_before : (day from : ℕ) (os : List RateOrder) → day ≤ from → Rising from os → starting_before day os ≡ []
unfolding starting_before
none_before day from [] le h = refl
none_before day from (o ∷ os) le h =
    rw (le-ltb o.first.0 day (omega (arith, h.0))) (none_before day o.first.0 os (omega (arith, h.0)) h.1)

-- Those that do are the first ones

module _ (day : ℕ) where
  abbrev First : List RateOrder → Type 0
  First os = starting_before day os ≡ take (length (starting_before day os)) os

  first_more : (o : RateOrder) (os : List RateOrder) → Rising o.first.0 os → First os → First (o ∷ os)
  unfolding starting_before
  first_more o os h ih = go (ltb o.first.0 day) refl
    where
      go : (b : Bool) → ltb o.first.0 day ≡ b
          → cond b (o ∷ starting_before day os) (starting_before day os)
          ≡ take (length (cond b (o ∷ starting_before day os) (starting_before day os))) (o ∷ os)
      go true e = ap (λ (l : List RateOrder). o ∷ l) ih
      go false e = rw (none_before day o.first.0 os (ltb-false o.first.0 day e) h)

  first-rising : (from : ℕ) (os : List RateOrder) → Rising from os → First os
  unfolding starting_before
  first-rising from [] h = refl
  first-rising from (o ∷ os) h = first_more o os h.1 (first-rising o.first.0 os h.1)

  pub first_ones : (os : List RateOrder) → FromStart os → First os
  first_ones [] h = absurd h
  first_ones (o ∷ os) h = first_more o os h.1 (first-rising o.first.0 os h.1)

-- An order stored behind them, in an array of which so many places are in use

module _ (rates : List RateOrder) (rated : ℕ) (o : RateOrder) (h : FromStart (take rated rates))
    (n : ℕ) (e : n ≡ length (starting_before o.first.0 (take rated rates))) (le : n ≤ rated) (lt : n < length rates) where
  kept : starting_before o.first.0 (take rated rates) ≡ take n rates
  kept =
      first_ones o.first.0 (take rated rates) h
      ∙ ap (λ (k : ℕ). take k (take rated rates)) (sym e)
      ∙ take-take n rated rates le

  -- the whole array
  pub stored : set rates n o ≡ with_rate o (take rated rates) ++ drop (n + 1) rates
  stored = rw (set_split rates n o lt, kept, add-one n, append_snoc)

  -- the places in use
  pub stored_in_use : take (n + 1) (set rates n o) ≡ with_rate o (take rated rates)
  stored_in_use =
      rw stored
      (take_at (with_rate o (take rated rates)) (drop (n + 1) rates) (n + 1) (omega (arith, length_with o (take rated rates))))

-- What an order keeps of the stored rates

pub priced_with : (o : RateOrder) (os : List RateOrder) → o.annual ≤ 4000 → o.daily ≡ daily_of o.annual → Priced os → Priced (with_rate o os)
unfolding starting_before
priced_with o [] le d p = (le, d, tt)
priced_with o (x ∷ os) le d p = go (ltb x.first.0 o.first.0) (priced_with o os le d p.2)
  where
    go : (b : Bool) → Priced (with_rate o os)
        → Priced (cond b (x ∷ starting_before o.first.0 os) (starting_before o.first.0 os) ++ (o ∷ []))
    go true ih = (p.0, p.1, ih)
    go false ih = ih

pub begun_with : (o : RateOrder) (os : List RateOrder) (today : ℕ) → o.first.0 ≤ today → Begun os today → Begun (with_rate o os) today
unfolding starting_before
begun_with o [] today le h = (le, tt)
begun_with o (x ∷ os) today le h = go (ltb x.first.0 o.first.0) (begun_with o os today le h.1)
  where
    go : (b : Bool) → Begun (with_rate o os) today
        → Begun (cond b (x ∷ starting_before o.first.0 os) (starting_before o.first.0 os) ++ (o ∷ [])) today
    go true ih = (h.0, ih)
    go false ih = ih

module _ (o : RateOrder) where
  rising_with : (day : ℕ) (os : List RateOrder) → day < o.first.0 → Rising day os → Rising day (with_rate o os)
  unfolding starting_before
  rising_with day [] lt h = (lt, tt)
  rising_with day (x ∷ os) lt h = go (ltb x.first.0 o.first.0) refl (λ p. rising_with x.first.0 os p h.1)
    where
      go : (b : Bool) → ltb x.first.0 o.first.0 ≡ b → (x.first.0 < o.first.0 → Rising x.first.0 (with_rate o os))
          → Rising day (cond b (x ∷ starting_before o.first.0 os) (starting_before o.first.0 os) ++ (o ∷ []))
      go true e ih = (h.0, ih (ltb-true x.first.0 o.first.0 e))
      go false e ih =
          rw (none_before o.first.0 x.first.0 os (ltb-false x.first.0 o.first.0 e) h.1) (lt, tt)

  pub from_start_with : (os : List RateOrder) → FromStart os → FromStart (with_rate o os)
  unfolding starting_before
  from_start_with [] h = absurd h
  from_start_with (x ∷ os) h = go (ltb x.first.0 o.first.0) refl
    where
      go : (b : Bool) → ltb x.first.0 o.first.0 ≡ b
          → FromStart (cond b (x ∷ starting_before o.first.0 os) (starting_before o.first.0 os) ++ (o ∷ []))
      go true e = (h.0, rising_with x.first.0 os (ltb-true x.first.0 o.first.0 e) h.1)
      go false e =
          let le = ltb-false x.first.0 o.first.0 e in
          rw (none_before o.first.0 x.first.0 os le h.1) (omega (arith, h.0, le), tt)
