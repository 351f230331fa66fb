-- The front of an array: its first places stored to, or filled one by one from a list.
use Rattle.std.proofs.Common.{ℕ, suc, ◌+◌, ◌≤◌, ◌<◌, arith, add-one, ◌≡◌, List, [], ◌∷◌, ◌++◌, length, take, drop, get_or, set, length-set, take-append-drop, drop-cons, take-suc, drop-set-lt, length-take-le}
use Rattle.std.proofs.Math.Seq.{take-length, append_snoc, take-set-lt}
use Rattle.std.proofs.lemmas.List.{get_or_at, set_at, set_split}

-- Stores among the first n places of an array, the rest of it unchanged

module _ {A : Type 0} (n : ℕ) (l : List A) (i : ℕ) (x : A) (lt : i < n) where
  pub two_stored : (j : ℕ) (y : A) → j < n → set (set (take n l) i x) j y ++ drop n l ≡ set (set l i x) j y
  two_stored j y below =
      rw (← take-set-lt n l i x lt, ← take-set-lt n (set l i x) j y below, ← drop-set-lt n l i x lt, ← drop-set-lt n (set l i x) j y below)
      (take-append-drop n (set (set l i x) j y))

  -- and one at the next place
  pub next-stored : (y : A) → n < length l → (set (take n l) i x ++ (y ∷ [])) ++ drop (n + 1) l ≡ set (set l i x) n y
  next-stored y room =
      let room' : n < length (set l i x) = rw length-set room in
      let lt' : i < suc n = omega arith in
      rw (set_split (set l i x) n y room', take-set-lt n l i x lt, drop-set-lt (suc n) l i x lt', add-one n, append_snoc)

-- Filled places

-- the first i places filled from the list ts, the others as in the array
abbrev pub filled : {A : Type 0} → List A → ℕ → List A → List A
filled ts i l = take i ts ++ drop i l

module _ {A : Type 0} (ts l : List A) (i : ℕ) (d : A) (room : i < length l) where
  opened-at : filled ts i l ≡ take i ts ++ (get_or l i d ∷ drop (suc i) l)
  opened-at = rw (drop-cons l i d room)

  -- what stands at the next place is still the array's
  pub filled_at : i ≤ length ts → get_or (filled ts i l) i d ≡ get_or l i d
  filled_at le = rw opened-at (get_or_at (take i ts) (get_or l i d) (drop (suc i) l) d i (length-take-le i ts le))

  -- one place more
  pub filled_step : (x : A) → i < length ts → x ≡ get_or ts i d → set (filled ts i l) i x ≡ filled ts (i + 1) l
  filled_step x lt e =
      rw (
        opened-at,
        set_at (take i ts) (get_or l i d) (drop (suc i) l) x i (length-take-le i ts (omega arith)),
        e,
        add-one i,
        take-suc ts i d lt,
        append_snoc,
      )

pub filled-all : {A : Type 0} (ts l : List A) (i : ℕ) → i ≡ length ts → filled ts i l ≡ ts ++ drop (length ts) l
filled-all ts l i e = rw (e, take-length ts)
