-- The cases of Transfer.
use Rattle.std.proofs.Common.{ℕ, ◌+◌, ◌-◌, ◌≤◌, ◌<◌, arith, ◌≡◌, refl, sym, ap, ◌∙◌, true, false, not, [], ◌∷◌, ◌++◌, eq-eqb, ne_eqb, lt-ltb, le-ltb, length, get_or, set, length-append, length-set, get_or-take, get_or-set_other}
use Rattle.std.proofs.lemmas.Bool.{lt-leb}
use Rattle.general_laws.proofs.Fronts.{two_stored, next-stored}
use Rattle.general_laws.proofs.Totals.{total_most_of}
use Rattle.book_model.specs.declared.Book.{Book}
use Rattle.book_model.specs.declared.Parts.{Parts}
use Rattle.book_model.specs.declared.Position.{Position}
use Rattle.book_model.specs.declared.Refusal.TheVariants as refusal
use Rattle.book_model.specs.Book.{held, fresh, with_held}
use Rattle.book_model.specs.Closed.{with_stored}
use Rattle.book_model.specs.Outcome.{no_parts, no_position, accept, refuse}
use Rattle.book_model.specs.Positions.{is_holder, place, present, share_of, change, less, more}
use Rattle.book_model.specs.Invariant.{Sound, OpenSound}
use Rattle.book_model.specs.Transfer.{moved, transferred}
use Rattle.book_model.proofs.Filled.{stored-held}
use Rattle.book_model.proofs.Assigned.{assigned}
use Rattle.book_model.proofs.Changes.{change-at, length-change, place-change}
use Rattle.book_model.proofs.ChangedBook.{length-held}
use Rattle.book_model.proofs.Places.{share-at, holder-at}

-- Between two holders, the cedent in the book at a place

pub record Cedent (b : Book) (c i : ℕ) : Type 0 where
  pub sound : Sound b
  pub is_open : b.opened ≡ true
  pub here : i ≡ place c (held b)
  pub below : i < b.count

module _ {b : Book} {c i : ℕ} (cedent : Cedent b c i) where
  abbrev at : ℕ → Position
  at k = get_or b.positions k no_position

  open-sound : OpenSound b
  open-sound = cedent.sound.when_open cedent.is_open

  held-count : length (held b) ≡ b.count
  held-count = length-held b (omega (arith, cedent.sound.room-positions, open-sound.positions-most))

  held_at : (k : ℕ) → k < b.count → get_or (held b) k no_position ≡ at k
  held_at k lt = get_or-take b.count b.positions k no_position lt

  pub share-most : (k : ℕ) → k < b.count → (at k).share.0 ≤ 1000000
  share-most k lt =
      let most = rw (held_at k lt) at (total_most_of (λ (p : Position). p.share.0) (held b) k no_position refl) in
      omega (arith, open-sound.shares_whole)

  cedent_within : place c (held b) < length (held b)
  cedent_within = rw (held-count, ← cedent.here) cedent.below

  cedent_share : share_of c (held b) ≡ (at i).share.0
  cedent_share = rw (share-at c no_position (held b) cedent_within, ← cedent.here, held_at i cedent.below)

  module _ (a n : ℕ) where
    cedent_less : change c (less n) (held b) ≡ set (held b) i (less n (at i))
    cedent_less = rw (change-at c (less n) (held b) no_position cedent_within, ← cedent.here, held_at i cedent.below)

    pub moved_none : n ≡ 0 → refuse no_parts b refusal.Share ≡ moved b c a n
    unfolding moved
    moved_none e = rw (eq-eqb n 0 e)

    pub moved-over : (n ≡ 0 → ⊥) → (at i).share.0 < n → refuse no_parts b refusal.Share ≡ moved b c a n
    unfolding moved
    moved-over some over = rw (ne_eqb n 0 some, cedent_share, lt-ltb _ _ over)

    module _ (some : n ≡ 0 → ⊥) (enough : n ≤ (at i).share.0) where
      -- the assignee is not in the book
      module _ (away : present a (held b) ≡ false) where
        assigned-last : assigned c a n (held b) ≡ set (held b) i (less n (at i)) ++ (fresh a n ∷ [])
        assigned-last =
            rw (place-change c (less n) (λ p. refl) a (held b), length-change c (less n) (held b), away, cedent_less)

        stored_last : b.count < 64
            → with_stored b (b.count + 1) (set (set b.positions i (less n (at i))) b.count (fresh a n)) ≡ with_held b (assigned c a n (held b))
        stored_last free =
            let l = set (held b) i (less n (at i)) ++ (fresh a n ∷ []) in
            let e : length l ≡ b.count + 1 = simp (length-append, length-set) (omega (arith, held-count)) in
            rw assigned-last
            (stored-held b l (b.count + 1) _ e
            (next-stored b.count b.positions i (less n (at i)) cedent.below (fresh a n) (omega (arith, cedent.sound.room-positions))))

        pub moved-last : b.count < 64
            → accept (record { 0 = (at i).share.0 - n }) (with_stored b (b.count + 1) (set (set b.positions i (less n (at i))) b.count (fresh a n)))
            ≡ moved b c a n
        unfolding moved
        moved-last free =
            rw (ne_eqb n 0 some, cedent_share, le-ltb _ _ enough, away, lt-leb _ _ free)
            (ap (λ (r : Book). accept (record { 0 = (at i).share.0 - n }) r) (stored_last free))

      -- the assignee is another holder in the book
      module _ (j : ℕ) (other : c ≡ a → ⊥) (there : j ≡ place a (held b)) (below : j < b.count) where
        assignee_within : place a (held b) < length (held b)
        assignee_within = rw (held-count, ← there) below

        apart : j ≡ i → ⊥
        apart e =
            let hc = rw (← cedent.here) at (holder-at c no_position (held b) cedent_within) in
            let ha = rw (← there) at (holder-at a no_position (held b) assignee_within) in
            other (sym hc ∙ ap (λ (k : ℕ). (get_or (held b) k no_position).holder) (sym e) ∙ ha)

        assigned_between : assigned c a n (held b) ≡ set (set (held b) i (less n (at i))) j (more n (at j))
        assigned_between =
            let l = change c (less n) (held b) in
            let pa : place a l ≡ j = place-change c (less n) (λ p. refl) a (held b) ∙ sym there in
            let within : place a l < length l = omega (arith, length-change c (less n) (held b), held-count) in
            rw (
              lt-ltb _ _ within,
              change-at a (more n) l no_position within,
              pa,
              cedent_less,
              get_or-set_other (held b) i j (less n (at i)) no_position apart,
              held_at j below,
            )

        stored_between : with_stored b b.count (set (set b.positions i (less n (at i))) j (more n (at j))) ≡ with_held b (assigned c a n (held b))
        stored_between =
            let l = set (set (held b) i (less n (at i))) j (more n (at j)) in
            let e : length l ≡ b.count = simp length-set held-count in
            rw assigned_between
            (stored-held b l b.count _ e (two_stored b.count b.positions i (less n (at i)) cedent.below j (more n (at j)) below))

        pub moved-between
            : accept (record { 0 = (at i).share.0 - n }) (with_stored b b.count (set (set b.positions i (less n (at i))) j (more n (at j))))
            ≡ moved b c a n
        unfolding moved
        moved-between =
            rw (ne_eqb n 0 some, cedent_share, le-ltb _ _ enough, lt-ltb _ _ assignee_within)
            (ap (λ (r : Book). accept (record { 0 = (at i).share.0 - n }) r) stored_between)

-- The refusals before that, in their order, and what is left

module _ (b : Book) (c a : ℕ) (n : Parts) where
  module _ (opened : not b.opened ≡ false) where
    module _ (cedent : not (is_holder c) ≡ false) where
      module _ (assignee : not (is_holder a) ≡ false) where
        pub transfer-other : present c (held b) ≡ true → (c ≡ a → ⊥) → moved b c a n.0 ≡ transferred b c a n
        unfolding transferred
        transfer-other there e = rw (opened, cedent, assignee, there, ne_eqb c a e)
