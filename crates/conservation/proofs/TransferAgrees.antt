-- An accepted Transfer keeps the agreement with the tally: what the tally says of the days before today does not change.
use Rattle.std.proofs.Common.{ℕ, suc, ◌+◌, ◌-◌, ◌≤◌, ◌<◌, arith, ◌≡◌, refl, sym, ap, ◌∙◌, Bool, true, false, cond, List, [], ◌∷◌, ◌++◌, map, eqb-true, eq-eqb, ne_eqb, le-leb, eqb, leb}
use Rattle.std.proofs.Math.Option.{Option, none, some}
use Rattle.std.proofs.lemmas.Bool.{eqb-false, lt-leb}
use Rattle.std.proofs.lemmas.List.{map-append, length-map}
use Rattle.general_laws.specs.Members.{distinct, among}
use Rattle.std.specs.List.{sum}
use Rattle.apportionment.proofs.Callers.{weight-total}
use Rattle.general_laws.proofs.Choice.{choice, by_order}
use Rattle.general_laws.proofs.Members.{member_other, map_same, only_at, total-at}
use Rattle.general_laws.proofs.Sums.{sum_same, sum-zero}
use Rattle.general_laws.proofs.Totals.{total_both}
use Rattle.apportionment.specs.Apportionment.{part}
use Rattle.book_model.specs.declared.Book.{Book}
use Rattle.book_model.specs.declared.Position.{Position}
use Rattle.book_model.specs.Book.{fresh, held, with_held}
use Rattle.book_model.specs.Positions.{present, share_of, change, less, more, given}
use Rattle.book_model.specs.Invariant.{OpenSound, Sound}
use Rattle.conservation.specs.Tally.{Tally, moved_share, with_holder, transfer, share_today, last_before, weight, place, portion_of, portion_on, received, unit_days_of}
use Rattle.book_model.proofs.Callers.{TransferRight, assigned, TransferStep, transfer_step}
use Rattle.conservation.proofs.Agreement.{Agrees, position_of, holders-distinct, settled-weights}
use Rattle.conservation.proofs.ByHolder.{position_with, position-same, present-is, share-is, changed_at, change-is}
use Rattle.conservation.proofs.Members.{place-within, place_kept, place-last, added, still_among, added-among, away-before, added-distinct, added-total}
use Rattle.conservation.proofs.Newcomers.{part-kept, part-last}
use Rattle.conservation.proofs.TallyDays.{share_days_same, share_days_absent, weight-same}

-- A settlement's portions by weights f, where the assignee a comes last without any

module _ (settlement : Option ℕ) (f : ℕ → ℕ) (hs : List ℕ) (a : ℕ) (some-weight : (m : ℕ) → settlement ≡ some m → 0 < sum (map f hs))
    (no_weight : among a hs ≡ false → f a ≡ 0) where
  -- the others' do not change
  portion_same : (h : ℕ) → among h hs ≡ true → portion_of settlement (map f (with_holder a hs)) (place h (with_holder a hs)) ≡ portion_of settlement (map f hs) (place h hs)
  portion_same h m = go settlement
    where
      go : (s : Option ℕ) → portion_of s (map f (with_holder a hs)) (place h (with_holder a hs)) ≡ portion_of s (map f hs) (place h hs)
      go none = refl
      go (some x) =
          added a hs (λ l. part x (map f l) (place h l) ≡ part x (map f hs) (place h hs)) (λ _. refl)
          (λ new.
          rw (map-append f hs (a ∷ []), no_weight new, place_kept a h hs m)
          (part-kept x (map f hs) (place h hs) (rw (length-map hs f) (place-within h hs m))))

  -- a newcomer has none
  portion_new : among a hs ≡ false → portion_of settlement (map f (with_holder a hs)) (place a (with_holder a hs)) ≡ 0
  portion_new new = go settlement some-weight
    where
      go : (s : Option ℕ) → ((m : ℕ) → s ≡ some m → 0 < sum (map f hs)) → portion_of s (map f (with_holder a hs)) (place a (with_holder a hs)) ≡ 0
      go none w = refl
      go (some x) w =
          added a hs (λ l. part x (map f l) (place a l) ≡ 0) (λ here. cc)
          (λ _.
          rw (map-append f hs (a ∷ []), no_weight new, place-last a hs new, ← length-map hs f)
          (part-last x (map f hs) (omega (arith, weight-total (map f hs), w x refl))))

module _ (b : Book) (known : OpenSound b) (t : Tally) (agrees : Agrees b t) (c a n : ℕ) (there : among c t.holders ≡ true) (other : c ≡ a → ⊥)
    (enough : n ≤ share_today t c) where
  abbrev moved : Tally
  moved = transfer t c a n

  abbrev joined : List ℕ
  joined = with_holder a t.holders

  apart : distinct t.holders ≡ true
  apart = holders-distinct b t agrees known

  -- Days

  share-before : (h d : ℕ) → d < t.today → moved.share h d ≡ t.share h d
  unfolding transfer
  share-before h d lt = rw (lt-leb t.today d lt)

  share-after : (h d : ℕ) → t.today ≤ d → moved.share h d ≡ moved_share c a n h (t.share h d)
  unfolding transfer
  share-after h d le = rw (le-leb t.today d le)

  weight-kept : (d h : ℕ) → d ≤ t.today → weight moved d h ≡ weight t d h
  unfolding transfer
  weight-kept d h le = weight-same moved t d h (λ k lt. refl) (λ k lt. share-before h k (omega arith))

  unit_days_kept : (h : ℕ) → unit_days_of moved h ≡ unit_days_of t h
  unfolding unit_days_of transfer
  unit_days_kept h = share_days_same moved t h (last_before t.paid (suc t.today)) t.today (λ k lt. share-before h k lt)

  -- Portions

  weights-kept : (d : ℕ) → d ≤ t.today → map (weight moved d) joined ≡ map (weight t d) joined
  weights-kept d le = map_same joined (weight moved d) (weight t d) (λ h m. weight-kept d h le)

  no_weight : (d : ℕ) → among a t.holders ≡ false → weight t d a ≡ 0
  unfolding weight
  no_weight d new = share_days_absent t a (last_before t.paid d) d (λ k. agrees.absent a k new)

  portion_kept : (h d : ℕ) → d ≤ t.today → among h t.holders ≡ true → portion_on moved h d ≡ portion_on t h d
  unfolding portion_on transfer
  portion_kept h d le m =
      ap (λ (ws : List ℕ). portion_of (t.paid d) ws (place h joined)) (weights-kept d le)
      ∙ portion_same (t.paid d) (weight t d) t.holders a (settled-weights b t agrees known d) (no_weight d) h m

  no_portion : (d : ℕ) → d ≤ t.today → among a t.holders ≡ false → portion_on moved a d ≡ 0
  unfolding portion_on transfer
  no_portion d le new =
      ap (λ (ws : List ℕ). portion_of (t.paid d) ws (place a joined)) (weights-kept d le)
      ∙ portion_new (t.paid d) (weight t d) t.holders a (settled-weights b t agrees known d) (no_weight d) new

  received-kept : (h : ℕ) → among h t.holders ≡ true → received moved h ≡ received t h
  unfolding received transfer
  received-kept h m = sum_same (suc t.today) (portion_on moved h) (portion_on t h) (λ d lt. portion_kept h d (omega arith) m)

  received-new : among a t.holders ≡ false → received moved a ≡ 0
  unfolding received transfer
  received-new new = sum-zero (suc t.today) (portion_on moved a) (λ d lt. no_portion d (omega arith) new)

  -- Positions

  -- the cedent's less the parts
  abbrev ceded : ℕ → Position
  ceded h = cond (eqb h c) (less n (position_of t h)) (position_of t h)

  own : (h : ℕ) → (ceded h).holder ≡ h
  own h = choice (λ (p : Position). p.holder ≡ h) (eqb h c) (λ _. refl) (λ _. refl)

  position-is : (h : ℕ) → among h t.holders ≡ true → cond (eqb h a) (more n (ceded h)) (ceded h) ≡ position_of moved h
  unfolding transfer
  position-is h m =
      go (eqb h c) (eqb h a) refl refl
      ∙ position-same h (sym (share-after h t.today (omega arith))) (sym (unit_days_kept h)) (sym (received-kept h m))
    where
      go : (x y : Bool) → eqb h c ≡ x → eqb h a ≡ y
          → cond y (more n (cond x (less n (position_of t h)) (position_of t h))) (cond x (less n (position_of t h)) (position_of t h))
          ≡ position_with h (cond x (share_today t h - n) (cond y (share_today t h + n) (share_today t h))) (unit_days_of t h) (received t h)
      go true true e f = absurd (other (sym (eqb-true h c e) ∙ eqb-true h a f))
      go true false e f = refl
      go false true e f = refl
      go false false e f = refl

  position_old : among a t.holders ≡ false → (h : ℕ) → among h t.holders ≡ true → ceded h ≡ position_of moved h
  position_old new h m =
      let differs : eqb h a ≡ false = ne_eqb h a (λ e. eqb-false a h (member_other h a t.holders new m) (sym e)) in
      rw differs at (position-is h m)

  position-new : among a t.holders ≡ false → fresh a n ≡ position_of moved a
  unfolding transfer unit_days_of
  position-new new =
      let differs : eqb a c ≡ false = ne_eqb a c (λ e. other (sym e)) in
      let parts : n ≡ moved_share c a n a (share_today t a) = rw (differs, eq-eqb a a refl) (omega (arith, agrees.absent a t.today new)) in
      let days : unit_days_of t a ≡ 0 =
      share_days_absent t a (last_before t.paid (suc t.today)) t.today (λ d. agrees.absent a d new) in
      position-same a (parts ∙ sym (share-after a t.today (omega arith))) (sym (unit_days_kept a ∙ days)) (sym (received-new new))

  positions_are : given a n (map ceded t.holders) ≡ map (position_of moved) joined
  positions_are =
      rw (present-is ceded own a t.holders)
      (added a t.holders
      (λ l. cond (among a t.holders) (change a (more n) (map ceded t.holders)) (map ceded t.holders ++ (fresh a n ∷ [])) ≡ map (position_of moved) l)
      (λ here.
      rw here
      (change-is ceded own a (more n) t.holders apart
      ∙ map_same t.holders (changed_at ceded own a (more n)) (position_of moved) position-is))
      (λ new.
      rw (new, map-append (position_of moved) t.holders (a ∷ []), position-new new)
      (ap (λ (ps : List Position). ps ++ (position_of moved a ∷ [])) (map_same t.holders ceded (position_of moved) (position_old new)))))

  -- Shares

  parts-moved : (h d : ℕ) → t.today ≤ d → moved_share c a n h (t.share h d) + only_at c n h ≡ t.share h d + only_at a n h
  parts-moved h d le = go (eqb h c) (eqb h a) refl refl
    where
      go : (x y : Bool) → eqb h c ≡ x → eqb h a ≡ y
          → cond x (t.share h d - n) (cond y (t.share h d + n) (t.share h d)) + cond x n 0 ≡ t.share h d + cond y n 0
      go true true e f = absurd (other (sym (eqb-true h c e) ∙ eqb-true h a f))
      go true false e f =
          let same : t.share h d ≡ t.share c d = ap (λ (k : ℕ). t.share k d) (eqb-true h c e) in
          omega (arith, agrees.lasting c d le)
      go false true e f = omega arith
      go false false e f = omega arith

  whole_before : (d : ℕ) → sum (map (λ h. t.share h d) joined) ≡ 1000000
  whole_before d = added-total a t.holders (λ h. t.share h d) (agrees.absent a d) ∙ agrees.whole d

  whole-kept : (d : ℕ) → sum (map (λ h. moved.share h d) joined) ≡ 1000000
  whole-kept d =
      by_order d t.today
      (λ lt. ap sum (map_same joined (λ h. moved.share h d) (λ h. t.share h d) (λ h m. share-before h d lt)) ∙ whole_before d)
      (λ le.
      let All-apart = added-distinct a t.holders apart in
      let both =
      total_both joined (λ h. moved_share c a n h (t.share h d)) (λ h. t.share h d) (only_at c n) (only_at a n) (λ h. parts-moved h d le) in
      let ceded-parts = total-at c n joined All-apart (still_among a t.holders c there) in
      let taken-parts = total-at a n joined All-apart (added-among a t.holders) in
      ap sum (map_same joined (λ h. moved.share h d) (λ h. moved_share c a n h (t.share h d)) (λ h m. share-after h d le))
      ∙ omega (arith, whole_before d))

  absent-kept : (h d : ℕ) → among h joined ≡ false → moved.share h d ≡ 0
  unfolding transfer
  absent-kept h d away =
      let none_yet : t.share h d ≡ 0 = agrees.absent h d (away-before a t.holders h away) in
      let not_cedent : eqb h c ≡ false = member_other c h joined away (still_among a t.holders c there) in
      let not_assignee : eqb h a ≡ false = member_other a h joined away (added-among a t.holders) in
      rw (not_cedent, not_assignee) (choice (λ (k : ℕ). k ≡ 0) (leb t.today d) (λ _. none_yet) (λ _. none_yet))

  lasting-kept : (h d : ℕ) → t.today ≤ d → moved.share h d ≡ moved.share h t.today
  lasting-kept h d le =
      share-after h d le ∙ ap (λ (x : ℕ). moved_share c a n h x) (agrees.lasting h d le) ∙ sym (share-after h t.today (omega arith))

  agrees-moved : (r : Book) → TransferStep c a n b r → Agrees r moved
  unfolding transfer
  agrees-moved r step =
      record {
        today = ap (λ day. day.0) step.today ∙ agrees.today;
        positions =
            step.positions
            ∙ ap (assigned c a n) agrees.positions
            ∙ ap (given a n) (change-is (position_of t) (λ h. refl) c (less n) t.holders apart)
            ∙ positions_are;
        settlements = λ d. rw step.settlements (agrees.settlements d);
        absent = absent-kept;
        lasting = lasting-kept;
        whole = whole-kept;
      }

pub agrees-transferred : (b : Book) → Sound b → (t : Tally) → Agrees b t → (c a n : ℕ) → TransferRight b c a n
    → Agrees (with_held b (assigned c a n (held b))) (transfer t c a n)
agrees-transferred b h t agrees c a n right =
    let there : among c t.holders ≡ true =
    sym (present-is (position_of t) (λ h. refl) c t.holders) ∙ ap (present c) (sym agrees.positions) ∙ right.cedent_present in
    let share : share_of c (held b) ≡ share_today t c =
    ap (share_of c) agrees.positions ∙ share-is (position_of t) (λ h. refl) c t.holders there in
    agrees-moved b (h.when_open right.is_open) t agrees c a n there right.apart (omega (arith, right.parts-most, share)) (with_held b (assigned c a n (held b)))
    (transfer_step b h c a n)
