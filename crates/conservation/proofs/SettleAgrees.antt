-- An accepted Settle keeps the agreement with the tally.
use Rattle.std.proofs.Common.{ℕ, ◌+◌, ◌≤◌, ◌<◌, arith, ◌≡◌, refl, sym, ap, ap₂, ◌∙◌, cond, List, map, eq-eqb, ne_eqb, eqb}
use Rattle.std.proofs.Math.Option.{Option, none, some}
use Rattle.general_laws.specs.Sums.{sum_below}
use Rattle.general_laws.proofs.Members.{map_same}
use Rattle.general_laws.proofs.Sums.{sum_same}
use Rattle.apportionment.specs.Apportionment.{part}
use Rattle.book_model.specs.declared.Book.{Book}
use Rattle.book_model.specs.declared.Position.{Position}
use Rattle.book_model.specs.Book.{held, settlements_of}
use Rattle.book_model.specs.Positions.{paid_position, paid_from, unit_days_column}
use Rattle.book_model.specs.Settle.{settled_today, settled_book}
use Rattle.book_model.specs.Invariant.{OpenSound, Sound}
use Rattle.account.specs.Standing.{settled_on}
use Rattle.conservation.specs.Tally.{Tally, settle, share_days, weight, place, portion_of, portion_on, received, unit_days_of}
use Rattle.book_model.proofs.Callers.{SettleRight, SettleStep, settle_step}
use Rattle.conservation.proofs.Agreement.{Agrees, position_of, holders-distinct, unit-days-same}
use Rattle.conservation.proofs.ByHolder.{position-same, paid-is}
use Rattle.account.proofs.Callers.{none_after_last, settled-joined}
use Rattle.conservation.proofs.TallyDays.{last_none, last_some, share_days_none, weight-same}

module _ (b : Book) (known : OpenSound b) (t : Tally) (agrees : Agrees b t) (m : ℕ) (right : SettleRight b m) where
  abbrev paying : Tally
  paying = settle t m

  -- The day's settlement

  none-today : settled_on (settlements_of b) b.today.0 ≡ none
  none-today = none_after_last 0 (settlements_of b) b.today.0 b.today.0 known.timely right.day-held

  unpaid : t.paid t.today ≡ none
  unpaid = agrees.settlements t.today ∙ ap (settled_on (settlements_of b)) (sym agrees.today) ∙ none-today

  paid_now : paying.paid t.today ≡ some m
  unfolding settle
  paid_now = rw (eq-eqb t.today t.today refl)

  paid-before : (d : ℕ) → d < t.today → paying.paid d ≡ t.paid d
  unfolding settle
  paid-before d lt = rw (ne_eqb d t.today (λ e. omega arith))

  -- Its weights are the unit-days up to today

  weight-kept : (d h : ℕ) → d ≤ t.today → weight paying d h ≡ weight t d h
  unfolding settle
  weight-kept d h le = weight-same paying t d h (λ k lt. paid-before k (omega arith)) (λ k lt. refl)

  weights-kept : (d : ℕ) → d ≤ t.today → map (weight paying d) t.holders ≡ map (weight t d) t.holders
  weights-kept d le = map_same t.holders (weight paying d) (weight t d) (λ h _. weight-kept d h le)

  weight_now : (h : ℕ) → unit_days_of t h ≡ weight t t.today h
  unfolding unit_days_of weight
  weight_now h = ap (λ (from : ℕ). share_days t h from t.today) (last_none t.paid t.today unpaid)

  abbrev weights : List ℕ
  weights = map (weight t t.today) t.holders

  weights_are : unit_days_column (held b) ≡ weights
  weights_are = unit-days-same b t agrees ∙ map_same t.holders (unit_days_of t) (weight t t.today) (λ h _. weight_now h)

  no_unit_days : (h : ℕ) → unit_days_of paying h ≡ 0
  unfolding unit_days_of settle
  no_unit_days h =
      ap (λ (from : ℕ). share_days paying h from t.today) (last_some paying.paid t.today m paid_now)
      ∙ share_days_none paying h t.today

  -- Portions

  portion_before : (h d : ℕ) → d < t.today → portion_on paying h d ≡ portion_on t h d
  unfolding portion_on settle
  portion_before h d lt =
      ap₂ (λ (s : Option ℕ) (ws : List ℕ). portion_of s ws (place h t.holders)) (paid-before d lt) (weights-kept d (omega arith))

  portion_now : (h : ℕ) → portion_on paying h t.today ≡ part m weights (place h t.holders)
  unfolding portion_on settle
  portion_now h =
      ap₂ (λ (s : Option ℕ) (ws : List ℕ). portion_of s ws (place h t.holders)) paid_now (weights-kept t.today (omega arith))

  received_more : (h : ℕ) → received paying h ≡ received t h + part m weights (place h t.holders)
  unfolding received settle portion_on sum_below
  received_more h =
      let before = sum_same t.today (portion_on paying h) (portion_on t h) (λ d lt. portion_before h d lt) in
      let none_yet : portion_on t h t.today ≡ 0 = rw unpaid in
      omega (arith, portion_now h)

  -- Positions

  position-is : (h : ℕ) → paid_position (part m weights (place h t.holders)) (position_of t h) ≡ position_of paying h
  unfolding settle
  position-is h = position-same h refl (sym (no_unit_days h)) (sym (received_more h))

  positions_are : paid_from (part m (unit_days_column (held b))) 0 (held b) ≡ map (position_of paying) t.holders
  positions_are =
      ap₂ (λ (ws : List ℕ) (ps : List Position). paid_from (part m ws) 0 ps) weights_are agrees.positions
      ∙ paid-is (position_of t) (λ h. refl) (part m weights) t.holders (holders-distinct b t agrees known)
      ∙ map_same t.holders (λ h. paid_position (part m weights (place h t.holders)) (position_of t h)) (position_of paying)
      (λ h _. position-is h)

  settlements_are : (c : Book) → SettleStep m b c → (d : ℕ) → paying.paid d ≡ settled_on (settlements_of c) d
  unfolding settle
  settlements_are c step d =
      rw (step.settlements, settled-joined (settlements_of b) (settled_today b m) none-today d)
      (ap₂ (λ (k : ℕ) (p : Option ℕ). cond (eqb d k) (some m) p) (sym agrees.today) (agrees.settlements d))

  agrees-paying : (c : Book) → SettleStep m b c → Agrees c paying
  unfolding settle
  agrees-paying c step =
      record {
        today = ap (λ day. day.0) step.today ∙ agrees.today;
        positions = step.positions ∙ positions_are;
        settlements = settlements_are c step;
        absent = agrees.absent;
        lasting = agrees.lasting;
        whole = agrees.whole;
      }

pub agrees-settled : (b : Book) → Sound b → (t : Tally) → Agrees b t → (m : ℕ) → SettleRight b m → Agrees (settled_book b m) (settle t m)
agrees-settled b h t agrees m right =
    agrees-paying b (h.when_open right.is_open) t agrees m right (settled_book b m) (settle_step b h m right)
