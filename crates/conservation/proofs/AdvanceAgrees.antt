-- An accepted Advance keeps the agreement with the tally.
use Rattle.std.proofs.Common.{ℕ, suc, ◌+◌, ◌*◌, arith, ◌≡◌, sym, ap, subst, ◌∙◌, map}
use mathlib.Core.List.{map-map}
use Rattle.general_laws.proofs.Members.{map_same}
use Rattle.general_laws.proofs.Sums.{sum_further}
use Rattle.book_model.specs.declared.Book.{Book}
use Rattle.book_model.specs.Advance.{days_passed}
use Rattle.book_model.specs.Closed.{days_held}
use Rattle.book_model.specs.Invariant.{OpenSound, Sound}
use Rattle.book_model.specs.Call.{Opening}
use Rattle.conservation.specs.Tally.{Tally, advance, day_of_date, share_today, share_days, last_before, weight, portion_on, received, unit_days_of}
use Rattle.book_model.proofs.Callers.{AdvanceRight, days_to, AdvanceStep, advance_step}
use Rattle.conservation.proofs.Agreement.{Agrees, position_of, none_ahead}
use Rattle.conservation.proofs.ByHolder.{position-same}
use Rattle.conservation.proofs.TallyDays.{last-most, last_further, share_days_further}

-- n days more
module _ (b : Book) (known : OpenSound b) (t : Tally) (agrees : Agrees b t) (n : ℕ) where
  abbrev later : Tally
  later = advance t (t.today + n)

  day-after : suc t.today + n ≡ suc (t.today + n)
  day-after = omega arith

  -- no settlement is passed
  last-kept : last_before t.paid (suc (t.today + n)) ≡ last_before t.paid (suc t.today)
  last-kept = rw day-after at (last_further t.paid (suc t.today) n (λ k le. none_ahead b t agrees known k le))

  unit_days_grown : (h : ℕ) → unit_days_of later h ≡ unit_days_of t h + share_today t h * n
  unfolding unit_days_of advance share_days
  unit_days_grown h =
      ap (λ (from : ℕ). share_days t h from (t.today + n)) last-kept
      ∙ share_days_further t h (last_before t.paid (suc t.today)) t.today (share_today t h) n
      (omega (arith, last-most t.paid (suc t.today))) (agrees.lasting h)

  received-kept : (h : ℕ) → received later h ≡ received t h
  unfolding received advance portion_on weight share_days
  received-kept h = rw day-after at (sum_further (portion_on t h) (suc t.today) n (λ k le. rw (none_ahead b t agrees known k le)))

  position_later : (h : ℕ) → days_held n (position_of t h) ≡ position_of later h
  unfolding advance
  position_later h =
      position-same h (sym (agrees.lasting h (t.today + n) (omega arith))) (sym (unit_days_grown h)) (sym (received-kept h))

  agrees-later : (c : Book) → AdvanceStep n b c → Agrees c later
  unfolding advance
  agrees-later c step =
      record {
        today = omega (arith, step.today, agrees.today);
        positions =
            step.positions
            ∙ ap (map (days_held n)) agrees.positions
            ∙ map-map (days_held n) (position_of t) t.holders
            ∙ map_same t.holders (λ h. days_held n (position_of t h)) (position_of later) (λ h _. position_later h);
        settlements = λ d. rw step.settlements (agrees.settlements d);
        absent = agrees.absent;
        lasting = λ h d le. agrees.lasting h d (omega arith) ∙ sym (agrees.lasting h (t.today + n) (omega arith));
        whole = agrees.whole;
      }

module _ (o : Opening) (b : Book) (h : Sound b) (same_first : b.first ≡ o.first) (t : Tally) (agrees : Agrees b t) where
  pub agrees-advanced : (date : ℕ) → AdvanceRight b date → Agrees (days_passed (days_to b date) b) (advance t (day_of_date o date))
  agrees-advanced date right =
      let day : t.today + days_to b date ≡ day_of_date o date =
      rw (← same_first) (omega (arith, right.after-today, agrees.today)) in
      subst (λ (d : ℕ). Agrees (days_passed (days_to b date) b) (advance t d)) day
      (agrees-later b (h.when_open right.is_open) t agrees (days_to b date) (days_passed (days_to b date) b) (advance_step b h date right))
