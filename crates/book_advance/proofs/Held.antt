-- Positions that gain their unit-days one by one, and the sum of those they have.
use Rattle.std.proofs.Common.{arith, ℕ, ◌≡◌, ◌+◌, ◌*◌, ◌≤◌, ◌<◌, List, map, refl, sym, ap, ◌∙◌, length, get_or, set, mul-le-mul_right}
use Rattle.std.proofs.lemmas.List.{get_or-map, length-map}
use Rattle.std.specs.List.{sum}
use Rattle.general_laws.proofs.Fronts.{filled, filled_at, filled_step}
use Rattle.general_laws.proofs.Totals.{total_most_of}
use Rattle.book_model.specs.declared.Position.{Position}
use Rattle.book_model.specs.Book.{fresh}
use Rattle.book_model.specs.Closed.{days_held}
use Rattle.book_model.specs.Positions.{shares, unit_days_column}

-- the positions of an array after so many days, up to a place
abbrev pub held_up_to : ℕ → List Position → ℕ → List Position
held_up_to days ps i = filled (map (days_held days) ps) i ps

within : (u s days : ℕ) → u ≤ 92000000 → s ≤ 1000000 → days ≤ 92 → u + s * days ≤ 184000000
within u s days most share few = omega (arith, mul-le-mul_right {m = s} {n = 1000000} days share)

module _ (days : ℕ) (ps next : List Position) (i : ℕ) (so_far : next ≡ held_up_to days ps i) where
  abbrev later : List Position
  later = map (days_held days) ps

  as_many : length later ≡ length ps
  as_many = length-map ps (days_held days)

  module _ (lt : i < length ps) where
    -- the next one is as it was
    here : get_or next i (fresh 0 0) ≡ get_or ps i (fresh 0 0)
    here =
        ap (λ (l : List Position). get_or l i (fresh 0 0)) so_far
        ∙ filled_at later ps i (fresh 0 0) lt (omega (arith, as_many))

    pub gain_most : sum (unit_days_column ps) ≤ 92000000 → sum (shares ps) ≤ 1000000 → days ≤ 92
        → ((get_or next i (fresh 0 0)).share.0 ≤ 1000000) × ((get_or next i (fresh 0 0)).unit_days + (get_or next i (fresh 0 0)).share.0 * days ≤ 184000000)
    gain_most unit_days_most shares_most days_most =
        let share = total_most_of (λ (p : Position). p.share.0) ps i (fresh 0 0) refl in
        let unit_days = total_most_of (λ (p : Position). p.unit_days) ps i (fresh 0 0) refl in
        rw here (omega arith, within _ _ _ (omega arith) (omega arith) days_most)

    pub gained : set next i (days_held days (get_or next i (fresh 0 0))) ≡ held_up_to days ps (i + 1)
    gained =
        ap (λ (l : List Position). set l i (days_held days (get_or next i (fresh 0 0)))) so_far
        ∙ filled_step later ps i (fresh 0 0) lt (days_held days (get_or next i (fresh 0 0))) (omega (arith, as_many))
        (ap (days_held days) here ∙ sym (get_or-map (days_held days) ps i (fresh 0 0) (fresh 0 0) lt))
