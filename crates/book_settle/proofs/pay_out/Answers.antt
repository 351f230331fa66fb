-- One position more is paid at each turn.
use Rattle.std.proofs.Common.{arith, ◌≡◌, ℕ, ◌+◌, ◌<◌, ◌≤◌, List, ◌++◌, length, get_or, set, drop, append-nil, sym, ap, ◌∙◌}
use Rattle.std.proofs.Math.Seq.{drop-length}
use Rattle.general_laws.proofs.Fronts.{filled, filled_at, filled_step, filled-all}
use Rattle.book_model.specs.declared.Position.{Position}
use Rattle.book_model.specs.Outcome.{no_position}
use Rattle.book_model.specs.Positions.{paid_position, paid_from}
use Rattle.book_model.proofs.Callers.{length-paid, paid-at}
use Rattle.book_settle.proofs.pay_out.Goals as goal

module _ (f : ℕ → ℕ) (ps now : List Position) (i : ℕ) (so_far : now ≡ filled (paid_from f 0 ps) i ps) where
  -- the next position is still as it was
  here : i < length ps → get_or now i no_position ≡ get_or ps i no_position
  here lt = ap (λ (l : List Position). get_or l i no_position) so_far ∙ filled_at (paid_from f 0 ps) ps i no_position lt (omega (arith, length-paid f 0 ps))

  one_paid : i < length ps → set now i (paid_position (f i) (get_or now i no_position)) ≡ filled (paid_from f 0 ps) (i + 1) ps
  one_paid lt =
      ap (λ (l : List Position). set l i (paid_position (f i) (get_or now i no_position))) so_far
      ∙ filled_step (paid_from f 0 ps) ps i no_position lt (paid_position (f i) (get_or now i no_position)) (omega (arith, length-paid f 0 ps))
      (ap (paid_position (f i)) (here lt) ∙ sym (paid-at f ps i no_position lt))

  all_paid : i ≤ length ps → length ps ≤ i → now ≡ paid_from f 0 ps
  all_paid le ge =
      let many = length-paid f 0 ps in
      so_far ∙ filled-all (paid_from f 0 ps) ps i (omega (arith, many))
      ∙ ap (λ (l : List Position). paid_from f 0 ps ++ l) (ap (λ (k : ℕ). drop k ps) many ∙ drop-length ps)
      ∙ append-nil (paid_from f 0 ps)

pub loop-place-preserved : goal.loop-place-preserved
loop-place-preserved c =
    (omega arith, one_paid (λ (k : ℕ). get_or c.args.portions.now k 0) c.args.held.now c.loop-place.held c.loop-place.place c.loop-place.invariant.1 (omega arith))

pub returns : goal.returns
returns c = all_paid (λ (k : ℕ). get_or c.args.portions.now k 0) c.args.held.now c.loop-place.held c.loop-place.place c.loop-place.invariant.1 (omega arith) (omega arith)
