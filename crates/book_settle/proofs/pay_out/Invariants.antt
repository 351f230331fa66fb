-- The positions before the place are paid, the others as they were.
use Rattle.std.proofs.Common.{◌≡◌, ◌≤◌, length, get_or}
use Rattle.general_laws.proofs.Fronts.{filled}
use Rattle.book_model.specs.Positions.{paid_from}
use Rattle.book_settle.proofs.pay_out.Given as goal

abbrev pub invariant-loop-place : goal.invariant-loop-place
invariant-loop-place l =
    (l.place ≤ length l.initial.held) × (l.held ≡ filled (paid_from (λ k. get_or l.portions k 0) 0 l.initial.held) l.place l.initial.held)
