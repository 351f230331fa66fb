-- Stored rates beside a later today.
use Rattle.std.proofs.Common.{ℕ, ◌≤◌, arith, List, [], ◌∷◌}
use Rattle.account.specs.declared.RateOrder.{RateOrder}
use Rattle.book_model.specs.Invariant.{Begun}

pub begun-later : (os : List RateOrder) (today later : ℕ) → today ≤ later → Begun os today → Begun os later
begun-later [] today later le h = tt
begun-later (o ∷ os) today later le h = (omega (arith, h.0), begun-later os today later le h.1)
