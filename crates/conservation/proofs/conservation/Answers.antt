-- The theorem, as a contract.
use Rattle.std.proofs.Math.Logic.{∥∥₁_map}
use Rattle.conservation.specs.Conservation.{ReachedBookConserved}
use Rattle.conservation.proofs.Conserved.{conserved}
use Rattle.conservation.proofs.ReachedBooks.{reached-conserved}
use Rattle.conservation.proofs.conservation.Goals as goal

kept : ReachedBookConserved
kept b is_open = ∥∥₁_map b.reached (λ r. reached-conserved b.book r is_open)

pub returns : goal.returns
returns c =
    (conserved, reached-conserved, kept)
