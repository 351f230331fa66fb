-- The examples, the edges and the refusals, as a contract.
use Rattle.conservation.proofs.Edges.{edges}
use Rattle.conservation.proofs.Examples.{examples}
use Rattle.conservation.proofs.Refusals.{refusals}
use Rattle.conservation.proofs.checked_examples.Goals as goal

pub returns : goal.returns
returns c =
    (examples, edges, refusals)
