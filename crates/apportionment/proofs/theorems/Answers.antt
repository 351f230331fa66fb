-- The laws and the examples, as a contract.
use Rattle.apportionment.proofs.Laws.{laws}
use Rattle.apportionment.proofs.Examples.{examples}
use Rattle.apportionment.proofs.theorems.Goals as goal

pub returns : goal.returns
returns c = (laws, examples)
