-- What other crates cite of a division: its laws, the total weight, the answer where it divides, and the array of its parts.
pub use Rattle.apportionment.proofs.Laws.{laws, nothing_for_none}
pub use Rattle.apportionment.proofs.Answers.{divides}
pub use Rattle.apportionment.proofs.Arrays.{weight-total, padded-at, padded-behind}
