-- What callers may cite of this crate, by the file that proves it.

-- One lemma for every call: it is refused and leaves the book, or its conditions hold and the book changes.
pub use Rattle.conservation.proofs.CallCases.{changed, right-open, call_cases}
-- An accepted opening's book, by what its acceptance tells.
pub use Rattle.conservation.proofs.OpenAgrees.{opening-is}
-- Demand 3, by induction on the list of calls.
pub use Rattle.conservation.proofs.Conserved.{conserved}
-- A reached open book comes from an accepted opening and a list of calls, so demand 3 holds of it.
pub use Rattle.conservation.proofs.ReachedBooks.{reached-conserved}
-- The checked examples, by computation; daily rates by their two bounds.
pub use Rattle.conservation.proofs.Examples.{examples}
