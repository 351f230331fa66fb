-- What other crates cite of daily rates: an accepted rate's, what an answer tells, that of 0, the only number that meets the rule, and the greatest.
pub use Rattle.rates.proofs.Answers.{accepted, over_tells, daily_tells}
pub use Rattle.rates.proofs.Rule.{none_at_0, only}
pub use Rattle.rates.proofs.Laws.{greatest}
pub use Rattle.rates.proofs.Examples.{examples}
