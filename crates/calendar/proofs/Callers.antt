-- What other crates cite of the calendar: what an answer tells, and the laws.
pub use Rattle.calendar.proofs.Answers.{Counted, count-date, day_tells, no_date_tells, date_tells, refused_tells, sum_value}
pub use Rattle.calendar.proofs.Laws.{laws}
pub use Rattle.calendar.proofs.Examples.{examples}
