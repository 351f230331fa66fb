-- Facts about the definitions. `Callers` is what other crates cite of them.
mod ClosedForm
mod Bounds
mod Segments
mod Timeline
mod SettledDays
mod AccountSteps
mod NotOverpaid
mod AccountBounds
mod Replays
mod RangeTests
mod Walks
mod Reckonings
mod InRange
pub mod Callers
