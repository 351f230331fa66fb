-- The definitions that the contracts cite. `Calls` is cited by the theorem over lists and by the load, `Closed` and `Invariant` by private contracts alone.
pub mod Book
pub mod Outcome
pub mod Schedule
pub mod Positions
pub mod Open
pub mod Advance
pub mod Transfer
pub mod Settle
pub mod Read
pub mod Rate
pub mod Call
pub mod Calls
pub mod Reached
pub mod Called
pub mod Closed
pub mod Invariant
