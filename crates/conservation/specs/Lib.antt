-- What is promised of lists of calls.
pub mod Tally
pub mod Conservation
pub mod Examples
pub mod Edges
pub mod Refusals
