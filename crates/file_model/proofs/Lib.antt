-- Facts about the definitions. `LoadRuns`, `LoadAccepts`, `LoadFaults`, `LoadParts`, `LoadEnds` and `Examples` are what the crate states; the others are what
-- these cite, and `Callers` what callers cite.
mod LineOrders
mod LoadCases
mod OpenBooks
mod OpeningHolders
mod LoadRuns
mod LoadAccepts
mod LoadFaults
mod LoadParts
mod LoadEnds
mod Examples
pub mod Callers
