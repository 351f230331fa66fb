-- The tally against the book, call by call, and over lists.
mod TallySums
mod AccountTally
mod SameTerms
mod MoneyConserved
mod Members
mod ByHolder
mod TallyDays
mod Newcomers
mod Agreement
mod OpenAgrees
mod AdvanceAgrees
mod TransferAgrees
mod SettleAgrees
mod RateAgrees
mod CallCases
mod CallAgrees
mod Conserved
mod ReachedBooks
mod SteadyDays
mod Examples
mod Edges
mod Refusals
pub mod Callers
