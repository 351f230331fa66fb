-- The definitions that the contracts cite, and the laws about them.
pub mod Calendar
pub mod Answers
pub mod Laws
pub mod Examples
