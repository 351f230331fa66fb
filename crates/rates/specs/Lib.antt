-- The definitions that the contracts cite, and the laws about them.
pub mod Rate
pub mod Exact
pub mod Laws
pub mod Examples
