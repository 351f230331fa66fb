-- The definitions that the contracts cite, and the theorems about them.
pub mod Order
pub mod Load
pub mod Loads
pub mod Examples
