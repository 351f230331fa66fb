-- The definitions that the contracts cite.
pub mod Cases
pub mod Digests
pub mod Filled
