-- The definitions that the contracts cite. `Invariant`, `Walk` and `Walked` are cited by private ones alone.
pub mod Opening
pub mod Accrual
pub mod Schedule
pub mod Standing
pub mod Ranges
pub mod Reckoning
pub mod Invariant
pub mod Walk
pub mod Walked
