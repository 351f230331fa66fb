-- General definitions of numbers and lists, that contracts of other crates cite.
pub mod Sums
pub mod Members
