-- General laws of numbers and lists: other crates cite them.
pub mod Choice
pub mod Every
pub mod Sums
pub mod Counts
pub mod Lists
pub mod Totals
pub mod Fronts
pub mod Members
pub mod Stores
pub mod Parts
pub mod Powers
