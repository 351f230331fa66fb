-- Facts about the definitions. `Callers` has what other crates cite; `Laws` and `Examples` are what the crate states.
mod Lengths
mod Parts
mod Walk
mod Order
mod Counts
mod Answers
mod Laws
mod Examples
pub mod Callers
