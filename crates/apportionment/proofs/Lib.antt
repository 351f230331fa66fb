-- Facts about the definitions. `Callers` has what other crates cite; `Laws` and `Examples` are what the crate states.
mod Ranks
mod Laws
mod Arrays
mod Whole
mod Threshold
mod Answers
mod Examples
pub mod Callers
