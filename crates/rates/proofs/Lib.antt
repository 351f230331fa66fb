-- Facts about the definitions. `Callers` has what other crates cite; `Laws` and `Examples` are what the crate states.
mod Largest
mod Rule
mod Nearest
mod RoundedDown
mod DailyRates
mod Entries
mod Rising
mod Answers
mod Laws
mod Examples
pub mod Callers
