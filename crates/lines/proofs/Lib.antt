-- Facts about the definitions. `LineParts` is what the crate states, `Callers` what callers cite, the others are what proofs here cite.
mod LinePositions
mod LineParts
mod LineColumns
pub mod Callers
