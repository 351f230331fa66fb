-- Facts about the definitions. `LineRoundTrip` and `Examples` are what the crate states, `Callers` is what callers cite, the others are what
-- proofs here cite.
mod FieldBounds
mod NumberStores
mod NumberPut
mod FieldRoundTrip
mod FieldReading
mod LineStores
mod LineRoundTrip
mod LineRefusals
mod LineReading
mod Examples
pub mod Callers
