-- Facts about the definitions. `StatementLengths`, `FiguresFit` and `Examples` are what the crate states, the others are what the code's proofs
-- cite.
mod StatementLengths
mod FiguresFit
mod Examples
mod LineBytes
mod PositionsPut
mod StatementPut
