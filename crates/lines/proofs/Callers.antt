-- What callers cite: where the line at a position ends, what the lines from there on are, and the theorem.
pub use Rattle.lines.proofs.LineParts.{parts}
pub use Rattle.lines.proofs.LinePositions.{end-within, end-past, first_byte, lines_at, lines_end, lines-some, lines-append}
