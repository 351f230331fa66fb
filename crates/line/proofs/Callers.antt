-- What callers cite: what refuses a line, what a number written in its columns stores, and one put into a buffer.
pub use Rattle.line.proofs.LineRefusals.{Refused, length-refuses, last-refuses, columns-refuse, columns-feed, read_length}
pub use Rattle.line.proofs.NumberPut.{put-within, length-put}
pub use Rattle.line.proofs.NumberStores.{length-justified, part_stored}
