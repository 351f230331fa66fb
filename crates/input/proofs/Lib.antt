-- A fact about a buffer's front, which the code's proof cites.
mod ReadBytes
