-- What the proof of a transfer cites.
mod Found
