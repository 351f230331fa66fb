-- What the proof of an advance cites.
mod Held
mod Passed
