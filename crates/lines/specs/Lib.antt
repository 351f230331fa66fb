-- The definitions that the contracts cite, and the theorem about them.
pub mod Lines
pub mod LineParts
