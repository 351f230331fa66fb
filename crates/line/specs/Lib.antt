-- The definitions that the contracts cite, and the theorems about them. `FieldUse` is cited by private contracts alone.
pub mod Field
pub mod Line
pub mod Write
pub mod FieldUse
pub mod RoundTrip
pub mod Examples
