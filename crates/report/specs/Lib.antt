-- The bytes of a statement, and the theorems about them.
pub mod Statement
pub mod Statements
