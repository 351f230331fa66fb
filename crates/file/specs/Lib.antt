-- What the parts of the load do, cited by private contracts alone. The load's own definition stands in `file_model`.
pub mod Reading
pub mod Turns
