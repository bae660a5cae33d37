-- What is left of a sheet that is being written.
pub mod Left
