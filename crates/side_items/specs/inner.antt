-- Memory that is 0.
pub mod Blank
