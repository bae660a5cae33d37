-- What goes with each call.
pub mod Wanted
