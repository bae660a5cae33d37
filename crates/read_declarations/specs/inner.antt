-- A line that declares a name, and the line of each kind.
pub mod Declaring
pub mod Kinds
