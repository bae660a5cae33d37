-- The table of an expression, and how it is changed in place.
pub mod Layout
pub mod SideTable
pub mod InPlace
