-- Sizes by name.
pub mod Layout
