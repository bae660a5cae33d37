-- The sizes are those of the definitions.
pub mod Named
