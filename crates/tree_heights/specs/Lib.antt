-- How many tables an expression needs at once.
pub mod Heights
