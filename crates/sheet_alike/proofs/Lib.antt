-- What is known of a decision, and the letters by the masks.
pub mod Decided
pub mod Letters
