-- Runs of bytes, and halves of keys.
pub mod Fronts
pub mod Halves
-- The tokens found are those of the notation.
pub mod Tokens
-- The token at a position, rule by rule.
pub mod Found
