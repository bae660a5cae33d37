-- The draw call.
pub mod DrawCall
-- What it answers.
pub mod Drawings
-- What a drawn graph is evidence of.
pub mod Breaking
