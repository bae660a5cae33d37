-- An outcome that the check confirms.
pub mod Kept
