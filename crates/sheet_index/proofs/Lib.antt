-- The last number that passes; hashes, and cells compared; the standings listed; the index.
pub mod Last
pub mod Hashes
pub mod Listed
pub mod Kept
