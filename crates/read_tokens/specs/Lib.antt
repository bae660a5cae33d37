-- Where the tokens of a line stand.
pub mod Scan
