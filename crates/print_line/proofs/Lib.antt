-- Laws of bytes put into memory, of pieces put one after another by a loop, and of digits.
pub mod Putting
pub mod Pieces
pub mod Decimals
