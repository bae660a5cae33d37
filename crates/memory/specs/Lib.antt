-- Memory of words.
pub mod Memory
