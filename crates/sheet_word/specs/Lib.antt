-- Bytes that are a word.
pub mod ByteWords
