-- What a reader leaves behind.
pub mod Places
