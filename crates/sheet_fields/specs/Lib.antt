-- What the reading of a part answers; what holds between two of its fields.
pub mod Reads
pub mod inner
