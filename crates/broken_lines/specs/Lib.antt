-- The line that a judgement names.
pub mod BrokenLine
