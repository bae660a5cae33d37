-- The answer of the judge.
pub mod Answered
-- An answer that is a judgement.
pub mod Judging
