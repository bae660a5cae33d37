-- The line of a judgement, and what it means in words.
pub mod JudgementLine
pub mod JudgedWords
