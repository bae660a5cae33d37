-- The words of each cause, and whether its place is a line of the query; what a refusal means, in words.
pub mod CauseText
pub mod Sentences
