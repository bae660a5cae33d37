-- "The query": bytes and lines, trees, line kinds with their words, tokens, the grammar, lines.
pub mod Bytes
pub mod Tree
pub mod LineKinds
pub mod Tokens
pub mod Grammar
pub mod Lines
-- "Refusals with an example each": causes and numbers, the printed line of a refusal; then names, the query, what a relation stands for, the limits, what is to be decided, and the reading with 1 to 8.
pub mod Refusals
pub mod RefusalLine
pub mod Names
pub mod Query
pub mod Width
pub mod Expanded
pub mod Counting
pub mod Decisions
pub mod Reading
-- "Words": the two sides, refuting words; the sides and the limits of a claim under some of the lines.
pub mod Sides
pub mod Words
pub mod Under
-- The rules of refusing, in plain words.
pub mod RefusalOrder
