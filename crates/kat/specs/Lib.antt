-- Lists of numbers as sets.
pub mod Lists
-- Expressions, and their meaning in labelled graphs.
pub mod Expr
pub mod Graph
-- Guarded words as walks through a graph, and the language of an expression.
pub mod Word
pub mod Walk
pub mod Language
pub mod Fusion
-- Occurrence tables (the position automaton), and the ways through them.
pub mod Tables
pub mod Way
-- Rings: rotations and repetitions.
pub mod Ring
pub mod Turns
-- What can have been read of a prefix, and what can still be read after an occurrence, by the expression alone.
pub mod Rest
pub mod Read
-- Tables of pairs, closed.
pub mod Closure
