-- The line of what a judgement is; the ends of lines, counted one after the other.
pub mod JudgedLaws
