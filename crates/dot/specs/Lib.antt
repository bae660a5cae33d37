-- The text of a drawn graph.
pub mod DotText
