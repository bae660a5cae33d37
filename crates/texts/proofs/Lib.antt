-- Laws of the parts of a text.
pub mod Fronts
pub mod LineLaws
pub mod NameLaws
