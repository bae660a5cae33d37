-- What the lines say of relations and atoms.
pub mod Relations
