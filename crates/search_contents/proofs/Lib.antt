-- Bytes put one behind the other.
pub mod Written
-- A row of M from the columns.
pub mod Rows
-- The parts of a field are the field.
pub mod Fields
-- The field looks at the first words only.
pub mod FirstWords
-- The field of words is the field of the standing that they show.
pub mod FieldShown
