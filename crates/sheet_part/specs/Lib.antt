-- What is answered of a part of a sheet.
pub mod Tests
