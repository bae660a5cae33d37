-- What a path or a ring standing gives is what the kind gives; cells read from the sheet.
pub mod ByKind
