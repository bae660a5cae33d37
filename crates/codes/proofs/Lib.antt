-- Names in lists of names, and the code of a name.
pub mod Names
pub mod NameKinds
-- The lines of a query that was read, and its claim.
pub mod Orderly
pub mod Claimed
-- What names are bound to; relations by their names.
pub mod Bindings
pub mod NamedRelations
-- Codes of expressions.
pub mod Below
