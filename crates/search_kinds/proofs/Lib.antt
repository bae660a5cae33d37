-- A standing by the kind of the claim.
pub mod ByKind
