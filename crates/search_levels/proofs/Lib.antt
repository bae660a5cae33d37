-- One turn, whole.
pub mod OneTurn
-- One turn over lent records.
pub mod OverRecords
