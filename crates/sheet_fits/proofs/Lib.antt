-- Rows and sets that are as they may be, and the cells of a standing test by test; the verdict that contents are; whether a standing may be
-- listed next.
mod Rows
mod Tests
pub mod Verdicts
pub mod Listable
