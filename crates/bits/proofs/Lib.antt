-- Single bits, and numbers by their bits.
pub mod Bit
pub mod Shifted
-- The members of a set, as a rising list.
pub mod Lists
pub mod Members
-- A number put into a set.
pub mod Puts
-- The walk of a set, lowest member first.
pub mod Lowest
pub mod Walk
-- The functions on sets, and tables of rows.
pub mod Rows
