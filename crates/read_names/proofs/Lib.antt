-- Names and their keys.
pub mod Names
pub mod Keys
-- The table of names, entry by entry.
pub mod Tables
-- The first of two slips, and the first slip of several names.
pub mod FirstSlips
pub mod Slips
