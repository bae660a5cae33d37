-- What each standing has to pass.
pub mod Standings
