-- What stands next, and codes written.
pub mod Next
pub mod Stores
