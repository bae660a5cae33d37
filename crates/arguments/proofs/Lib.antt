-- What an argument is, by the tests that it passes, and what it changes, by the tests on the way.
pub mod Tested
pub mod Changes
