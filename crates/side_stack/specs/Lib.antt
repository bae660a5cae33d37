-- The parts that wait.
pub mod Stack
