-- Postfixes.
pub mod Postfix
