-- Laws of bits, of the fields of a graph, of the rounds of the closure, and that it is the closure.
pub mod Bits
pub mod Fields
pub mod Rounds
pub mod Closure
