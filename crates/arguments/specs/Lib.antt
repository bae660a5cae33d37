-- What a single argument is, and what the arguments of the program ask for.
pub mod ArgumentWords
pub mod Arguments
-- What goes with each call.
pub mod inner
