-- Which edges are steps; the events and edges that bytes list; the lines of a text, put one after the other.
pub mod Steps
pub mod Listing
pub mod Lines
