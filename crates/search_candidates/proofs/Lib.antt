-- One standing of a level.
pub mod OneStanding
-- One letter behind a place.
pub mod OneCandidate
