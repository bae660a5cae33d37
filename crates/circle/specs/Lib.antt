-- The second demand, about the calls.
pub mod SecondDemand
-- What the judge says of what the sheet check and drawing give.
pub mod Circle
