-- The second demand.
pub mod SecondDemand
-- The circle closes.
pub mod Circle
