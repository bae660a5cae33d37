-- The items of a test, an expression, a line and a query.
pub mod Scanned
pub mod TreeItems
pub mod LineItems
pub mod Inside
pub mod FreeItems
-- What each code needs, found by a loop.
pub mod Room
pub mod Needed
-- Sets of tests, and expressions, in the lines of a query.
pub mod EarlierTests
pub mod Placed
