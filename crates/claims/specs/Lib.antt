-- Of `notation`, passed on: "The query", "Refusals with an example each" for 1 to 8, and "Words".
pub use Rattle.notation.specs.Bytes
pub use Rattle.notation.specs.Tree
pub use Rattle.notation.specs.LineKinds
pub use Rattle.notation.specs.Tokens
pub use Rattle.notation.specs.Grammar
pub use Rattle.notation.specs.Lines
pub use Rattle.notation.specs.Refusals
pub use Rattle.notation.specs.RefusalLine
pub use Rattle.notation.specs.Names
pub use Rattle.notation.specs.Query
pub use Rattle.notation.specs.Width
pub use Rattle.notation.specs.Expanded
pub use Rattle.notation.specs.Counting
pub use Rattle.notation.specs.Decisions
pub use Rattle.notation.specs.Reading
pub use Rattle.notation.specs.Sides
pub use Rattle.notation.specs.Words
pub use Rattle.notation.specs.Under
pub use Rattle.notation.specs.RefusalOrder
-- Of `verdicts`, passed on: "Standings", what a verdict says, which sheets pass, and which letters may be left out.
pub use Rattle.verdicts.specs.Standings
pub use Rattle.verdicts.specs.JustRead
pub use Rattle.verdicts.specs.Search
pub use Rattle.verdicts.specs.Passing
pub use Rattle.verdicts.specs.Thin
pub use Rattle.verdicts.specs.Alike
pub use Rattle.verdicts.specs.Verdicts
pub use Rattle.verdicts.specs.Orders
pub use Rattle.verdicts.specs.Lawful
pub use Rattle.verdicts.specs.Closed
-- "Sheet and graph bytes": fields, the sheet written and read.
pub mod Fields
pub mod SheetBytes
pub mod SheetReading
-- What a sheet may say, its bytes, and its first wrong field, in plain words.
pub mod SheetWriting
-- Graph bytes, the judgement, the relational meaning, the drawn graph.
pub mod GraphBytes
pub mod GraphWriting
pub mod Judgement
pub mod Meaning
pub mod Judgements
pub mod Drawn
-- The calls with their lent memory, and the printed line.
pub mod Calls
pub mod Printed
-- What is shown of them: what an answer says, and what a sheet says.
pub mod Demands
pub mod Sheets
-- The rules of refusing of the calls, in plain words.
pub mod CallOrder
