-- What the search and the sheet check are given of a decision: its facts, the tables of its two sides, and that it is within the limits. (Document 01, "Words"
-- and "Standings", Limits.)
-- Assumes nothing.
use Rattle.std.specs.Prelude.{ℕ, ◌≤◌, ◌≡◌, true, List}
use Rattle.kat.specs.Tables.{occurrences}
use Rattle.claims.specs.Sides.{Decision}
use Rattle.claims.specs.SheetWriting.{RisingWithin}
use Rattle.side_tables.specs.SideTable.{side_table}
use Rattle.query.specs.declared.Facts.{Facts}
use Rattle.query.specs.Answer.{facts_of}
use Rattle.layout.specs.Layout.{MOST-RIGHT}

-- the facts and the tables are those of the decision, which is within the limits ("Standings")
pub record Decided (f : Facts) (left right : List ℕ) (D : Decision) : Type 0 where
  pub facts : f ≡ facts_of f.codes D
  pub left_table_lem : left ≡ side_table D.left
  pub right_table_lem : right ≡ side_table D.right
  pub few_left : occurrences D.left ≤ 64
  pub few_right : occurrences D.right ≤ 64
  pub few_right_of_rings : D.ring ≡ true → occurrences D.right ≤ MOST-RIGHT
  pub few_relations_lem : D.relations ≤ 16
  pub few_atoms : D.atoms ≤ 64
  pub live_rising : RisingWithin 0 D.atoms D.live
