-- What holds between two fields of a part that is read: which field is awaited, what the index holds, and that what is left to read is the
-- whole reading. (Document 01, "Sheet and graph bytes": "The sheet is read field by field from where the last one ended".)
-- Assumes nothing.
use Rattle.std.specs.Prelude.{ℕ, suc, ◌+◌, ◌-◌, ◌≤◌, ◌<◌, ◌≡◌, Result as Answer, Ok, Err, List, [], map, length, drop}
use Rattle.kat.specs.Lists.{In}
use Rattle.claims.specs.Fields.{next_field}
use Rattle.claims.specs.SheetReading.{standings_in, word_from, part_in}
use Rattle.claims.specs.Sides.{Decision}
use Rattle.query.specs.Decided.{Decided}
use Rattle.query.specs.declared.Facts.{Facts}
use Rattle.sheet_standings.specs.CellSystem.{cells_show}
use Rattle.sheet_standings.specs.Good.{GoodCells}
use Rattle.layout.specs.Layout.{MOST-STANDINGS, VERDICT}
use Rattle.sheet_fields.specs.declared.PartRead.{PartRead}
use Rattle.sheet_fields.specs.declared.Awaited.{Awaited}
use Rattle.sheet_fields.specs.declared.Awaited.TheVariants.{Verdict, Standing, Word}
use Rattle.sheet_fields.specs.declared.Turn.{Turn}
use Rattle.sheet_fields.specs.declared.Turn.TheVariants.{On, Over}
use Rattle.sheet_fields.specs.Reads.{ListedAt, Empty, Inside, cells_listed, Reads}

-- more than the fields that may still be read: the verdict, the standings and what is behind them from the verdict on ("Sheet and graph bytes")
abbrev pub fields_left : Awaited → ℕ
fields_left Verdict = MOST-STANDINGS + 3
fields_left (Standing s) = MOST-STANDINGS + 2 - s.count
fields_left Word = 1

-- standings 0 to n - 1 are read, and place at is behind them; at most fuel may follow one another ("Sheet and graph bytes")
pub record SoFar (D : Decision) (bs : List ℕ) (base fuel n at : ℕ) : Type 0 where
  pub good : (c : List ℕ) → In c (cells_listed D.ring bs base n) → GoodCells D.ring D c
  pub read : (k : ℕ)
      → standings_in D fuel k [] (drop base bs)
      ≡ standings_in D (fuel - n) (k + n) (map (cells_show D.ring D) (cells_listed D.ring bs base n)) (drop at bs)

-- the verdict is awaited: it is the part's first field ("Sheet and graph bytes")
pub record AtVerdict (first : ℕ) (heads chain : List ℕ) (at : ℕ) : Type 0 where
  pub place : at ≡ first
  pub index : Empty heads chain

-- a standing is awaited: those before it are in the index, and the rest of the part is what follows them ("Sheet and graph bytes")
pub record AtStanding (f : Facts) (bs : List ℕ) (first : ℕ) (heads chain : List ℕ) (base n at : ℕ) : Type 0 where
  pub listed : ListedAt f.ring bs heads chain base n at
  pub place : base ≡ first + VERDICT
  pub so_far : (left right : List ℕ) (D : Decision) → Decided f left right D → SoFar D bs base MOST-STANDINGS n at
  pub part : (D : Decision) (k : ℕ) → part_in D k (drop first bs) ≡ standings_in D MOST-STANDINGS (suc k) [] (drop base bs)

-- the word is awaited: it is the rest of the part ("Sheet and graph bytes")
pub record AtWord (f : Facts) (bs : List ℕ) (first : ℕ) (heads chain : List ℕ) (at : ℕ) : Type 0 where
  pub place : at ≡ first + VERDICT
  pub inside : at ≤ length bs
  pub index : Empty heads chain
  pub part : (D : Decision) (k : ℕ) → part_in D k (drop first bs) ≡ word_from D (suc k) (next_field (drop at bs))

-- the part from place first on is answered ("Sheet and graph bytes")
pub record Answered (f : Facts) (bs : List ℕ) (first : ℕ) (heads chain : List ℕ) (r : Answer PartRead ℕ) : Type 0 where
  pub inside : Inside f.ring bs first heads chain r
  pub read : (left right : List ℕ) (D : Decision) → Decided f left right D → (k : ℕ) → Reads f.ring D bs k (part_in D k (drop first bs)) r

-- by what is awaited from place at on ("Sheet and graph bytes")
abbrev pub Between : Facts → List ℕ → ℕ → List ℕ → List ℕ → Awaited → ℕ → Type 0
Between f bs first heads chain Verdict at = AtVerdict first heads chain at
Between f bs first heads chain (Standing s) at = AtStanding f bs first heads chain s.base s.count at
Between f bs first heads chain Word at = AtWord f bs first heads chain at

-- a field was read: the part is answered, or fewer than m fields are left ("Sheet and graph bytes")
abbrev pub Goes : Facts → List ℕ → ℕ → List ℕ → List ℕ → ℕ → Answer Turn ℕ → Type 0
Goes f bs first heads chain m (Err i) = Answered f bs first heads chain (Err i)
Goes f bs first heads chain m (Ok (Over p)) = Answered f bs first heads chain (Ok p)
Goes f bs first heads chain m (Ok (On a at)) = Between f bs first heads chain a at × (fields_left a < m)
