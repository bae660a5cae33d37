-- The bytes of a sheet. (Document 01, "Sheet and graph bytes".) A standing's contents are P, S for a path claim; first atom, Z, P and
-- the 32 rows of M and of N for a ring claim. Sets are 8 bytes, bit k - 1 for occurrence k; a row is 4 bytes, bit k for number k.
-- Assumes nothing.
use Rattle.std.specs.Prelude.{ℕ, zero, suc, ◌+◌, ◌*◌, Bool, true, false, cond, List, [], ◌∷◌, ◌++◌}
use Rattle.kat.specs.Word.{numbers}
use Rattle.notation.specs.Width.{width, row_length}
use Rattle.notation.specs.Sides.{Decision}
use Rattle.verdicts.specs.Standings.{System, Path, Ring, row, system_of}
use Rattle.verdicts.specs.Search.{Verdict, proved, refuted, spent}
use Rattle.claims.specs.Fields.{big_endian, set_number, field}

-- a set in 8 bytes, bit k - 1 for occurrence k ("Sheet and graph bytes")
unfoldable pub set_bytes : List ℕ → List ℕ
set_bytes s = big_endian 8 (set_number 1 s)

-- n rows of b bytes each, from row p on; a row that the table lacks is empty ("Sheet and graph bytes")
unfoldable pub row_bytes : ℕ → List (List ℕ) → ℕ → ℕ → List ℕ
row_bytes b t p zero = []
row_bytes b t p (suc n) = big_endian b (set_number 0 (row t p)) ++ row_bytes b t (suc p) n

-- 32 rows of 4 bytes ("Sheet and graph bytes")
unfoldable pub table_bytes : List (List ℕ) → List ℕ
table_bytes t = row_bytes row_length t 0 width

-- P, S: 16 bytes ("Sheet and graph bytes")
unfoldable pub path_bytes : Path → List ℕ
path_bytes s = set_bytes s.P ++ set_bytes s.S

-- first atom, Z, P, 32 rows of M, 32 rows of N: 266 bytes ("Sheet and graph bytes")
unfoldable pub ring_bytes : Ring → List ℕ
ring_bytes s = s.first ∷ cond s.Z 1 0 ∷ (set_bytes s.P ++ (table_bytes s.M ++ table_bytes s.N))

-- how many bytes those are, of a path standing (false) or of a ring standing (true) ("Sheet and graph bytes")
unfoldable pub contents_length : Bool → ℕ
contents_length false = 8 + 8
contents_length true = 2 + 8 + 2 * (width * row_length)

-- the contents of a standing, of a path claim (false) or of a ring claim (true) ("Sheet and graph bytes")
abbrev pub standing_bytes : (ring : Bool) (D : Decision) → (system_of ring D).Standing → List ℕ
standing_bytes false D = path_bytes
standing_bytes true D = ring_bytes

module _ (S : System) (contents : S.Standing → List ℕ) where
  -- one tag 3 a standing ("Sheet and graph bytes")
  unfoldable pub standing_fields : List S.Standing → List ℕ
  standing_fields [] = []
  standing_fields (s ∷ ss) = field 3 (contents s) ++ standing_fields ss

  -- the sheet of a verdict; a spent allowance has none ("Sheet and graph bytes")
  unfoldable pub sheet_bytes : Verdict S → List ℕ
  sheet_bytes (proved ss) = field 1 (1 ∷ []) ++ standing_fields ss
  sheet_bytes (refuted w) = field 1 (2 ∷ []) ++ field 2 (numbers w)
  sheet_bytes spent = []
