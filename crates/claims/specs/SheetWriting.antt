-- The bytes of a sheet, what a sheet may say, and which of its fields is the first wrong one, in plain words. (Document 01, "Sheet and
-- graph bytes" and refusal 13.) A part begins with its verdict; its fields are good as long as a part may begin with them.
-- Assumes nothing.
use Rattle.std.specs.Prelude.{ℕ, suc, ◌+◌, ◌≤◌, ◌<◌, ◌≡◌, Bool, true, false, List, [], ◌∷◌, ◌++◌, length}
use Rattle.kat.specs.Lists.{In}
use Rattle.kat.specs.Tables.{occurrences}
use Rattle.kat.specs.Word.{Word, end, at, numbers}
use Rattle.notation.specs.Sides.{Decision}
use Rattle.verdicts.specs.Standings.{Path, Ring, row, system_of, claim_system}
use Rattle.claims.specs.Fields.{field, FirstWrong}
use Rattle.claims.specs.SheetBytes.{standing_bytes, standing_fields}
use Rattle.claims.specs.SheetReading.{Said, says_proved, says_refuted, tagged}
use Rattle.verdicts.specs.Verdicts.{Distinct}

-- each number of the list is a byte ("Sheet and graph bytes")
abbrev pub AllBytes : List ℕ → Type 0
AllBytes bs = (b : ℕ) → In b bs → b < 256

-- a set as a list: it rises strictly, from lo or above to below hi ("Sheet and graph bytes")
abbrev pub RisingWithin : ℕ → ℕ → List ℕ → Type 0
RisingWithin lo hi [] = Unit {0}
RisingWithin lo hi (k ∷ ks) = (lo ≤ k) × (k < hi) × RisingWithin (suc k) hi ks

-- a path standing that a sheet may list: its sets have occurrences that their sides have ("Sheet and graph bytes")
pub record PathShaped (D : Decision) (s : Path) : Type 0 where
  pub left : RisingWithin 1 (suc (occurrences D.left)) s.P
  pub right : RisingWithin 1 (suc (occurrences D.right)) s.S

-- a ring standing that a sheet may list: its tables have a row for 0 and for each right occurrence; rows of M hold right occurrences,
-- those of N also 0, and row 0 of N holds nothing ("Sheet and graph bytes")
pub record RingShaped (D : Decision) (s : Ring) : Type 0 where
  pub first : s.first < D.atoms
  pub left : RisingWithin 1 (suc (occurrences D.left)) s.P
  pub size_m : length s.M ≡ suc (occurrences D.right)
  pub rows_m : (x : List ℕ) → In x s.M → RisingWithin 1 (suc (occurrences D.right)) x
  pub size_n : length s.N ≡ suc (occurrences D.right)
  pub rows_n : (x : List ℕ) → In x s.N → RisingWithin 0 (suc (occurrences D.right)) x
  pub empty_n : row s.N 0 ≡ []

-- a standing that a sheet may list, of a path claim (false) or of a ring claim (true) ("Sheet and graph bytes")
abbrev pub MayList : (ring : Bool) (D : Decision) → (system_of ring D).Standing → Type 0
MayList false D s = PathShaped D s
MayList true D s = RingShaped D s

-- each atom and each relation of the word is in its range; an atom under a `never` is ("Sheet and graph bytes")
abbrev pub InRange : Decision → Word → Type 0
InRange D (end a) = a < D.atoms
InRange D (at a r w) = (a < D.atoms) × (r < D.relations) × InRange D w

-- what a part may say: at most 4,096 standings and none twice, or a word that a field can hold ("Sheet and graph bytes")
abbrev pub MaySay : (D : Decision) → Said D → Type 0
MaySay D (says_proved ss) =
    ((s : (claim_system D).Standing) → In s ss → MayList D.ring D s) × Distinct ss × (length ss ≤ 4096)
MaySay D (says_refuted w) = InRange D w × (length (numbers w) < 65536)

-- the bytes of the refuted sheet of a word ("Sheet and graph bytes")
abbrev pub refuted_sheet : Word → List ℕ
refuted_sheet w = field 1 (2 ∷ []) ++ field 2 (numbers w)

-- the bytes of a part ("Sheet and graph bytes")
abbrev pub part_bytes : (D : Decision) → Said D → List ℕ
part_bytes D (says_proved ss) = field 1 (1 ∷ []) ++ standing_fields (claim_system D) (standing_bytes D.ring D) ss
part_bytes D (says_refuted w) = refuted_sheet w

-- how many fields it has ("Sheet and graph bytes")
abbrev pub part_fields : (D : Decision) → Said D → ℕ
part_fields D (says_proved ss) = suc (length ss)
part_fields D (says_refuted w) = 2

-- the bytes are a sheet ("Sheet and graph bytes")
pub record IsSheet (D : Decision) (bs : List ℕ) : Type 0 where
  pub said : Said D
  pub good : MaySay D said
  pub bytes : bs ≡ part_bytes D said

-- the bytes behind a part do not go on with it: after a proved part no further standing comes ("Sheet and graph bytes")
abbrev pub Ends : (D : Decision) → Said D → List ℕ → Type 0
Ends D (says_proved ss) rest = tagged 3 rest ≡ false
Ends D (says_refuted w) rest = Unit {0}

-- the bytes begin with a part, and the rest stands behind it ("Sheet and graph bytes")
pub record IsPart (D : Decision) (bs : List ℕ) (said : Said D) (rest : List ℕ) : Type 0 where
  pub good : MaySay D said
  pub bytes : bs ≡ part_bytes D said ++ rest
  pub ends : Ends D said rest

-- what a part may begin with: nothing yet, the verdict refuted without its word, or all that a part says, a proved one also with some
-- of its standings only ("Sheet and graph bytes")
pub data Begun (D : Decision) : Type 0 where
  nothing : Begun D
  refuted_only : Begun D
  saying : Said D → Begun D

-- the bytes of a beginning ("Sheet and graph bytes")
abbrev pub begun_bytes : (D : Decision) → Begun D → List ℕ
begun_bytes D nothing = []
begun_bytes D refuted_only = field 1 (2 ∷ [])
begun_bytes D (saying s) = part_bytes D s

-- how many fields it has ("Sheet and graph bytes")
abbrev pub begun_fields : (D : Decision) → Begun D → ℕ
begun_fields D nothing = 0
begun_fields D refuted_only = 1
begun_fields D (saying s) = part_fields D s

-- what it says, a part may say ("Sheet and graph bytes")
abbrev pub MayBegin : (D : Decision) → Begun D → Type 0
MayBegin D nothing = Unit {0}
MayBegin D refuted_only = Unit {0}
MayBegin D (saying s) = MaySay D s

-- the bytes begin with n good fields ("Sheet and graph bytes")
pub record GoodSheetFields (D : Decision) (bs : List ℕ) (n : ℕ) : Type 0 where
  pub begun : Begun D
  pub rest : List ℕ
  pub good : MayBegin D begun
  pub fields : begun_fields D begun ≡ n
  pub bytes : bs ≡ begun_bytes D begun ++ rest

-- field k of a sheet is its first wrong one: cut, of a wrong tag or contents, missing, or behind the last ("Sheet and graph bytes")
abbrev pub WrongSheetField : Decision → List ℕ → ℕ → Type 0
WrongSheetField D bs = FirstWrong (GoodSheetFields D bs) (IsSheet D bs)

-- the same of one part, whose first field is field k: field j is its first wrong one ("Sheet and graph bytes")
abbrev pub WrongPart : Decision → ℕ → List ℕ → ℕ → Type 0
WrongPart D k bs j =
    (n : ℕ) × (j ≡ k + n) × FirstWrong (GoodSheetFields D bs) ((s : Said D) × (rest : List ℕ) × IsPart D bs s rest) (suc n)
