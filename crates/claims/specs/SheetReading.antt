-- The reading of a sheet, with refusal 13 and its field. (Document 01, "Sheet and graph bytes" and refusal 13.) One part, a verdict with
-- its standings or its word, is read from where the bytes before it ended; a sheet is one part and nothing behind it. The first wrong
-- field decides.
-- Assumes nothing.
use Rattle.std.specs.Prelude.{ℕ, zero, suc, ◌+◌, ◌*◌, ◌^◌, ◌%◌, Bool, true, false, not, cond, ◌&&◌, List, [], ◌∷◌, ◌++◌, map, eqb, ltb, leb, length, take, drop, get_or}
use Rattle.std.proofs.Math.Option.{Option, some, none}
use Rattle.kat.specs.Lists.{some as some_of, is_empty}
use Rattle.kat.specs.Tables.{occurrences}
use Rattle.kat.specs.Word.{Word, end, at}
use Rattle.notation.specs.Bytes.{same}
use Rattle.notation.specs.Sides.{Decision}
use Rattle.verdicts.specs.Standings.{Path, Ring, system_of, claim_system}
pub use Rattle.verdicts.specs.Passing.{Said, says_proved, says_refuted}
use Rattle.claims.specs.Fields.{Field, whole, cut, next_field, after_field, provided, from_bytes, number_set}
use Rattle.notation.specs.Width.{width, row_length}
use Rattle.claims.specs.SheetBytes.{contents_length}
use Rattle.notation.specs.Refusals.{sheet_field, Result, ok, refuse, afterwards}

-- a set of 8 bytes over n occurrences ("Sheet and graph bytes")
unfoldable pub set_of : ℕ → List ℕ → List ℕ
set_of n bs = number_set 1 (suc n) (from_bytes 0 bs)

-- no bit for an occurrence past n ("Sheet and graph bytes")
unfoldable pub set_fits : ℕ → List ℕ → Bool
set_fits n bs = ltb (from_bytes 0 bs) (2 ^ n)

-- a path standing of 16 bytes ("Sheet and graph bytes")
unfoldable pub path_of : Decision → List ℕ → Option Path
path_of D bs =
    let l : ℕ = occurrences D.left in
    let r : ℕ = occurrences D.right in
    provided (eqb (length bs) (contents_length false) && set_fits l (take 8 bs) && set_fits r (drop 8 bs))
    (record { P = set_of l (take 8 bs); S = set_of r (drop 8 bs) })

-- n rows of b bytes each, as numbers ("Sheet and graph bytes")
unfoldable pub row_numbers : ℕ → ℕ → List ℕ → List ℕ
row_numbers b zero bs = []
row_numbers b (suc n) bs = from_bytes 0 (take b bs) ∷ row_numbers b n (drop b bs)

-- each row, by its number from p on, passes the test ("Sheet and graph bytes")
unfoldable pub rows_pass : (ℕ → ℕ → Bool) → ℕ → List ℕ → Bool
rows_pass f p [] = true
rows_pass f p (m ∷ ms) = f p m && rows_pass f (suc p) ms

-- with r right occurrences: rows 0 to r of M hold numbers 1 to r, rows 1 to r of N hold 0 to r, and any other holds nothing ("Sheet and graph bytes")
unfoldable pub row_of_m : ℕ → ℕ → ℕ → Bool
row_of_m r p m = cond (leb p r) (ltb m (2 ^ suc r) && eqb (m % 2) 0) (eqb m 0)

-- what a row of N may hold ("Sheet and graph bytes")
unfoldable pub row_of_n : ℕ → ℕ → ℕ → Bool
row_of_n r q m = cond (leb 1 q && leb q r) (ltb m (2 ^ suc r)) (eqb m 0)

-- the rows 0 to r of a table ("Sheet and graph bytes")
unfoldable pub table_of : ℕ → List ℕ → List (List ℕ)
table_of r ms = map (number_set 0 (suc r)) (take (suc r) ms)

-- a ring standing of 266 bytes ("Sheet and graph bytes")
unfoldable pub ring_of : Decision → List ℕ → Option Ring
ring_of D bs =
    let l : ℕ = occurrences D.left in
    let r : ℕ = occurrences D.right in
    let p : List ℕ = take 8 (drop 2 bs) in
    let m : List ℕ = row_numbers row_length width (drop (2 + 8) bs) in
    let n : List ℕ = row_numbers row_length width (drop (2 + 8 + width * row_length) bs) in
    provided
    (eqb (length bs) (contents_length true) && ltb (get_or bs 0 0) D.atoms && leb (get_or bs 1 0) 1 && set_fits l p
    && rows_pass (row_of_m r) 0 m && rows_pass (row_of_n r) 0 n)
    (record { first = get_or bs 0 0; Z = eqb (get_or bs 1 0) 1; P = set_of l p; M = table_of r m; N = table_of r n })

-- atom, relation, atom, .., atom, each in its range; a removed atom is in range ("Sheet and graph bytes")
unfoldable pub word_of : Decision → List ℕ → Option Word
word_of D [] = none
word_of D (a ∷ []) = provided (ltb a D.atoms) (end a)
word_of D (a ∷ r ∷ ns) =
    elim (word_of D ns) [ none ↦ none | some w ↦ provided (ltb a D.atoms && ltb r D.relations) (at a r w) ]

-- the standing that the contents are, of a path claim (false) or of a ring claim (true) ("Sheet and graph bytes")
abbrev pub standing_of : (ring : Bool) (D : Decision) → List ℕ → Option (system_of ring D).Standing
standing_of false D = path_of D
standing_of true D = ring_of D

-- a part that was read: what it says, the number of the next field, and the bytes from there on ("Sheet and graph bytes")
pub record Part (D : Decision) : Type 0 where
  pub said : Said D
  pub next : ℕ
  pub rest : List ℕ

-- the next field has the tag t ("Sheet and graph bytes")
unfoldable pub tagged : ℕ → List ℕ → Bool
tagged t [] = false
tagged t (b ∷ bs) = eqb b t

-- the verdict's field: tag 1, and v is 1 for proved, 2 for refuted ("Sheet and graph bytes")
unfoldable pub verdict_is : ℕ → Field → Bool
verdict_is v cut = false
verdict_is v (whole tag contents rest) = eqb tag 1 && same contents (v ∷ [])

module _ (D : Decision) where
  -- the word's field: tag 2 ("Sheet and graph bytes")
  unfoldable pub word_in : Field → Option Word
  word_in cut = none
  word_in (whole tag contents rest) = elim (eqb tag 2) [ true ↦ word_of D contents | false ↦ none ]

  -- a standing's field: its contents as they should be, and none of those before it ("Sheet and graph bytes")
  unfoldable pub standing_in : List (claim_system D).Standing → Field → Option (claim_system D).Standing
  standing_in listed cut = none
  standing_in listed (whole tag contents rest) =
      elim (standing_of D.ring D contents) [
        | none ↦ none
        | some s ↦ provided (not (some_of ((claim_system D).equal s) listed)) s
      ]

  -- the standings from field k on, at most n more, as long as the next field has tag 3 ("Sheet and graph bytes")
  unfoldable pub standings_in : ℕ → ℕ → List (claim_system D).Standing → List ℕ → Result (Part D)
  standings_in zero k listed bs =
      elim (tagged 3 bs) [ true ↦ refuse sheet_field k | false ↦ ok (record { said = says_proved listed; next = k; rest = bs }) ]
  standings_in (suc n) k listed bs =
      elim (tagged 3 bs) [
        | false ↦ ok (record { said = says_proved listed; next = k; rest = bs })
        | true ↦ elim (standing_in listed (next_field bs)) [
          | none ↦ refuse sheet_field k
          | some s ↦ standings_in n (suc k) (listed ++ (s ∷ [])) (after_field (next_field bs))
        ]
      ]

  -- a refuted part ends with its word, field k; a missing word is placed where it would stand ("Sheet and graph bytes")
  unfoldable pub word_from : ℕ → Field → Result (Part D)
  word_from k f =
      elim (word_in f) [
        | none ↦ refuse sheet_field k
        | some w ↦ ok (record { said = says_refuted w; next = suc k; rest = after_field f })
      ]

  -- a part from its verdict, field k: the standings follow, or the word ("Sheet and graph bytes")
  unfoldable pub part_from : ℕ → Field → Result (Part D)
  part_from k f =
      elim (verdict_is 1 f) [
        | true ↦ standings_in 4096 (suc k) [] (after_field f)
        | false ↦ elim (verdict_is 2 f) [ true ↦ word_from (suc k) (next_field (after_field f)) | false ↦ refuse sheet_field k ]
      ]

  -- the part that the bytes begin with, its first field being field k, or refusal 13 at its first wrong field ("Sheet and graph bytes")
  unfoldable pub part_in : ℕ → List ℕ → Result (Part D)
  part_in k bs = part_from k (next_field bs)

  -- nothing follows: a field that does is wrong ("Sheet and graph bytes")
  unfoldable pub only_part : Part D → Result (Said D)
  only_part p = elim (is_empty p.rest) [ true ↦ ok p.said | false ↦ refuse sheet_field p.next ]

  -- what a sheet says, one part from field 1 and nothing behind it, or refusal 13 at its first wrong field ("Sheet and graph bytes")
  unfoldable pub sheet_in : List ℕ → Result (Said D)
  sheet_in bs = afterwards (part_in 1 bs) only_part
