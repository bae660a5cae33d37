-- The answer and the sheet of what the search finds, from the memory that it leaves; and what is told of it where the sheet buffer may be
-- short. (Document 01, "Sheet and graph bytes" and "Refusals with an example each".)
-- Assumes nothing.
use Rattle.std.specs.Prelude.{ℕ, ◌≤◌, ◌≡◌, Bool, true, false, List, ◌++◌, leb, length, drop}
use Rattle.kat.specs.Word.{end}
use Rattle.kat.specs.Ring.{onto}
use Rattle.claims.specs.Refusals.{spent_allowance, short_buffer, Result, ok, refused, refuse}
use Rattle.claims.specs.Calls.{Answer, proved_with, refuted_by, Given}
use Rattle.search_store.specs.Store.{Room}
use Rattle.search_sheet.specs.SheetWords.{Falling, prefix_in, proved_sheet, refuted_sheet}
use Rattle.search_course.specs.declared.Finding.{Finding as Found}
use Rattle.search_course.specs.declared.Finding.TheVariants.{Proved, Refuted, Spent}
use Rattle.layout.specs.Layout.{MOST-STANDINGS}
use Rattle.search_outcomes.specs.Outcomes.{Outcome, Says, Sized}

module _ (ring : Bool) (r : List (List ℕ)) (w : List ℕ) where
  -- the memory has what was found
  abbrev pub Reportable : Found → Type 0
  Reportable (Proved n) = Room ring r w n × (n ≤ MOST-STANDINGS)
  Reportable (Refuted place a) = Room ring r w place × Falling ring r w place × (place ≤ MOST-STANDINGS)
  Reportable Spent = Unit {0}

  -- proved with n standings, and the sheet ("Sheet and graph bytes")
  unfoldable pub proved_in : ℕ → Result Given
  proved_in n = ok (record { answer = proved_with n; sheet = proved_sheet ring r w n })

  -- refuted by the word of a place and a last atom, and the sheet ("Sheet and graph bytes")
  unfoldable pub refuted_in : ℕ → ℕ → Result Given
  refuted_in place a =
      ok (record { answer = refuted_by (onto (prefix_in ring r w place) (end a)); sheet = refuted_sheet ring r w place a })

  -- what was found; a spent allowance is refusal 10 ("Refusals with an example each")
  unfoldable pub found_in : Found → Result Given
  found_in (Proved n) = proved_in n
  found_in (Refuted place a) = refuted_in place a
  found_in Spent = refuse spent_allowance 0

-- what is told of it: 11 where the buffer is short ("Refusals with an example each")
unfoldable pub told : Result Given → List ℕ → Result Answer
told (refused r) b = refused r
told (ok g) b = elim (leb (length g.sheet) (length b)) [ false ↦ refuse short_buffer 0 | true ↦ ok g.answer ]

-- the buffer afterwards: the sheet at its start, where it is long enough ("Refusals with an example each")
unfoldable pub put : Result Given → List ℕ → List ℕ
put (refused r) b = b
put (ok g) b = elim (leb (length g.sheet) (length b)) [ false ↦ b | true ↦ g.sheet ++ drop (length g.sheet) b ]

-- the outcome says what is told, the buffer is as it is afterwards, and an answer has the bytes of its sheet ("Refusals with an example each")
abbrev pub Reports : Result Given → List ℕ → Outcome → List ℕ → Type 0
Reports g b o b' = Says (told g b) o × (b' ≡ put g b) × Sized o g
