-- The calls: the result of each, and what it leaves in every lent memory, as a function of its input. (Document 01, "Refusals with an
-- example each", the table's last column and the paragraph behind it, and "Standings", last paragraph.) A call tests everything
-- itself: for every input there is one result.
-- Assumes nothing.
use Rattle.std.specs.Prelude.{ℕ, ◌*◌, Bool, true, false, ◌&&◌, List, [], ◌++◌, leb, length, drop, replicate}
use Rattle.std.proofs.Math.Option.{some, none}
use Rattle.kat.specs.Word.{Word}
use Rattle.notation.specs.Query.{Query, atoms, relations}
use Rattle.notation.specs.Width.{ring_words}
use Rattle.notation.specs.Tree.{Claim}
use Rattle.notation.specs.Decisions.{decisions, last_of}
use Rattle.notation.specs.Reading.{read}
use Rattle.notation.specs.Sides.{Decision, decision}
use Rattle.verdicts.specs.Standings.{System, path_system, ring_system}
use Rattle.verdicts.specs.Search.{Verdict, proved, refuted, spent, verdict}
use Rattle.claims.specs.SheetBytes.{sheet_bytes, path_bytes, ring_bytes}
use Rattle.claims.specs.SheetReading.{Said, says_proved, says_refuted, sheet_in}
use Rattle.verdicts.specs.Passing.{passes}
use Rattle.claims.specs.GraphBytes.{graph_in, finite}
use Rattle.claims.specs.Judgement.{Judgement, judgement}
use Rattle.notation.specs.Refusals.{no_claim, bad_allowance, short_memory, spent_allowance, short_buffer, does_not_pass, Result, ok, refused, refuse, afterwards}

-- proved with the count of standings, or refuted with the first word ("Refusals with an example each")
pub data Answer : Type 0 where
  proved_with : ℕ → Answer
  refuted_by : Word → Answer

-- an answer and its sheet ("Refusals with an example each")
pub record Given : Type 0 where
  pub answer : Answer
  pub sheet : List ℕ

-- the answer of a verdict with its sheet; a spent allowance is refusal 10 ("Refusals with an example each")
unfoldable pub answer_of : (S : System) → (S.Standing → List ℕ) → Verdict S → Result Given
answer_of S contents (proved ss) =
    ok (record { answer = proved_with (length ss); sheet = sheet_bytes S contents (proved ss) })
answer_of S contents (refuted w) = ok (record { answer = refuted_by w; sheet = sheet_bytes S contents (refuted w) })
answer_of S contents spent = refuse spent_allowance 0

-- the search, for an allowance from 1 to 4,096 ("Refusals with an example each")
unfoldable pub searched : Decision → ℕ → Result Given
searched D allowance =
    elim D.ring [
      | false ↦ answer_of (path_system D) path_bytes (verdict (path_system D) allowance)
      | true ↦ answer_of (ring_system D) ring_bytes (verdict (ring_system D) allowance)
    ]

-- a query that the reader accepts, with its decision ("Refusals with an example each")
pub record Asked : Type 0 where
  pub query : Query
  pub claim : Claim
  pub decided : Decision

-- the query that the bytes are, or the reader's refusal ("Refusals with an example each")
unfoldable pub asked : List ℕ → Result Asked
asked bs =
    afterwards (read bs) (λ q.
    elim (last_of (decisions q)) [
      | some d ↦ ok (record { query = q; claim = d.claim; decided = decision d.over d.claim })
      | none ↦ refuse no_claim 0
    ])

-- a record of a path claim's working memory ("Refusals with an example each")
pub record Slot : Type 0 where
  pub P : ℕ
  pub S : ℕ
  pub parent : ℕ
  pub letter : ℕ

-- what the search is lent: records for a path claim, words for a ring claim, and the sheet buffer ("Refusals with an example each")
pub record Lent : Type 0 where
  pub records : List Slot
  pub words : List ℕ
  pub buffer : List ℕ

-- how much of its kind a claim needs: a record, or 40 words, for each standing of the allowance ("Refusals with an example each")
unfoldable pub needed_records : Decision → ℕ → ℕ
needed_records D allowance = elim D.ring [ false ↦ allowance | true ↦ 0 ]

-- the words that a ring claim needs ("Refusals with an example each")
unfoldable pub needed_words : Decision → ℕ → ℕ
needed_words D allowance = elim D.ring [ false ↦ 0 | true ↦ ring_words * allowance ]

-- the first n zero, those beyond unchanged ("Refusals with an example each")
unfoldable pub cleared : {A : Type 0} → A → ℕ → List A → List A
cleared z n xs = replicate n z ++ drop n xs

-- the needed working memory zero, and the sheet at the start of its buffer, which is unchanged past it ("Refusals with an example each")
unfoldable pub left_behind : Decision → ℕ → List ℕ → Lent → Lent
left_behind D allowance sheet m =
    record {
      records = cleared (record { P = 0; S = 0; parent = 0; letter = 0 }) (needed_records D allowance) m.records;
      words = cleared 0 (needed_words D allowance) m.words;
      buffer = sheet ++ drop (length sheet) m.buffer;
    }

-- the result of a call, and what is in the lent memory after it ("Refusals with an example each")
pub record Done : Type 0 where
  pub result : Result Answer
  pub lent : Lent

-- 9: an allowance outside 1 to 4,096, or memory short of it ("Refusals with an example each")
unfoldable pub enough_memory : Decision → ℕ → Lent → Bool
enough_memory D allowance m =
    leb (needed_records D allowance) (length m.records) && leb (needed_words D allowance) (length m.words)

-- after the search: 10 and 11 leave the needed memory zero and the buffer unchanged, an answer leaves its sheet ("Refusals with an example each")
unfoldable pub finish : Decision → ℕ → Lent → Result Given → Done
finish D allowance m (refused r) = record { result = refused r; lent = left_behind D allowance [] m }
finish D allowance m (ok g) =
    elim (leb (length g.sheet) (length m.buffer)) [
      | false ↦ record { result = refuse short_buffer 0; lent = left_behind D allowance [] m }
      | true ↦ record { result = ok g.answer; lent = left_behind D allowance g.sheet m }
    ]

-- 9 comes before any search, with memory as before ("Refusals with an example each")
unfoldable pub search_asked : Asked → ℕ → Lent → Done
search_asked a allowance m =
    elim (leb 1 allowance && leb allowance 4096) [
      | false ↦ record { result = refuse bad_allowance 0; lent = m }
      | true ↦ elim (enough_memory a.decided allowance m) [
        | false ↦ record { result = refuse short_memory 0; lent = m }
        | true ↦ finish a.decided allowance m (searched a.decided allowance)
      ]
    ]

-- the search call: refusals 1 to 11 ("Refusals with an example each")
unfoldable pub search_call : List ℕ → ℕ → Lent → Done
search_call bs allowance m =
    elim (asked bs) [ refused r ↦ record { result = refused r; lent = m } | ok a ↦ search_asked a allowance m ]

-- what a passing sheet says ("Refusals with an example each")
pub data Passed : Type 0 where
  passed_proved passed_refuted : Passed

-- 14 for a well-formed sheet that does not pass ("Refusals with an example each")
unfoldable pub passed_of : (D : Decision) → Said D → Result Passed
passed_of D (says_proved ss) = elim (passes D (says_proved ss)) [ true ↦ ok passed_proved | false ↦ refuse does_not_pass 0 ]
passed_of D (says_refuted w) = elim (passes D (says_refuted w)) [ true ↦ ok passed_refuted | false ↦ refuse does_not_pass 0 ]

-- the sheet read, and then tested ("Refusals with an example each")
unfoldable pub checked : Decision → List ℕ → Result Passed
checked D bs = afterwards (sheet_in D bs) (passed_of D)

-- the sheet check: refusals 1 to 8, 13 and 14; it is lent nothing that it could change ("Refusals with an example each")
unfoldable pub check_call : List ℕ → List ℕ → Result Passed
check_call bs sheet = afterwards (asked bs) (λ a. checked a.decided sheet)

-- the judge: refusals 1 to 8 and 12 ("Refusals with an example each")
unfoldable pub judge_call : List ℕ → List ℕ → Result Judgement
judge_call bs graph =
    afterwards (asked bs) (λ a.
    afterwards (graph_in (record { atoms = a.decided.atoms; relations = a.decided.relations }) graph) (λ G.
    ok (judgement (finite G) a.query a.claim)))
