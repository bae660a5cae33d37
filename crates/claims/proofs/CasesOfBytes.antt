-- Sheets and graphs as rows: the bytes of a ring sheet, what the check says of sheets and where it refuses them, what the judge says of
-- graphs and where it refuses them, drawn graphs, and what a search leaves in its lent memory. (Document 01, "Words", Drawn graph,
-- "Sheet and graph bytes", and refusals 10 to 14.) All of it holds by computation over the definitions.
-- Assumes nothing.
use Prim.Native.Nat.{ℕ, ◌-◌}
use Prim.Native.String.{String}
use mathlib.Core.Path.{◌≡◌, refl}
use mathlib.Core.Bool.{cond}
use mathlib.Core.List.{List, [], ◌∷◌, ◌++◌, map}
use lib.ListN.{length, replicate, take}
use Rattle.kat.specs.Lists.{upto}
use Rattle.kat.specs.Graph.{Finite}
use Rattle.kat.specs.Word.{Word, end, at, numbers}
use Rattle.notation.specs.Bytes.{text}
use Rattle.notation.specs.Refusals.{Result, ok, refused, refuse, short_memory, spent_allowance, short_buffer}
use Rattle.notation.specs.Sides.{Decision}
use Rattle.claims.specs.SheetReading.{Said, says_proved, says_refuted, Part, part_in}
use Rattle.claims.specs.Judgement.{Judgement, Outcome, holds_in, breaks_at, breaks_from}
use Rattle.claims.specs.GraphWriting.{joined}
use Rattle.claims.specs.Drawn.{drawn}
use Rattle.claims.specs.Calls.{Asked, asked, proved_with, refuted_by, Lent, search_call, Passed, passed_proved, passed_refuted, check_call, judge_call}
use Rattle.claims.specs.Printed.{spaced, refusal_line, memory_for}
use Rattle.claims.proofs.Evaluate.{everything}

-- what the call of the query program leaves at the start of its buffer, n bytes
unfoldable pub leaves : ℕ → String → List ℕ
leaves n q = take n (search_call (text q) 200 (memory_for 200)).lent.buffer

-- a sheet or a graph with its query, and the line that is printed
pub record Sent : Type 0 where
  pub query : String
  pub bytes : List ℕ
  pub line : String

abbrev pub said : Sent → List ℕ
said c = text c.line

abbrev pub shown : {A : Type 0} → (A → List ℕ) → Result A → List ℕ
shown f (ok a) = f a
shown f (refused r) = refusal_line r

-- 32 rows of 4 bytes: those given, each below 256, and empty ones
abbrev pub four_bytes : List ℕ → List ℕ
four_bytes [] = []
four_bytes (m ∷ ms) = 0 ∷ 0 ∷ 0 ∷ m ∷ four_bytes ms

abbrev pub rows : List ℕ → List ℕ
rows ms = four_bytes (ms ++ replicate (32 - length ms) 0)

-- the field of a ring standing: atom 0, Z off, a set P of one byte, M and N
abbrev pub ring_field : ℕ → List ℕ → List ℕ → List ℕ
ring_field p m n =
    3 ∷ 1 ∷ 10 ∷ 0 ∷ 0 ∷ 0 ∷ 0 ∷ 0 ∷ 0 ∷ 0 ∷ 0 ∷ 0 ∷ p ∷ (rows m ++ rows n)

abbrev pub C5 : String
C5 = "rel r\nassume irreflexive r;r\nclaim irreflexive r\n"

abbrev pub C7 : String
C7 = "rel a\nrel b\nassume irreflexive a;b\nclaim irreflexive b;a\n"

-- C7: M before N; after the second relation, N has the pairs (1, 1), (1, 4), (3, 1) and (3, 4)
abbrev pub sheet_of_c7 : List ℕ
sheet_of_c7 =
    1 ∷ 0 ∷ 1 ∷ 1 ∷
    (ring_field 1 (8 ∷ 4 ∷ 0 ∷ 8 ∷ 16 ∷ []) [] ++ ring_field 2 (8 ∷ 0 ∷ 0 ∷ 8 ∷ 16 ∷ []) (0 ∷ 18 ∷ 0 ∷ 18 ∷ []))

-- the sheet of a refuted claim is its word
abbrev pub sheet_of_word : List ℕ
sheet_of_word = 1 ∷ 0 ∷ 1 ∷ 2 ∷ 2 ∷ 0 ∷ 3 ∷ 0 ∷ 0 ∷ 0 ∷ []

pub sheets_written : (leaves 542 C7 ≡ sheet_of_c7) × (length sheet_of_c7 ≡ 542) × (leaves 10 "rel r\nclaim empty r\n" ≡ sheet_of_word)
unfolding leaves everything
sheets_written = (refl, refl, refl)

-- the check of a sheet
abbrev pub passed_line : Passed → List ℕ
passed_line passed_proved = text "passes proved"
passed_line passed_refuted = text "passes refuted"

unfoldable pub checks : Sent → List ℕ
checks c = shown passed_line (check_call (text c.query) c.bytes)

abbrev pub included : String
included = "rel r\nclaim include r in r\n"

abbrev pub nothing : String
nothing = "rel r\nclaim empty r\n"

-- the search has two standings: P = {1}, S = {1, 3}; {2}, {2, 3}
abbrev pub two_steps : String
two_steps = "rel a\nrel b\nclaim include a;b in a;b\n"

-- the field of a path standing with P and S of one byte each, under a tag
abbrev pub path_field : ℕ → ℕ → ℕ → List ℕ
path_field tag p s = tag ∷ 0 ∷ 16 ∷ 0 ∷ 0 ∷ 0 ∷ 0 ∷ 0 ∷ 0 ∷ 0 ∷ p ∷ 0 ∷ 0 ∷ 0 ∷ 0 ∷ 0 ∷ 0 ∷ 0 ∷ s ∷ []

-- the field of a verdict, 1 proved and 2 refuted, and what follows
abbrev pub saying : ℕ → List ℕ → List ℕ
saying v bs = 1 ∷ 0 ∷ 1 ∷ v ∷ bs

-- the M of C5's one standing
abbrev pub M5 : List ℕ
M5 = 10 ∷ 4 ∷ 0 ∷ 8 ∷ 16 ∷ []

abbrev pub sheets : List Sent
sheets =
    -- a path's: nothing, another verdict, as written, another tag, cut short, a byte more, a standing twice, another tag behind a standing,
    -- a second sheet behind the first
    record { query = included; bytes = []; line = "refusal 13 line 1" }
    ∷ record { query = included; bytes = saying 3 []; line = "refusal 13 line 1" }
    ∷ record { query = included; bytes = saying 1 (path_field 3 1 3); line = "passes proved" }
    ∷ record { query = included; bytes = saying 1 (path_field 4 1 3); line = "refusal 13 line 2" }
    ∷ record { query = included; bytes = saying 1 (3 ∷ 0 ∷ 16 ∷ replicate 15 0); line = "refusal 13 line 2" }
    ∷ record { query = included; bytes = saying 1 (path_field 3 1 3 ++ (0 ∷ [])); line = "refusal 13 line 3" }
    ∷ record { query = included; bytes = saying 1 (path_field 3 1 3 ++ path_field 3 1 3); line = "refusal 13 line 3" }
    ∷ record { query = included; bytes = saying 1 (path_field 3 1 3 ++ path_field 4 1 1); line = "refusal 13 line 3" }
    ∷ record { query = included; bytes = saying 1 (path_field 3 1 3 ++ saying 1 (path_field 3 1 3)); line = "refusal 13 line 3" }
    -- an extra standing, and another order than the search's; a standing of the search's missing
    ∷ record { query = included; bytes = saying 1 (path_field 3 1 3 ++ path_field 3 1 1); line = "passes proved" }
    ∷ record { query = two_steps; bytes = saying 1 (path_field 3 1 5 ++ path_field 3 2 6); line = "passes proved" }
    ∷ record { query = two_steps; bytes = saying 1 (path_field 3 2 6 ++ path_field 3 1 5); line = "passes proved" }
    ∷ record { query = two_steps; bytes = saying 1 (path_field 3 1 5); line = "refusal 14 line 0" }
    -- a refuted one: its word in a line and in a ring, and one that is not the shortest; no word, a relation that there is not, a field
    -- more; words that do not refute
    ∷ record { query = nothing; bytes = sheet_of_word; line = "passes refuted" }
    ∷ record { query = "rel r\nclaim irreflexive r\n"; bytes = sheet_of_word; line = "passes refuted" }
    ∷ record { query = "rel r\nclaim empty r+\n"; bytes = saying 2 (2 ∷ 0 ∷ 5 ∷ replicate 5 0); line = "passes refuted" }
    ∷ record { query = nothing; bytes = saying 2 []; line = "refusal 13 line 2" }
    ∷ record { query = nothing; bytes = saying 2 (2 ∷ 0 ∷ 3 ∷ 0 ∷ 1 ∷ 0 ∷ []); line = "refusal 13 line 2" }
    ∷ record { query = nothing; bytes = sheet_of_word ++ (0 ∷ []); line = "refusal 13 line 3" }
    ∷ record { query = nothing; bytes = saying 2 (2 ∷ 0 ∷ 1 ∷ 0 ∷ []); line = "refusal 14 line 0" }
    ∷ record { query = C5; bytes = sheet_of_word; line = "refusal 14 line 0" }
    -- a ring's: as written; bit 0 in row 0 and in row 2 of M; a row 0 of N; bit 0 in row 1 of N, which is well-formed; rows and bits
    -- past the four right occurrences
    ∷ record { query = C5; bytes = saying 1 (ring_field 1 M5 []); line = "passes proved" }
    ∷ record { query = C5; bytes = saying 1 (ring_field 1 (11 ∷ 4 ∷ 0 ∷ 8 ∷ 16 ∷ []) []); line = "refusal 13 line 2" }
    ∷ record { query = C5; bytes = saying 1 (ring_field 1 (10 ∷ 4 ∷ 1 ∷ 8 ∷ 16 ∷ []) []); line = "refusal 13 line 2" }
    ∷ record { query = C5; bytes = saying 1 (ring_field 1 M5 (2 ∷ [])); line = "refusal 13 line 2" }
    ∷ record { query = C5; bytes = saying 1 (ring_field 1 M5 (0 ∷ 1 ∷ [])); line = "refusal 14 line 0" }
    ∷ record { query = C5; bytes = saying 1 (ring_field 1 (M5 ++ (2 ∷ [])) []); line = "refusal 13 line 2" }
    ∷ record { query = C5; bytes = saying 1 (ring_field 1 (42 ∷ 4 ∷ 0 ∷ 8 ∷ 16 ∷ []) []); line = "refusal 13 line 2" }
    ∷ record { query = C5; bytes = saying 1 (ring_field 1 M5 (0 ∷ 0 ∷ 0 ∷ 0 ∷ 0 ∷ 2 ∷ [])); line = "refusal 13 line 2" }
    ∷ record { query = C5; bytes = saying 1 (ring_field 1 M5 (0 ∷ 0 ∷ 0 ∷ 0 ∷ 32 ∷ [])); line = "refusal 13 line 2" }
    ∷ []

pub sheets_checked : map checks sheets ≡ map said sheets
unfolding checks everything
sheets_checked = refl

-- a part read from field 5 on: what it says, the number of the next field, and how many bytes are left; or the refusal
abbrev pub part_line : {D : Decision} → Part D → List ℕ
part_line {D} p = said_line D p.said ++ spaced (p.next ∷ length p.rest ∷ [])
  where
    said_line : (D : Decision) → Said D → List ℕ
    said_line D (says_proved ss) = text "proved" ++ spaced (length ss ∷ [])
    said_line D (says_refuted w) = text "refuted" ++ spaced (numbers w)

unfoldable pub reads : Sent → List ℕ
reads c = elim (asked (text c.query)) [ refused r ↦ refusal_line r | ok a ↦ shown part_line (part_in a.decided 5 c.bytes) ]

-- parts in a row: each is read by itself, and a standing of the first does not repeat in the second; a wrong field has its own number
abbrev pub parts : List Sent
parts =
    record { query = included; bytes = saying 1 (path_field 3 1 3 ++ saying 1 (path_field 3 1 3)); line = "proved 1 7 23" }
    ∷ record { query = included; bytes = saying 1 (path_field 3 1 3 ++ (4 ∷ [])); line = "proved 1 7 1" }
    ∷ record { query = included; bytes = saying 1 (saying 2 []); line = "proved 0 6 4" }
    ∷ record { query = included; bytes = sheet_of_word ++ saying 1 []; line = "refuted 0 0 0 7 4" }
    ∷ record { query = included; bytes = saying 1 (path_field 3 1 3 ++ path_field 3 1 3); line = "refusal 13 line 7" }
    ∷ record { query = included; bytes = saying 2 (saying 1 []); line = "refusal 13 line 6" }
    ∷ record { query = included; bytes = path_field 3 1 3; line = "refusal 13 line 5" }
    ∷ []

pub parts_read : map reads parts ≡ map said parts
unfolding reads everything
parts_read = refl

-- the judgement of a graph
abbrev pub outcome_line : Outcome → List ℕ
outcome_line holds_in = text " holds"
outcome_line (breaks_at x) = text " breaks" ++ spaced (x ∷ [])
outcome_line (breaks_from x y) = text " breaks" ++ spaced (x ∷ y ∷ [])

abbrev pub judgement_line : Judgement → List ℕ
judgement_line j = text "line" ++ (spaced (j.line ∷ []) ++ outcome_line j.outcome)

unfoldable pub judges : Sent → List ℕ
judges c = shown judgement_line (judge_call (text c.query) c.bytes)

-- an event with atom 0, and an edge
abbrev pub event : List ℕ
event = 1 ∷ 0 ∷ 1 ∷ 0 ∷ []

abbrev pub edge : ℕ → ℕ → ℕ → List ℕ
edge r x y = 2 ∷ 0 ∷ 3 ∷ r ∷ x ∷ y ∷ []

abbrev pub both : String
both = "rel r\nrel s\nclaim include r in s\n"

abbrev pub graphs : List Sent
graphs =
    -- the lowest pair by from, then to
    record { query = nothing; bytes = event ++ (event ++ (edge 0 1 0 ++ edge 0 0 1)); line = "line 0 breaks 0 1" }
    ∷ record { query = both; bytes = event ++ (event ++ (event ++ (edge 0 0 2 ++ (edge 0 1 0 ++ edge 1 0 1)))); line = "line 0 breaks 0 2" }
    ∷ record { query = both; bytes = event ++ (event ++ (edge 0 1 0 ++ edge 1 1 0)); line = "line 0 holds" }
    ∷ record { query = "rel r\nclaim irreflexive r\n"; bytes = event ++ (event ++ edge 0 1 1); line = "line 0 breaks 1" }
    -- no bytes; a field cut short; another tag; an edge to no event; an edge twice; an event behind an edge
    ∷ record { query = nothing; bytes = []; line = "line 0 holds" }
    ∷ record { query = nothing; bytes = 1 ∷ 0 ∷ []; line = "refusal 12 line 1" }
    ∷ record { query = nothing; bytes = 3 ∷ 0 ∷ 1 ∷ 0 ∷ []; line = "refusal 12 line 1" }
    ∷ record { query = nothing; bytes = event ++ edge 0 0 1; line = "refusal 12 line 2" }
    ∷ record { query = nothing; bytes = event ++ (edge 0 0 0 ++ edge 0 0 0); line = "refusal 12 line 3" }
    ∷ record { query = nothing; bytes = event ++ (edge 0 0 0 ++ event); line = "refusal 12 line 3" }
    ∷ []

pub graphs_judged : map judges graphs ≡ map said graphs
unfolding judges everything
graphs_judged = refl

-- the drawn graph of a word in a line and in a ring, as bytes: events, and edges by relation, from and to
abbrev pub edges_of : ℕ → ℕ → Finite → List ℕ
edges_of k n G =
    joined (λ r. joined (λ x. joined (λ y. cond (G.edges r x y) (edge r x y) []) (upto 0 n)) (upto 0 n)) (upto 0 k)

abbrev pub drawing : ℕ → Finite → List ℕ
drawing k G = joined (λ a. 1 ∷ 0 ∷ 1 ∷ a ∷ []) G.atoms ++ edges_of k (length G.atoms) G

unfoldable pub draws : Word → Result Asked → List ℕ
draws w = shown (λ a. drawing a.decided.relations (drawn a.query a.decided.ring w))

-- a closed relation is closed to the end: in a line of four events, and in a ring of two
pub graphs-drawn :
    (draws (at 0 0 (at 0 0 (at 0 0 (end 0)))) (asked (text "rel r\nclosed r\nclaim empty r;r;r\n"))
    ≡ event ++ (event ++ (event ++ (event ++ (edge 0 0 1 ++ (edge 0 0 2 ++ (edge 0 0 3 ++ (edge 0 1 2 ++ (edge 0 1 3 ++ edge 0 2 3)))))))))
    × (draws (at 0 0 (at 0 0 (end 0))) (asked (text "rel r\nclosed r\nclaim irreflexive r;r\n"))
    ≡ event ++ (event ++ (edge 0 0 0 ++ (edge 0 0 1 ++ (edge 0 1 0 ++ edge 0 1 1)))))
    × (draws (at 0 0 (at 0 0 (end 0))) (asked (text "rel r\nclaim irreflexive r;r\n"))
    ≡ event ++ (event ++ (edge 0 0 1 ++ edge 0 1 0)))
unfolding draws everything
graphs-drawn = (refl, refl, refl)

-- lent memory with other numbers in it: n records, k words, and m bytes of sheet
abbrev pub lent : ℕ → ℕ → ℕ → Lent
lent n k m =
    record {
      records = replicate n (record { P = 7; S = 7; parent = 7; letter = 7 });
      words = replicate k 7;
      buffer = replicate m 7;
    }

-- the needed records zero and one more left as it was, with a buffer
abbrev pub left : List ℕ → Lent
left buffer =
    record {
      records = record { P = 0; S = 0; parent = 0; letter = 0 } ∷ record { P = 7; S = 7; parent = 7; letter = 7 } ∷ [];
      words = 7 ∷ [];
      buffer = buffer;
    }

-- an answer with its sheet, refuted and proved; a buffer one byte short; an allowance of 1 where two standings are. For a ring claim 40 words
-- are needed for each standing of the allowance, and one more is left as it was; one word less is short
pub searches-leave :
    (search_call (text nothing) 1 (lent 2 1 12)
    ≡ record { result = ok (refuted_by (at 0 0 (end 0))); lent = left (sheet_of_word ++ (7 ∷ 7 ∷ [])) })
    × (search_call (text included) 1 (lent 2 1 24)
    ≡ record { result = ok (proved_with 1); lent = left (saying 1 (path_field 3 1 3 ++ (7 ∷ []))) })
    × (search_call (text nothing) 1 (lent 2 1 9) ≡ record { result = refuse short_buffer 0; lent = left (replicate 9 7) })
    × (search_call (text "rel a\nrel b\nclaim empty a|b\n") 1 (lent 2 1 12) ≡ record { result = refuse spent_allowance 0; lent = left (replicate 12 7) })
    × (search_call (text C5) 2 (lent 0 81 273)
    ≡ record { result = ok (proved_with 1); lent = record { records = []; words = replicate 80 0 ++ (7 ∷ []); buffer = saying 1 (ring_field 1 M5 []) } })
    × (search_call (text C5) 2 (lent 0 79 273) ≡ record { result = refuse short_memory 0; lent = lent 0 79 273 })
unfolding everything
searches-leave = (refl, refl, refl, refl, refl, refl)
