-- What a search answers, as document 01's values, and the lent memory as that of the document. (Document 01, "Refusals with an example each".)
-- An answer of the code has the count of standings, or the length of the refuting word, which stands in the sheet; and how many bytes of the
-- buffer the sheet is, so that nobody has to know the kind of the claim to find its end.
-- Assumes nothing.
use Rattle.std.specs.Prelude.{ℕ, ◌≡◌, Ok, Err, List, map, length}
use Rattle.kat.specs.Word.{size}
use Rattle.claims.specs.Refusals.{Result, ok, refused, afterwards}
use Rattle.claims.specs.Calls.{Answer, proved_with, refuted_by, Given, searched, asked, Slot, Lent, Done, search_call}
use Rattle.refusals.specs.Causes.{cause_of}
use Rattle.refusals.specs.declared.Reason.{Reason}
use Rattle.refusals.specs.declared.Refusal.{Refusal}
use Rattle.search_records.specs.declared.Record.{Record}
use Rattle.search_outcomes.specs.declared.Verdict.{Verdict}
use Rattle.search_outcomes.specs.declared.Verdict.TheVariants.{Proved, Refuted}

-- a verdict with the bytes of its sheet, or a refusal
abbrev pub Outcome : Type 0
Outcome = Rattle.std.specs.Prelude.Result Verdict Refusal

-- a refusal, by why and where
abbrev pub refused_at : Reason → ℕ → Outcome
refused_at why place = Err (record { why = why; place = place })

-- the outcome says the result: the count, the length of the word, or the cause and the place ("Refusals with an example each")
abbrev pub Says : Result Answer → Outcome → Type 0
Says (ok (proved_with c)) (Ok (Proved n bytes)) = n ≡ c
Says (ok (proved_with c)) (Ok (Refuted n bytes)) = ⊥
Says (ok (proved_with c)) (Err e) = ⊥
Says (ok (refuted_by w)) (Ok (Proved n bytes)) = ⊥
Says (ok (refuted_by w)) (Ok (Refuted n bytes)) = n ≡ size w
Says (ok (refuted_by w)) (Err e) = ⊥
Says (refused r) (Ok v) = ⊥
Says (refused r) (Err e) = (cause_of e.why ≡ r.cause) × (e.place ≡ r.place)

-- the bytes of an answer are those of the sheet that the search gives; a refusal has no sheet ("Sheet and graph bytes")
abbrev pub Sized : Outcome → Result Given → Type 0
Sized (Ok (Proved n bytes)) (ok g) = bytes ≡ length g.sheet
Sized (Ok (Refuted n bytes)) (ok g) = bytes ≡ length g.sheet
Sized (Ok v) (refused r) = ⊥
Sized (Err e) g = Unit {0}

-- a lent record, as one of document 01's ("Standings")
unfoldable pub slot_of : Record → Slot
slot_of r = record { P = r.p; S = r.s; parent = r.parent; letter = r.letter }

-- what is lent: records, words, and the sheet buffer ("Refusals with an example each")
unfoldable pub lent_of : List Record → List ℕ → List ℕ → Lent
lent_of records words buffer = record { records = map slot_of records; words = words; buffer = buffer }

-- a call whose search gives g does d: its outcome says the result, all that was lent is as it is then, and the bytes of an answer are those of
-- its sheet ("Refusals with an example each")
pub record Gives (g : Result Given) (d : Done) (r : Outcome) (m : Lent) : Type 0 where
  pub says : Says d.result r
  pub leaves : m ≡ d.lent
  pub sized : Sized r g

-- the answer and the sheet that the search of a text gives within an allowance, whatever is lent ("Refusals with an example each")
unfoldable pub given_by : List ℕ → ℕ → Result Given
given_by text allowance = afterwards (asked text) (λ a. searched a.decided allowance)

-- what a search call gives for a text, an allowance and lent memory: the sheet of `given_by` is the one that `search_call` leaves at the start of
-- the buffer after an answer ("Refusals with an example each")
abbrev pub SearchGives : List ℕ → ℕ → Lent → Outcome → Lent → Type 0
SearchGives text allowance before r after = Gives (given_by text allowance) (search_call text allowance before) r after
