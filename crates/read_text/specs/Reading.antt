-- What the reader answers and what it leaves in the lent array, for every list of bytes. (Document 01, "Refusals with an example each".)
-- This is the reading up to refusal 7: `read` of document 01 is this and then the limits (refusal 8).
-- Assumes nothing.
use Rattle.std.specs.Prelude.{Result as Returned, Ok, Err, ℕ, ◌-◌, ◌≡◌, true, false, List, [], ◌++◌, leb, length}
use Rattle.std.proofs.Math.Option.{some, none}
use Rattle.claims.specs.Bytes.{raw_lines}
use Rattle.claims.specs.Query.{Query, tests, relations}
use Rattle.claims.specs.Reading.{bad_line, claim_of, read_lines}
use Rattle.claims.specs.Refusals.{too_long, bad_byte, no_claim, Result, ok, refused, refuse, afterwards}
use Rattle.codes.specs.Codes.{query_codes, claim_kind}
use Rattle.refusals.specs.Causes.{cause_of}
use Rattle.read_text.specs.declared.Summary.{Summary}
use Rattle.refusals.specs.declared.Refusal.{Refusal}
use Rattle.memory.specs.Memory.{zeros}

-- a query must have a claim
unfoldable pub claimed : Query → Result Query
claimed q = elim (claim_of q) [ none ↦ refuse no_claim 0 | some c ↦ ok q ]

-- the lines from the top, and the claim that there must be: refusals 3 to 7
unfoldable pub in_lines : List ℕ → Result Query
in_lines bs = afterwards (read_lines [] 1 (raw_lines bs)) claimed

-- the query that the bytes are, or the first refusal of 1 to 7
unfoldable pub readable : List ℕ → Result Query
readable bs =
    elim (leb (length bs) 4096) [
      | false ↦ refuse too_long 0
      | true ↦ elim (bad_line 1 bs) [ some n ↦ refuse bad_byte n | none ↦ in_lines bs ]
    ]

-- what is known of a query: how many codes, lines, tests and relations it has, and its last code, which tells the kind of its claim
unfoldable pub summary_of : Query → Summary
summary_of q =
    record {
      codes = length (query_codes q);
      lines = length q;
      tests = length (tests q);
      relations = length (relations q);
      kind = claim_kind (query_codes q);
    }

-- the answer says what was read: the summary of the query, or the cause and the place
abbrev pub SaysSummary : Result Query → Returned Summary Refusal → Type 0
SaysSummary (ok q) (Ok s) = s ≡ summary_of q
SaysSummary (ok q) (Err f) = ⊥
SaysSummary (refused r) (Ok s) = ⊥
SaysSummary (refused r) (Err f) = (cause_of f.why ≡ r.cause) × (f.place ≡ r.place)

-- the lent array: the codes of the query, and zeros behind; all zeros after a refusal
unfoldable pub left_codes : Result Query → List ℕ
left_codes (ok q) = query_codes q ++ zeros (4096 - length (query_codes q))
left_codes (refused r) = zeros 4096
