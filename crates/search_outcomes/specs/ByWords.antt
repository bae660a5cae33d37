-- What the outcome of a search is, by the words and standings of the claim and not by how they are searched, for a text that is an accepted
-- query, whatever the allowance and the lent memory. (Document 01, "Standings" and "Refusals with an example each".) Of three statements
-- exactly one holds: no word refutes and there are so many standings; this word refutes and none comes before it; the allowance is spent.
-- The outcome is the one that holds, each way round. Refusal 9 comes before any search, and 11 stands in place of an answer whose sheet the
-- buffer has no room for.
-- Assumes nothing.
use Rattle.std.specs.Prelude.{ℕ, ◌≤◌, ◌<◌, ◌≡◌, ◌⊎◌, ◌↔◌, Ok, List, ◌++◌, length, drop}
use Rattle.std.proofs.Math.Option.{some}
use Rattle.kat.specs.Word.{Word, size}
use Rattle.claims.specs.Tree.{Claim}
use Rattle.claims.specs.Query.{Query}
use Rattle.claims.specs.Refusals.{ok}
use Rattle.claims.specs.Reading.{read, claim_of}
use Rattle.claims.specs.Sides.{Decision, decision}
use Rattle.claims.specs.Standings.{claim_system}
use Rattle.claims.specs.Calls.{Answer, proved_with, refuted_by, Lent}
use Rattle.claims.specs.CallOrder.{Ready, Short}
use Rattle.claims.specs.Demands.{MeansProved, MeansRefuted, MeansSpent, AnswerMeans, OneMeaning}
use Rattle.claims.specs.SheetWriting.{refuted_sheet}
use Rattle.claims.specs.Sheets.{sheet_length}
use Rattle.refusals.specs.declared.Reason.TheVariants.{BadAllowance, ShortMemory, SpentAllowance, ShortBuffer}
use Rattle.layout.specs.Layout.{MOST-STANDINGS}
use Rattle.search_outcomes.specs.Outcomes.{Outcome, refused_at}
use Rattle.search_outcomes.specs.declared.Verdict.TheVariants.{Proved, Refuted}

-- the buffer has room for the sheet of the answer ("Refusals with an example each")
abbrev pub Fits : Decision → Lent → Answer → Type 0
Fits D m x = sheet_length x D.ring ≤ length m.buffer

-- the outcome r of a search that was lent `before` and leaves `after`; one of the right sides always holds, so that the outcome is settled
-- ("Standings" and "Refusals with an example each")
pub record ByWords (D : Decision) (allowance : ℕ) (before after : Lent) (r : Outcome) : Type 0 where
  -- of the three statements one holds, and no two
  pub exactly_one : OneMeaning D (claim_system D) allowance
  -- 9 exactly where the allowance is outside 1 to 4,096, or memory is short of it
  pub allowance_out : (r ≡ refused_at BadAllowance 0) ↔ ((allowance < 1) ⊎ (MOST-STANDINGS < allowance))
  pub memory_short : (r ≡ refused_at ShortMemory 0) ↔ ((1 ≤ allowance) × (allowance ≤ MOST-STANDINGS) × Short D allowance before)
  -- else the statement that holds: an answer, with the length of its sheet, or 10
  pub proved : (n bytes : ℕ)
      → (r ≡ Ok (Proved n bytes))
      ↔ (Ready D allowance before × MeansProved D (claim_system D) allowance n × Fits D before (proved_with n)
      × (bytes ≡ sheet_length (proved_with n) D.ring))
  pub refuted : (n bytes : ℕ)
      → (r ≡ Ok (Refuted n bytes))
      ↔ (Ready D allowance before
      × ((w : Word) × (size w ≡ n) × MeansRefuted D (claim_system D) allowance w × Fits D before (refuted_by w)
      × (bytes ≡ sheet_length (refuted_by w) D.ring)))
  pub spent : (r ≡ refused_at SpentAllowance 0) ↔ (Ready D allowance before × ((n : ℕ) × MeansSpent D (claim_system D) allowance n))
  -- 11 exactly where there is an answer whose sheet is longer than the buffer
  pub buffer_short : (r ≡ refused_at ShortBuffer 0)
      ↔ (Ready D allowance before
      × ((x : Answer) × AnswerMeans D (claim_system D) allowance x × (length before.buffer < sheet_length x D.ring)))
  -- the refuting word stands in the sheet at the start of the buffer
  pub word : (w : Word) → MeansRefuted D (claim_system D) allowance w → r ≡ Ok (Refuted (size w) (sheet_length (refuted_by w) D.ring))
      → after.buffer ≡ refuted_sheet w ++ drop (length (refuted_sheet w)) before.buffer

-- the same of a text that is an accepted query with a claim ("Standings" and "Refusals with an example each")
abbrev pub SearchedByWords : List ℕ → ℕ → Lent → Lent → Outcome → Type 0
SearchedByWords text allowance before after r =
    (q : Query) (c : Claim) → read text ≡ ok q → claim_of q ≡ some c → ByWords (decision q c) allowance before after r
