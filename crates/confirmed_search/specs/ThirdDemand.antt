-- The third demand, about the calls `search::search` and `sheet::check`, for every text, every sheet, every allowance and every lent
-- memory. It speaks of an answer of a call as that call's contract has it: `Says (check_call text sheet) c` is what `sheet::check` ensures
-- of its answer c, and `SearchGives text allowance before r after` is what `search::search` ensures of its outcome r and of what it
-- leaves. (Document 01, "Sheet and graph bytes".)
-- Assumes nothing.
use Rattle.std.specs.Prelude.{Ok, Err}
use Rattle.std.specs.Prelude.{ℕ, ◌≡◌, List, ◌++◌, length, drop}
use Rattle.claims.specs.Calls.{Lent, check_call}
use Rattle.search_outcomes.specs.declared.Verdict.TheVariants.{Proved as ProvedBySearch, Refuted as RefutedBySearch}
use Rattle.search_outcomes.specs.Outcomes.{Outcome, SearchGives}
use Rattle.sheet_checked.specs.declared.Checked.{Checked}
use Rattle.sheet_checked.specs.declared.Checked.TheVariants.{Proved, Refuted, Refused}
use Rattle.sheet_checked.specs.Checks.{Says}
use Rattle.sheet.specs.Evidence.{HoldsInEveryGraph, DrawnGraphBreaks}
use Rattle.outcome_lines.specs.Sheets.{sheet_of, Answers}

-- the check says of the sheet what the search answered ("Sheet and graph bytes")
abbrev pub Confirms : Outcome → Checked → Type 0
Confirms (Ok (ProvedBySearch n bytes)) Proved = Unit {0}
Confirms (Ok (ProvedBySearch n bytes)) Refuted = ⊥
Confirms (Ok (ProvedBySearch n bytes)) (Refused why p) = ⊥
Confirms (Ok (RefutedBySearch n bytes)) Proved = ⊥
Confirms (Ok (RefutedBySearch n bytes)) Refuted = Unit {0}
Confirms (Ok (RefutedBySearch n bytes)) (Refused why p) = ⊥
Confirms (Err e) c = ⊥

-- a sheet at the start of the buffer, the outcome's, past which the buffer is as it was; the check has an answer to it, and each
-- answer that it may give confirms the outcome ("Sheet and graph bytes")
pub record PassingSheet (text before after : List ℕ) (r : Outcome) : Type 0 where
  pub sheet : List ℕ
  pub stands : after ≡ sheet ++ drop (length sheet) before
  pub part : sheet_of r after ≡ sheet
  pub answered : (c : Checked) × Says (check_call text sheet) c
  pub passes : (c : Checked) → Says (check_call text sheet) c → Confirms r c

-- the third demand: a sheet that passes as proved has a claim that holds in every graph; the graph drawn from a sheet that passes as refuted
-- breaks it; every sheet that the search writes passes, and says what the search answered ("Sheet and graph bytes")
pub record ThirdDemand : Type 0 where
  pub proved : (text sheet : List ℕ) (c : Checked) → Says (check_call text sheet) c → c ≡ Proved → HoldsInEveryGraph text
  pub refuted : (text sheet : List ℕ) (c : Checked) → Says (check_call text sheet) c → c ≡ Refuted → DrawnGraphBreaks text sheet
  pub written : (text : List ℕ) (allowance : ℕ) (before after : Lent) (r : Outcome) → SearchGives text allowance before r after
      → Answers r → PassingSheet text before.buffer after.buffer r
