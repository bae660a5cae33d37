-- The line of an outcome and the sheet that stands beside it. (Document 01, "The desk's cases".) `proofs/` shows that it is the line of what the
-- outcome says, `line_of`.
-- Assumes nothing.
use Rattle.std.specs.Prelude.{Ok, Err}
use Rattle.std.specs.Prelude.{ℕ, ◌+◌, ◌*◌, List, [], ◌∷◌, ◌++◌, length, take, drop}
use Rattle.layout.specs.Layout.{WORD-AT, MOST-STANDINGS}
use Rattle.claims.specs.Bytes.{text}
use Rattle.claims.specs.Refusals.{number}
use Rattle.claims.specs.Printed.{spaced}
use Rattle.refusals.specs.Causes.{cause_of}
use Rattle.search_outcomes.specs.Outcomes.{Outcome}
use Rattle.search_outcomes.specs.declared.Verdict.TheVariants.{Proved, Refuted}

-- `proved` and the count, `refuted` and the word, which stands in the sheet behind the verdict and its own header, or `refusal`, number, `line`, place
abbrev pub outcome_line : Outcome → List ℕ → List ℕ
outcome_line (Ok (Proved c bytes)) sheet = text "proved" ++ (spaced (c ∷ []) ++ (10 ∷ []))
outcome_line (Ok (Refuted n bytes)) sheet = text "refuted" ++ (spaced (take (2 * n + 1) (drop WORD-AT sheet)) ++ (10 ∷ []))
outcome_line (Err e) sheet =
    text "refusal" ++ (spaced (number (cause_of e.why) ∷ []) ++ (text " line" ++ (spaced (e.place ∷ []) ++ (10 ∷ []))))

-- no line of a search call has more bytes: `refuted`, a word of 4,096 relations, whose numbers have two digits at most, each behind a space, and
-- byte 10 ("The desk's cases")
unfoldable pub longest_line : ℕ
longest_line = length (text "refuted") + 3 * (2 * MOST-STANDINGS + 1) + 1
