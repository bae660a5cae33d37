-- What the judge answers, as document 01's values. (Document 01, "Sheet and graph bytes", last paragraph, and "Refusals with an example each".)
-- Assumes nothing.
use Rattle.std.specs.Prelude.{Ok, Err}
use Rattle.claims.specs.Refusals.{Result, ok, refuse}
use Rattle.claims.specs.Judgement.{holds_in, breaks_at, breaks_from, Judgement}
use Rattle.refusals.specs.Causes.{cause_of}
use Rattle.refusals.specs.declared.Refusal.{Refusal}
use Rattle.graph.specs.declared.Judged.{Judged}
use Rattle.graph.specs.declared.Judged.TheVariants.{Holds, BreaksAt, BreaksFrom}

-- a judgement, or why there is none and where
abbrev pub Answer : Type 0
Answer = Rattle.std.specs.Prelude.Result Judged Refusal

-- the result that an answer says: the first broken line, or 0, and what becomes of the claim; or the cause and the place ("Sheet and graph bytes")
unfoldable pub result_of : Answer → Result Judgement
result_of (Ok (Holds l)) = ok (record { line = l; outcome = holds_in })
result_of (Ok (BreaksAt l x)) = ok (record { line = l; outcome = breaks_at x })
result_of (Ok (BreaksFrom l x y)) = ok (record { line = l; outcome = breaks_from x y })
result_of (Err e) = refuse (cause_of e.why) e.place
