-- What the test of one part of a sheet answers: what the part says, whether it passes, how many fields it has and where the next one starts; or
-- how many good fields stand before the first wrong one. (Document 01, "Sheet and graph bytes" and refusal 13.)
-- Assumes nothing.
use Rattle.std.specs.Prelude.{ℕ, ◌+◌, ◌≤◌, ◌≡◌, Result as Answer, Ok, Err, List, length, drop}
use Rattle.claims.specs.Sides.{Decision}
use Rattle.claims.specs.Refusals.{Result, ok, refused, sheet_field}
use Rattle.claims.specs.SheetReading.{Said, says_proved, says_refuted, Part}
use Rattle.claims.specs.Passing.{passes}
use Rattle.layout.specs.Layout.{MOST-STANDINGS}
use Rattle.sheet_part.specs.declared.Tested.{Tested}
use Rattle.sheet_part.specs.declared.Tested.TheVariants.{Proved, Refuted}

-- of a part of the bytes whose first field is field k: what it says, that field n comes next, and the bytes from there on ("Sheet and graph
-- bytes")
abbrev pub TestsPart : (D : Decision) → List ℕ → ℕ → Said D → ℕ → List ℕ → Answer Tested ℕ → Type 0
TestsPart D bs k (says_proved ss) n rest (Ok (Proved passed fields next)) =
    (passed ≡ passes D (says_proved ss)) × (n ≡ k + fields) × (next ≤ length bs) × (rest ≡ drop next bs)
TestsPart D bs k (says_proved ss) n rest (Ok (Refuted passed fields next)) = ⊥
TestsPart D bs k (says_proved ss) n rest (Err i) = ⊥
TestsPart D bs k (says_refuted w) n rest (Ok (Proved passed fields next)) = ⊥
TestsPart D bs k (says_refuted w) n rest (Ok (Refuted passed fields next)) =
    (passed ≡ passes D (says_refuted w)) × (n ≡ k + fields) × (next ≤ length bs) × (rest ≡ drop next bs)
TestsPart D bs k (says_refuted w) n rest (Err i) = ⊥

-- the answer to a part that was read from field k on, or to one that has a wrong field ("Sheet and graph bytes")
abbrev pub Tests : (D : Decision) → List ℕ → ℕ → Result (Part D) → Answer Tested ℕ → Type 0
Tests D bs k (ok p) t = TestsPart D bs k p.said p.next p.rest t
Tests D bs k (refused r) (Ok (Proved passed fields next)) = ⊥
Tests D bs k (refused r) (Ok (Refuted passed fields next)) = ⊥
Tests D bs k (refused r) (Err i) = (r.cause ≡ sheet_field) × (r.place ≡ k + i)

-- a part has at most one field more than the longest sheet has standings, and as many good ones before a wrong one ("Sheet and graph bytes")
abbrev pub FewFields : Answer Tested ℕ → Type 0
FewFields (Ok (Proved passed fields next)) = fields ≤ MOST-STANDINGS + 1
FewFields (Ok (Refuted passed fields next)) = fields ≤ MOST-STANDINGS + 1
FewFields (Err i) = i ≤ MOST-STANDINGS + 1
