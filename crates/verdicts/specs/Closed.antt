-- Which proved sheets pass, in plain words. (Document 01, "Sheet and graph bytes".) `Passing.antt` tests it, as the calls do, and
-- `closed_exactly` of `proofs/` shows that the test comes out true for these and for no others. Extra standings and another order are
-- allowed; steps and completion go by a standing's own fields.
-- Assumes nothing.
use Rattle.std.specs.Prelude.{ℕ, ◌<◌, ◌≡◌, true, List, []}
use Rattle.kat.specs.Lists.{In, member}
use Rattle.kat.specs.Word.{Word, size}
use Rattle.notation.specs.Sides.{Decision}
use Rattle.notation.specs.Words.{Refutes}
use Rattle.verdicts.specs.Standings.{System}
use Rattle.verdicts.specs.Verdicts.{Holds}
use Rattle.verdicts.specs.Orders.{letter_of}

-- t is a standing one step after s: a live atom and a declared relation lead there, and a left occurrence is possible ("Sheet and graph bytes")
abbrev pub OneStepAfter : (S : System) → S.Standing → S.Standing → Type 0
OneStepAfter S s t =
    (a : ℕ) × (r : ℕ) × (member a S.live ≡ true) × (r < S.relations) × (t ≡ S.onward s (letter_of a r)) × (S.possible t ≡ true)

-- the standings that a proved sheet lists let it pass ("Sheet and graph bytes")
pub record Closed (D : Decision) (S : System) (listed : List S.Standing) : Type 0 where
  -- no length-0 word refutes,
  pub none_of_length_0 : (w : Word) → size w ≡ 0 → Refutes D w → ⊥
  -- every level-1 standing is listed,
  pub level_1 : (s : S.Standing) → Holds S 1 s → In s listed
  -- every standing one step after a listed one is listed,
  pub one_step_after : (s t : S.Standing) → In s listed → OneStepAfter S s t → In t listed
  -- and no listed one completes a refuting word
  pub none_completes : (s : S.Standing) → In s listed → S.finals s ≡ []
