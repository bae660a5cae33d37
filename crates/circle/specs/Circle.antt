-- The circle of the calls, for every text, sheet, graph and lent memory: the judge, which knows nothing of words, confirms what a passing sheet
-- says. A graph that `draw::draw` draws is judged to meet every line and to break the claim; where `sheet::check` passes a sheet as proved, no
-- graph at all is judged to meet every line and break the claim. It speaks of an answer of a call as that call's contract has it: `Draws
-- (drawCall text sheet before) d after` is what `draw::draw` ensures of its answer d and of what it leaves, and `result_of r ≡ judge-call text
-- graph` is what `graph::judge` ensures of its answer r. (Document 01, "Sheet and graph bytes", last paragraph.)
-- Assumes nothing.
use Rattle.std.specs.Prelude.{ℕ, ◌≡◌, List, take, Ok, Err}
use Rattle.claims.specs.Calls.{check_call, judge_call}
use Rattle.sheet_checked.specs.declared.Checked.{Checked}
use Rattle.sheet_checked.specs.declared.Checked.TheVariants.{Proved}
use Rattle.sheet_checked.specs.Checks.{Says}
use Rattle.draw.specs.declared.Drawing.{Drawing}
use Rattle.draw.specs.declared.Drawing.TheVariants.{Graph}
use Rattle.draw.specs.DrawCall.{draw_call}
use Rattle.draw.specs.Drawings.{Draws}
use Rattle.graph.specs.declared.Judged.TheVariants.{Holds, BreaksAt, BreaksFrom}
use Rattle.graph.specs.Answers.{result_of, Answer}

-- the judge says that every line is met, line 0, and that an event or a pair breaks the claim
abbrev pub MeetsAndBreaks : Answer → Type 0
MeetsAndBreaks (Ok (Holds l)) = ⊥
MeetsAndBreaks (Ok (BreaksAt l x)) = l ≡ 0
MeetsAndBreaks (Ok (BreaksFrom l x y)) = l ≡ 0
MeetsAndBreaks (Err e) = ⊥

-- what is drawn is judged so, and for a claim that was proved nothing is
pub record Circle : Type 0 where
  pub drawn : (text sheet before after : List ℕ) (d : Drawing) → Draws (draw_call text sheet before) d after → (n : ℕ) → d ≡ Graph n
      → (r : Answer) → result_of r ≡ judge_call text (take n after) → MeetsAndBreaks r
  pub proved : (text sheet : List ℕ) (c : Checked) → Says (check_call text sheet) c → c ≡ Proved
      → (graph : List ℕ) (r : Answer) → result_of r ≡ judge_call text graph → MeetsAndBreaks r → ⊥
