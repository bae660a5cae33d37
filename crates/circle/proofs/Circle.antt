-- The circle closes: from what a drawn graph is judged to be (`draw`'s laws), and from the third demand by judgements (`claims`).
-- Assumes nothing.
use Prim.Native.Nat.{ℕ}
use native.Mathlib.Omega.{arith}
use mathlib.Core.Path.{◌≡◌, refl, sym, ◌∙◌, subst}
use lib.ListN.{take}
use Rattle.std.specs.Prelude.{Ok, Err}
use Rattle.claims.specs.Refusals.{Result, ok, refused}
use Rattle.claims.specs.Judgement.{holds_in, breaks_at, breaks_from, Judgement}
use Rattle.claims.specs.Calls.{Passed, passed_proved, check_call, passed_refuted}
use Rattle.claims.proofs.Demand3.{passing_proved_called_to_hold}
use Rattle.sheet_checked.specs.declared.Checked.{Checked}
use Rattle.sheet_checked.specs.declared.Checked.TheVariants.{Proved}
use Rattle.sheet_checked.specs.Checks.{Says}
use Rattle.draw.specs.Breaking.{JudgedToBreak}
use Rattle.draw.proofs.Breaking.{graph_breaks}
use Rattle.graph.specs.declared.Judged.TheVariants.{Holds, BreaksAt, BreaksFrom}
use Rattle.graph.specs.Answers.{result_of, Answer}
use Rattle.circle.specs.Circle.{MeetsAndBreaks, Circle}

-- an answer that says line 0 and a broken claim
says_broken : (r : Answer) (j : Judgement) → result_of r ≡ ok j → j.line ≡ 0 → (j.outcome ≡ holds_in → ⊥) → MeetsAndBreaks r
unfolding result_of
says_broken (Ok (Holds l)) j e z b = b (cc)
says_broken (Ok (BreaksAt l x)) j e z b = let same : l ≡ j.line = cc in same ∙ z
says_broken (Ok (BreaksFrom l x y)) j e z b = let same : l ≡ j.line = cc in same ∙ z
says_broken (Err y) j e z b = let z : ◌≡◌ {A = ℕ} 0 1 = cc in omega arith

-- a proof that passes, and an answer of line 0
says_proved_lem : (x : Result Passed) (c : Checked) → Says x c → c ≡ Proved → x ≡ ok passed_proved
says_proved_lem x c s e = go x (subst (Says x) e s)
  where
    go : (x : Result Passed) → Says x Proved → x ≡ ok passed_proved
    go (ok passed_proved) s = refl
    go (ok passed_refuted) s = elim s [ ]
    go (refused _) s = elim s [ ]

-- what breaks is no claim that holds
not_broken : (r : Answer) → MeetsAndBreaks r
    → (j : Judgement) × (result_of r ≡ ok j) × (j.line ≡ 0) × (j.outcome ≡ holds_in → ⊥)
unfolding result_of
not_broken (Ok (BreaksAt l x)) z =
    (record { line = l; outcome = breaks_at x }, refl, z, λ e. let y : ◌≡◌ {A = ℕ} 0 1 = cc in omega arith)
not_broken (Ok (BreaksFrom l x y)) z =
    (record { line = l; outcome = breaks_from x y }, refl, z, λ e. let y : ◌≡◌ {A = ℕ} 0 1 = cc in omega arith)
not_broken (Err _) z = elim z [ ]
not_broken (Ok (Holds _)) z = elim z [ ]

pub circle : Circle
circle =
    record {
      drawn = λ text sheet before after d draws n e r s.
          let j : JudgedToBreak text (take n after) = graph_breaks text sheet before d after draws n e in
          says_broken r j.judged (s ∙ j.answers) j.meets j.breaks;
      proved = λ text sheet c says e graph r s b.
          let (j, same, line, breaks) = not_broken r b in
          breaks (passing_proved_called_to_hold text sheet graph j (says_proved_lem (check_call text sheet) c says e) (sym s ∙ same) line);
    }
