-- What a passing sheet is evidence of: the third demand about the call itself. The answer says the check of document 01, and what that passes is
-- judged as the demand has it (claims' `Demand3`).
-- Assumes nothing.
use Prim.Native.Nat.{ℕ}
use mathlib.Core.Path.{◌≡◌, refl, subst}
use mathlib.Core.List.{List}
use Rattle.claims.specs.Refusals.{Result, ok, refused, afterwards}
use Rattle.claims.specs.Calls.{Asked, asked, Passed, passed_proved, passed_refuted, checked, check_call}
use Rattle.claims.proofs.Results.{refused_not_ok}
use Rattle.claims.proofs.Demand3.{passing_proved_judged_to_hold, passing_refuted_judged_to_break}
use Rattle.sheet_checked.specs.declared.Checked.{Checked}
use Rattle.sheet_checked.specs.declared.Checked.TheVariants.{Proved, Refuted}
use Rattle.sheet_checked.specs.Checks.{Says}
use Rattle.sheet.specs.Evidence.{HoldsInEveryGraph, DrawnGraphBreaks}

-- the answers that pass are those of the check
pub says_proved_lem : (x : Result Passed) → Says x Proved → x ≡ ok passed_proved
says_proved_lem (ok passed_proved) h = refl
says_proved_lem (refused _) h = elim h [ ]
says_proved_lem (ok passed_refuted) h = elim h [ ]

pub says_refuted_lem : (x : Result Passed) → Says x Refuted → x ≡ ok passed_refuted
says_refuted_lem (ok passed_refuted) h = refl
says_refuted_lem (refused _) h = elim h [ ]
says_refuted_lem (ok passed_proved) h = elim h [ ]

-- a sheet that passes is one of a query
passed_asked : (bs sheet : List ℕ) (v : Passed) → check_call bs sheet ≡ ok v → (a : Asked) × (asked bs ≡ ok a)
unfolding check_call
passed_asked bs sheet v e = go (asked bs) refl e
  where
    go : (r : Result Asked) → asked bs ≡ r → afterwards r (λ a. checked a.decided sheet) ≡ ok v
        → (a : Asked) × (asked bs ≡ ok a)
    go (ok a) f h = (a, f)
    go (refused x) f h = refused_not_ok h

module _ (text sheet : List ℕ) (c : Checked) (says : Says (check_call text sheet) c) where
  pub passes_proved : c ≡ Proved → HoldsInEveryGraph text
  passes_proved e =
      let h : check_call text sheet ≡ ok passed_proved = says_proved_lem (check_call text sheet) (subst (Says (check_call text sheet)) e says) in
      let (a, f) = passed_asked text sheet passed_proved h in
      record { asks = a; accepted = f; holds = passing_proved_judged_to_hold text a f sheet h }

  pub passes_refuted : c ≡ Refuted → DrawnGraphBreaks text sheet
  passes_refuted e =
      let h : check_call text sheet ≡ ok passed_refuted = says_refuted_lem (check_call text sheet) (subst (Says (check_call text sheet)) e says) in
      let (a, f) = passed_asked text sheet passed_refuted h in
      let (w, s, x, line, breaks) = passing_refuted_judged_to_break text a f sheet h in
      record { asks = a; accepted = f; word = w; says = s; execution = x; meets = line; breaks = breaks }
