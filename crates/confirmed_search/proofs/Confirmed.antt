-- The outcome of a search, kept by the check of its sheet, is the outcome: the sheet is the answer's own and passes as what the search
-- answered, so the check says the same. And what the check answers settles what is kept.
-- Assumes nothing.
use Rattle.std.specs.Prelude.{Ok, Err}
use Prim.Native.Nat.{ℕ}
use mathlib.Core.Path.{◌≡◌, refl, sym, ◌∙◌, ap, subst⁻¹}
use mathlib.Core.List.{List}
use Rattle.claims.specs.Refusals.{Result, ok, refused}
use Rattle.claims.specs.Calls.{Answer, proved_with, refuted_by, Lent, Passed, passed_proved, passed_refuted, check_call}
use Rattle.claims.specs.Sheets.{passed_as}
use Rattle.refusals.specs.declared.Refusal.{Refusal}
use Rattle.search_outcomes.specs.declared.Verdict.TheVariants.{Proved, Refuted}
use Rattle.search_records.specs.declared.Record.{Record}
use Rattle.search_outcomes.specs.Outcomes.{Outcome, refused_at, Says as SaysAnswer, SearchGives, lent_of}
use Rattle.sheet_checked.specs.declared.Checked.{Checked}
use Rattle.sheet_checked.specs.declared.Checked.TheVariants.{Proved as PassesProved, Refuted as PassesRefuted, Refused as Fails}
use Rattle.sheet_checked.specs.Checks.{Says}
use Rattle.outcome_lines.specs.Sheets.{sheet_of, OwnSheet}
use Rattle.outcome_lines.proofs.Sheets.{own_sheets}
use Rattle.confirmed_search.specs.inner.Kept.{kept_proved, kept_refuted, kept}
use Rattle.confirmed_search.proofs.Passing.{own_sheet_passes}

-- what is kept of an outcome, by its case and by an answer of the check
proved_by : (n bytes : ℕ) (x : Result Passed) (c : Checked) → Says x c → kept_proved n bytes c ≡ kept (Ok (Proved n bytes)) x
proved_by n bytes (ok passed_proved) PassesProved s = refl
proved_by n bytes (ok passed_refuted) PassesRefuted s = refl
proved_by n bytes (refused r) (Fails why p) s = refl
proved_by n bytes (refused r) PassesRefuted s = elim s [ ]
proved_by n bytes (refused r) PassesProved s = elim s [ ]
proved_by n bytes (ok passed_refuted) PassesProved s = elim s [ ]
proved_by n bytes (ok passed_refuted) (Fails why p) s = elim s [ ]
proved_by n bytes (ok passed_proved) PassesRefuted s = elim s [ ]
proved_by n bytes (ok passed_proved) (Fails why p) s = elim s [ ]

refuted_by_lem : (n bytes : ℕ) (x : Result Passed) (c : Checked) → Says x c → kept_refuted n bytes c ≡ kept (Ok (Refuted n bytes)) x
refuted_by_lem n bytes (ok passed_proved) PassesProved s = refl
refuted_by_lem n bytes (ok passed_refuted) PassesRefuted s = refl
refuted_by_lem n bytes (refused r) (Fails why p) s = refl
refuted_by_lem n bytes (refused r) PassesRefuted s = elim s [ ]
refuted_by_lem n bytes (refused r) PassesProved s = elim s [ ]
refuted_by_lem n bytes (ok passed_refuted) PassesProved s = elim s [ ]
refuted_by_lem n bytes (ok passed_refuted) (Fails why p) s = elim s [ ]
refuted_by_lem n bytes (ok passed_proved) PassesRefuted s = elim s [ ]
refuted_by_lem n bytes (ok passed_proved) (Fails why p) s = elim s [ ]

pub kept_proved_by : (r : Outcome) (n bytes : ℕ) (x : Result Passed) → r ≡ Ok (Proved n bytes) → (c : Checked) → Says x c
    → {o : Outcome} → o ≡ kept_proved n bytes c → o ≡ kept r x
kept_proved_by r n bytes x e c s k = k ∙ proved_by n bytes x c s ∙ ap (λ o. kept o x) (sym e)

pub kept_refuted_by : (r : Outcome) (n bytes : ℕ) (x : Result Passed) → r ≡ Ok (Refuted n bytes) → (c : Checked) → Says x c
    → {o : Outcome} → o ≡ kept_refuted n bytes c → o ≡ kept r x
kept_refuted_by r n bytes x e c s k = k ∙ refuted_by_lem n bytes x c s ∙ ap (λ o. kept o x) (sym e)

pub kept_refused_by : (r : Outcome) (e : Refusal) (x : Result Passed) → r ≡ Err e → Err e ≡ kept r x
kept_refused_by r y x e = ap (λ o. kept o x) (sym e)

-- an outcome is kept by what the sheet of its answer passes as
keeps : (ans : Answer) (r : Outcome) → SaysAnswer (ok ans) r → kept r (ok (passed_as ans)) ≡ r
keeps (proved_with n) (Ok (Proved m bytes)) s = refl
keeps (refuted_by w) (Ok (Refuted m bytes)) s = refl
keeps (refuted_by w) (Err _) s = elim s [ ]
keeps (refuted_by w) (Ok (Proved m bytes)) s = elim s [ ]
keeps (proved_with n) (Ok (Refuted m bytes)) s = elim s [ ]
keeps (proved_with n) (Err _) s = elim s [ ]

-- the outcome of a search, kept by the check of its sheet, is the outcome
pub kept_as_found : (bs : List ℕ) (allowance : ℕ) (before after : Lent) (r : Outcome) → SearchGives bs allowance before r after
    → kept r (check_call bs (sheet_of r after.buffer)) ≡ r
kept_as_found bs allowance before after r gives = go r gives
  where
    owned : (o : Outcome) → OwnSheet bs allowance before after o
        → kept o (check_call bs (sheet_of o after.buffer)) ≡ o
    owned o own =
        ap (λ (s : List ℕ). kept o (check_call bs s)) own.part ∙ ap (kept o) (own_sheet_passes bs allowance before after o own) ∙ keeps own.answer o own.says

    go : (o : Outcome) → SearchGives bs allowance before o after
        → kept o (check_call bs (sheet_of o after.buffer)) ≡ o
    go (Ok (Proved n bytes)) g = owned (Ok (Proved n bytes)) (own_sheets bs allowance before after (Ok (Proved n bytes)) g tt)
    go (Ok (Refuted n bytes)) g = owned (Ok (Refuted n bytes)) (own_sheets bs allowance before after (Ok (Refuted n bytes)) g tt)
    go (Err _) g = refl

-- so the call gives what the search gave
pub still_gives : (bs : List ℕ) (allowance : ℕ) (before after : Lent) (r o : Outcome) → SearchGives bs allowance before r after
    → {sheet : List ℕ} → sheet ≡ sheet_of r after.buffer → o ≡ kept r (check_call bs sheet)
    → SearchGives bs allowance before o after
still_gives bs allowance before after r o gives part k =
    subst⁻¹ (λ x. SearchGives bs allowance before x after)
    (k ∙ ap (λ (s : List ℕ). kept r (check_call bs s)) part ∙ kept_as_found bs allowance before after r gives) gives

-- the same over lent records
pub checked_gives : (bs : List ℕ) (allowance : ℕ) (rs : List Record) (w b : List ℕ) (rs' : List Record) (w' b' : List ℕ) (r : Outcome)
    → SearchGives bs allowance (lent_of rs w b) r (lent_of rs' w' b') → (sheet : List ℕ) → sheet ≡ sheet_of r b' → (o : Outcome)
    → o ≡ kept r (check_call bs sheet) → SearchGives bs allowance (lent_of rs w b) o (lent_of rs' w' b')
unfolding lent_of
checked_gives bs allowance rs w b rs' w' b' r gives sheet part o k =
    still_gives bs allowance (lent_of rs w b) (lent_of rs' w' b') r o gives part k
