-- Which sheets pass, exactly. For an accepted query a list of bytes passes exactly where it is the bytes of a sheet that may say what it says
-- and that says what passes. So it passes as refuted exactly where it is the refuted sheet of a word that refutes and whose numbers a
-- field can hold: the check accepts every refuting word, shortest or not, and nothing else. And it passes as proved exactly where it is the
-- proved sheet of standings that a sheet may list and that are closed in plain words (`Closed`), extra ones and any order among them. The
-- idea: the reader accepts exactly the bytes of sheets (`SheetExactly`).
-- Assumes nothing.
use Prim.Native.Nat.{ℕ, ◌<◌}
use native.Mathlib.Omega.{arith}
use mathlib.Core.Path.{◌≡◌, refl, sym, ◌∙◌, ap, subst}
use mathlib.Core.Logic.{◌↔◌}
use mathlib.Core.Bool.{true}
use mathlib.Core.List.{List, []}
use lib.ListN.{length}
use Rattle.kat.specs.Word.{Word, numbers}
use Rattle.notation.specs.Sides.{Decision}
use Rattle.verdicts.specs.Standings.{claim_system}
use Rattle.claims.specs.SheetBytes.{sheet_bytes}
use Rattle.claims.specs.SheetReading.{says_proved, says_refuted, sheet_in}
use Rattle.claims.specs.SheetWriting.{AllBytes, InRange, MaySay, refuted_sheet, part_bytes}
use Rattle.verdicts.specs.Passing.{passes, proving}
use Rattle.verdicts.specs.Closed.{Closed}
use Rattle.notation.specs.Refusals.{ok, afterwards}
use Rattle.claims.specs.Calls.{Asked, asked, passed_proved, passed_refuted, passed_of, checked, check_call}
use Rattle.notation.specs.Words.{Refutes}
use Rattle.verdicts.proofs.Closed.{closed_exactly}
use Rattle.claims.proofs.ByKind.{lawful, same_relations, live_atoms, refutes_by_standings}
use Rattle.claims.proofs.WordBytes.{guarded_in_range}
use Rattle.claims.proofs.SheetOfBytes.{numbers_bytes, refuted_bytes}
use Rattle.claims.proofs.Limits.{WithinLimits, asked_within_limits}
use Rattle.claims.proofs.SheetExactly.{sheet_written, sheet_reading}
use Rattle.claims.proofs.Checked.{passed_proved_lem, passing_refuted}
use Rattle.claims.proofs.Sheets.{live_rises, check_is}

module _ (D : Decision) (within : WithinLimits D) where
  -- a word that refutes is in range
  refutes_in_range : (w : Word) → Refutes D w → InRange D w
  refutes_in_range w h =
      guarded_in_range (claim_system D) D (live_atoms D.ring D within.live) (omega (arith, same_relations D.ring D)) w
      ((refutes_by_standings D.ring D refl w).0 h).0

  -- its refuted sheet is a list of bytes
  pub refuted_sheet_bytes : (w : Word) → Refutes D w → AllBytes (refuted_sheet w)
  unfolding sheet_bytes
  refuted_sheet_bytes w h =
      refuted_bytes (claim_system D) (λ s. []) w
      (numbers_bytes D w (omega (arith, within.atoms)) (omega (arith, within.relations)) (refutes_in_range w h))

  -- its refuted sheet passes
  pub refuted_sheet_passes : (w : Word) → Refutes D w → length (numbers w) < 65536 → checked D (refuted_sheet w) ≡ ok passed_refuted
  unfolding checked passed_of passes
  refuted_sheet_passes w h n =
      ap (λ r. afterwards r (passed_of D)) (sheet_written D within (says_refuted w) (refutes_in_range w h, n))
      ∙ rw (passed_of, ((refutes_by_standings D.ring D refl w).0 h).1)

  -- a proved sheet whose standings pass, passes
  proved_sheet_passes : (ss : List (claim_system D).Standing) → MaySay D (says_proved ss) → proving (claim_system D) ss ≡ true
      → checked D (part_bytes D (says_proved ss)) ≡ ok passed_proved
  unfolding checked passed_of passes
  proved_sheet_passes ss m p = ap (λ r. afterwards r (passed_of D)) (sheet_written D within (says_proved ss) m) ∙ rw (passed_of, p)

module _ (bs : List ℕ) (a : Asked) (accepted : asked bs ≡ ok a) where
  -- bytes pass as refuted exactly when they are the refuted sheet of a word that refutes and whose numbers fit into a field
  pub refuted_exactly : (sheet : List ℕ)
      → (AllBytes sheet × (check_call bs sheet ≡ ok passed_refuted))
      ↔ ((w : Word) × Refutes a.decided w × (length (numbers w) < 65536) × (sheet ≡ refuted_sheet w))
  refuted_exactly sheet =
      let within = asked_within_limits bs accepted in (
        (λ (b, e).
            let (w, s, r) = passing_refuted a.decided (live_rises bs a accepted) sheet (sym (check_is bs a accepted sheet) ∙ e) in
            let (p, (i, n)) = (sheet_reading a.decided within sheet b (says_refuted w)).0 s in
            (w, r, n, p)),
        (λ (w, r, n, p). (
          subst AllBytes (sym p) (refuted_sheet_bytes a.decided within w r),
          check_is bs a accepted sheet ∙ ap (checked a.decided) p ∙ refuted_sheet_passes a.decided within w r n,
        )),
      )

  -- the standings of the query pass exactly when they are closed
  passes_exactly_closed : (ss : List (claim_system a.decided).Standing)
      → (proving (claim_system a.decided) ss ≡ true) ↔ Closed a.decided (claim_system a.decided) ss
  passes_exactly_closed ss =
      closed_exactly a.decided (claim_system a.decided) (lawful a.decided.ring a.decided (live_rises bs a accepted)) ss
      (refutes_by_standings a.decided.ring a.decided refl)

  -- bytes pass as proved exactly when they are the proved sheet of standings that a sheet may list and that are closed: no length-0 word
  -- refutes, every level-1 standing is listed, every standing one step after a listed one is listed, and no listed one completes a
  -- refuting word
  pub proved_exactly : (sheet : List ℕ) → AllBytes sheet
      → (check_call bs sheet ≡ ok passed_proved)
      ↔ ((ss : List (claim_system a.decided).Standing) × (sheet ≡ part_bytes a.decided (says_proved ss))
      × MaySay a.decided (says_proved ss) × Closed a.decided (claim_system a.decided) ss)
  unfolding checked
  proved_exactly sheet b =
      let within = asked_within_limits bs accepted in (
        (λ e.
            let (ss, r, p) = passed_proved_lem a.decided (sheet_in a.decided sheet) (sym (check_is bs a accepted sheet) ∙ e) in
            let (q, m) = (sheet_reading a.decided within sheet b (says_proved ss)).0 r in
            (ss, q, m, (passes_exactly_closed ss).0 p)),
        (λ (ss, q, m, c).
            check_is bs a accepted sheet ∙ ap (checked a.decided) q
            ∙ proved_sheet_passes a.decided within ss m ((passes_exactly_closed ss).1 c)),
      )
