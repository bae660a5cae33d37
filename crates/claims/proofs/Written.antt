-- Every sheet that the search writes passes: what the search answers at an allowance of at most 4,096 is read back from its bytes as it
-- was written, and passes as what it says. For every query that the reader accepts.
-- Assumes nothing.
use Prim.Native.Nat.{ℕ, ◌≤◌}
use native.Mathlib.Omega.{arith}
use mathlib.Core.Path.{◌≡◌, refl, sym, ◌∙◌, ap, subst}
use mathlib.Core.List.{List}
use Rattle.kat.specs.Word.{Word}
use Rattle.notation.specs.Sides.{Decision}
use Rattle.verdicts.specs.Standings.{claim_system}
use Rattle.verdicts.specs.Search.{Verdict, proved, refuted, spent, verdict}
use Rattle.claims.specs.SheetBytes.{standing_bytes, sheet_bytes}
use Rattle.claims.specs.SheetReading.{says_proved, says_refuted}
use Rattle.claims.specs.SheetWriting.{MaySay}
use Rattle.verdicts.specs.Passing.{passes}
use Rattle.notation.specs.Refusals.{ok, afterwards}
use Rattle.claims.specs.Calls.{Given, answer_of, searched, passed_of, checked}
use Rattle.verdicts.specs.Orders.{Rising}
use Rattle.claims.specs.Sheets.{passed_as}
use Rattle.notation.proofs.Results.{refused_not_ok}
use Rattle.notation.proofs.LineOrder.{same_value}
use Rattle.verdicts.proofs.Verdict.{proved_is_proved, refuted_is_least, refuted_is_within, search_proved_passes, search_refuted_passes}
use Rattle.claims.proofs.Limits.{WithinLimits}
use Rattle.claims.proofs.WordBytes.{numbers_length, guarded_in_range}
use Rattle.claims.proofs.ByKind.{lawful, same_relations, live_atoms, searched_by_kind, standings_may_list}
use Rattle.claims.proofs.SheetExactly.{sheet_written}

module _ (D : Decision) (rising : Rising D.live) (within : WithinLimits D) (allowance : ℕ) (few : allowance ≤ 4096) where
  -- what the search answers, a sheet may say
  proved_may_say : (ss : List (claim_system D).Standing) → verdict (claim_system D) allowance ≡ proved ss → MaySay D (says_proved ss)
  proved_may_say ss e =
      let p = proved_is_proved (claim_system D) (lawful D.ring D rising) allowance ss e in (
        (λ s i. let (n, (l, of, m, q)) = (p.2 s).0 i in standings_may_list D.ring D within.live of),
        p.1,
        omega (arith, p.3),
      )

  refuted_may_say : (w : Word) → verdict (claim_system D) allowance ≡ refuted w → MaySay D (says_refuted w)
  refuted_may_say w e =
      let laws = lawful D.ring D rising in (
        guarded_in_range (claim_system D) D (live_atoms D.ring D within.live) (omega (arith, same_relations D.ring D)) w
            (refuted_is_least (claim_system D) laws allowance w e).0,
        omega (arith, numbers_length w, refuted_is_within (claim_system D) laws allowance w e),
      )

  -- and its sheet is read back and passes
  answer_passes : (v : Verdict (claim_system D)) → verdict (claim_system D) allowance ≡ v → (g : Given)
      → answer_of (claim_system D) (standing_bytes D.ring D) v ≡ ok g → checked D g.sheet ≡ ok (passed_as g.answer)
  unfolding answer_of sheet_bytes checked passed_of passes
  answer_passes (proved ss) e g h =
      subst (λ (z : Given). checked D z.sheet ≡ ok (passed_as z.answer)) (same_value _ g h)
      (ap (λ r. afterwards r (passed_of D)) (sheet_written D within (says_proved ss) (proved_may_say ss e))
      ∙ rw (passed_of, search_proved_passes (claim_system D) (lawful D.ring D rising) allowance ss e))
  answer_passes (refuted w) e g h =
      subst (λ (z : Given). checked D z.sheet ≡ ok (passed_as z.answer)) (same_value _ g h)
      (ap (λ r. afterwards r (passed_of D)) (sheet_written D within (says_refuted w) (refuted_may_say w e))
      ∙ rw (passed_of, search_refuted_passes (claim_system D) (lawful D.ring D rising) allowance w e))
  answer_passes spent e g h = refused_not_ok h

  -- what the search writes passes as what it says
  pub searched_passes : (g : Given) → searched D allowance ≡ ok g → checked D g.sheet ≡ ok (passed_as g.answer)
  searched_passes g h = answer_passes (verdict (claim_system D) allowance) refl g (sym (searched_by_kind D allowance) ∙ h)
