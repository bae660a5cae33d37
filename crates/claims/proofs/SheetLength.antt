-- After an answer the buffer starts with that answer's own sheet, and how many bytes that is: 4 and 19 for each standing of a path claim or
-- 269 for each of a ring claim, or 8 and 2 for each relation of the refuting word. So a buffer for a proof that uses the whole allowance
-- is enough for every answer. The idea: each field is its header and its contents, whose lengths are known.
-- Assumes nothing.
use Prim.Native.Nat.{ℕ, ◌+◌, ◌≤◌}
use native.Mathlib.Nat.{mul-zero, mul-suc}
use native.Mathlib.Omega.{arith}
use mathlib.Core.Path.{◌≡◌, refl, sym, ◌∙◌, ap, subst}
use mathlib.Core.Bool.{Bool, true, false}
use mathlib.Core.List.{List, [], ◌∷◌}
use lib.ListN.{length, length-append}
use Rattle.kat.specs.Word.{Word, size, numbers}
use Rattle.notation.specs.Width.{width, row_length}
use Rattle.notation.specs.Sides.{Decision}
use Rattle.verdicts.specs.Standings.{System, claim_system}
use Rattle.verdicts.specs.Search.{Verdict, proved, refuted, spent, verdict}
use Rattle.claims.specs.Fields.{field}
use Rattle.claims.specs.SheetBytes.{contents_length, standing_bytes, standing_fields, sheet_bytes}
use Rattle.notation.specs.Refusals.{ok}
use Rattle.verdicts.specs.Orders.{Rising}
use Rattle.verdicts.specs.Lawful.{Lawful}
use Rattle.claims.specs.Calls.{Answer, proved_with, refuted_by, Given, answer_of, searched, Lent, Done, left_behind, search_call}
use Rattle.claims.specs.CallOrder.{asked_as, sought, WayOut, unread, out, short, exhausted, unwritten, written}
use Rattle.claims.specs.Sheets.{sheet_length, LeavesOwnSheet}
use Rattle.notation.proofs.Results.{refused_not_ok}
use Rattle.notation.proofs.LineOrder.{same_value}
use Rattle.claims.proofs.Bytes.{field_length_lem}
use Rattle.claims.proofs.WordBytes.{numbers_length}
use Rattle.claims.proofs.ByKind.{lawful, searched_by_kind, contents_length_lem}
use Rattle.verdicts.proofs.Verdict.{proved_is_few, refuted_is_within}
use Rattle.claims.proofs.SearchOrder.{asked_accepted, search_reads_first, allowance_next, memory_next, spent_next, buffer_last, else_answered}
use Rattle.claims.proofs.SearchMemory.{search_outcomes}
use Rattle.claims.proofs.Sheets.{no_answer, left_buffer}

-- the count, or the length of the word, keeps to the allowance
abbrev Keeps : ℕ → Answer → Type 0
Keeps allowance (proved_with c) = c ≤ allowance
Keeps allowance (refuted_by w) = size w ≤ allowance

-- no sheet is longer than that of a proof that uses the whole allowance
longest : (allowance : ℕ) → 1 ≤ allowance → (ans : Answer) (ring : Bool) → Keeps allowance ans
    → sheet_length ans ring ≤ sheet_length (proved_with allowance) ring
unfolding contents_length width row_length
longest allowance h (proved_with c) false k = omega arith
longest allowance h (proved_with c) true k = omega arith
longest allowance h (refuted_by w) false k = omega arith
longest allowance h (refuted_by w) true k = omega arith

-- for any kind of standing whose contents have so many bytes
module _ (ring : Bool) (S : System) (contents : S.Standing → List ℕ) (each : (s : S.Standing) → length (contents s) ≡ contents_length ring) where
  fields_length : (ss : List S.Standing) → 4 + length (standing_fields S contents ss) ≡ sheet_length (proved_with (length ss)) ring
  unfolding standing_fields
  fields_length [] = omega (arith, mul-zero (3 + contents_length ring))
  fields_length (s ∷ ss) =
      omega (
        arith,
        length-append (field 3 (contents s)) (standing_fields S contents ss),
        field_length_lem 3 (contents s),
        each s,
        fields_length ss,
        mul-suc (3 + contents_length ring) (length ss),
      )

  proved_length : (ss : List S.Standing) → length (sheet_bytes S contents (proved ss)) ≡ sheet_length (proved_with (length ss)) ring
  unfolding sheet_bytes
  proved_length ss =
      omega (arith, length-append (field 1 (1 ∷ [])) (standing_fields S contents ss), field_length_lem 1 (1 ∷ []), fields_length ss)

  refuted_length : (w : Word) → length (sheet_bytes S contents (refuted w)) ≡ sheet_length (refuted_by w) ring
  unfolding sheet_bytes
  refuted_length w =
      omega (
        arith,
        length-append (field 1 (2 ∷ [])) (field 2 (numbers w)),
        field_length_lem 1 (2 ∷ []),
        field_length_lem 2 (numbers w),
        numbers_length w,
      )

  answer_length : (v : Verdict S) (g : Given) → answer_of S contents v ≡ ok g → length g.sheet ≡ sheet_length g.answer ring
  unfolding answer_of
  answer_length (proved ss) g e =
      subst (λ (z : Given). length z.sheet ≡ sheet_length z.answer ring) (same_value _ g e) (proved_length ss)
  answer_length (refuted w) g e =
      subst (λ (z : Given). length z.sheet ≡ sheet_length z.answer ring) (same_value _ g e) (refuted_length w)
  answer_length spent g e = refused_not_ok e

answer_keeps : (S : System) (laws : Lawful S) (allowance : ℕ) (contents : S.Standing → List ℕ) (v : Verdict S) → verdict S allowance ≡ v
    → (g : Given) → answer_of S contents v ≡ ok g → Keeps allowance g.answer
unfolding answer_of
answer_keeps S laws allowance contents (proved ss) e g h =
    subst (λ (z : Given). Keeps allowance z.answer) (same_value _ g h) (proved_is_few S laws allowance ss e)
answer_keeps S laws allowance contents (refuted w) e g h =
    subst (λ (z : Given). Keeps allowance z.answer) (same_value _ g h) (refuted_is_within S laws allowance w e)
answer_keeps S laws allowance contents spent e g h = refused_not_ok h

module _ (D : Decision) (allowance : ℕ) (g : Given) (e : searched D allowance ≡ ok g) where
  answered : answer_of (claim_system D) (standing_bytes D.ring D) (verdict (claim_system D) allowance) ≡ ok g
  answered = sym (searched_by_kind D allowance) ∙ e

  -- the sheet of an answer has so many bytes
  pub searched_sheet_length : length g.sheet ≡ sheet_length g.answer D.ring
  searched_sheet_length =
      answer_length D.ring (claim_system D) (standing_bytes D.ring D) (contents_length_lem D.ring D) (verdict (claim_system D) allowance) g answered

  searched_keeps : Rising D.live → Keeps allowance g.answer
  searched_keeps rising =
      answer_keeps (claim_system D) (lawful D.ring D rising) allowance (standing_bytes D.ring D) (verdict (claim_system D) allowance) refl g answered

  -- and a buffer for a proof that uses the whole allowance has room for it
  pub searched_sheet_fits : Rising D.live → 1 ≤ allowance → length g.sheet ≤ sheet_length (proved_with allowance) D.ring
  searched_sheet_fits rising h =
      subst (λ n. n ≤ sheet_length (proved_with allowance) D.ring) (sym searched_sheet_length)
      (longest allowance h g.answer D.ring (searched_keeps rising))

-- after an answer the buffer starts with its own sheet, of so many bytes, and is unchanged past it
pub answer_leaves_own_sheet : (bs : List ℕ) (allowance : ℕ) (m : Lent) (ans : Answer) → (search_call bs allowance m).result ≡ ok ans
    → LeavesOwnSheet bs allowance ans m.buffer (search_call bs allowance m).lent.buffer
answer_leaves_own_sheet bs allowance m ans e = go (search_outcomes bs allowance m)
  where
    go : WayOut bs allowance m → LeavesOwnSheet bs allowance ans m.buffer (search_call bs allowance m).lent.buffer
    go (unread r h) = no_answer (search_call bs allowance m) (search_reads_first bs allowance m r h) e
    go (out q a h) = no_answer (search_call bs allowance m) (allowance_next bs allowance m q a h) e
    go (short q a h k s) = no_answer (search_call bs allowance m) (memory_next bs allowance m q a h k s) e
    go (exhausted q a r h) = no_answer (search_call bs allowance m) (spent_next bs allowance m q a r h) e
    go (unwritten q a r g h k) = no_answer (search_call bs allowance m) (buffer_last bs allowance m q a r g h k) e
    go (written q a r g h k) =
        let d : search_call bs allowance m ≡ record { result = ok g.answer; lent = left_behind (sought a) allowance g.sheet m } =
        else_answered bs allowance m q a r g h k
        in
        let same : g.answer ≡ ans = same_value g.answer ans (sym (ap (λ (x : Done). x.result) d) ∙ e) in
        record {
          asks = asked_as q a.claim;
          accepted = asked_accepted bs q a;
          sheet = g.sheet;
          own = h ∙ ap (λ (z : Answer). ok (record { answer = z; sheet = g.sheet })) same;
          bytes = searched_sheet_length (sought a) allowance g h ∙ ap (λ z. sheet_length z (sought a).ring) same;
          fits = k;
          leaves = ap (λ (x : Done). x.lent.buffer) d ∙ left_buffer (sought a) allowance g.sheet m;
        }
