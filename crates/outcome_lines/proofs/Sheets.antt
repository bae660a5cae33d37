-- The sheet of an outcome. After an answer of the search the buffer starts with that answer's own sheet (claims' `answer_leaves_own_sheet`), and
-- the outcome has its length, since it has that of the sheet which the search gives.
-- Assumes nothing.
use Rattle.std.specs.Prelude.{Ok, Err}
use Prim.Native.Nat.{ℕ, ◌≤◌, ◌<◌, min}
use native.Mathlib.Omega.{arith}
use mathlib.Core.Path.{◌≡◌, refl, sym, ◌∙◌, ap, subst, subst⁻¹}
use mathlib.Core.Logic.{◌⊎◌}
use mathlib.Core.Logic.◌⊎◌.{inl, inr}
use mathlib.Core.List.{List, ◌++◌}
use lib.ListN.{length, take, drop}
use lib.Seq.{take_at, take_all, length-take-le}
use Rattle.kat.proofs.Bools.{le_or_lt}
use Rattle.claims.specs.Refusals.{Result, ok, refused, afterwards}
use Rattle.claims.specs.Calls.{Answer, proved_with, refuted_by, Given, searched, Asked, Lent, search_call}
use Rattle.claims.specs.CallOrder.{WayOut, unread, out, short, exhausted, unwritten, written}
use Rattle.claims.proofs.SearchOrder.{search_reads_first, allowance_next, memory_next, spent_next, buffer_last}
use Rattle.claims.proofs.SearchMemory.{search_outcomes}
use Rattle.claims.proofs.Sheets.{no_answer}
use Rattle.claims.proofs.SheetLength.{answer_leaves_own_sheet}
use Rattle.search_outcomes.specs.declared.Verdict.TheVariants.{Proved, Refuted}
use Rattle.search_outcomes.specs.Outcomes.{Outcome, Says, Sized, given_by}
use Rattle.outcome_lines.specs.Sheets.{sheet_bytes, sheet_of, Answers, OwnSheet, OwnSheets}

-- a part is no longer than the whole
pub part_length : (k n : ℕ) (l : List ℕ) → k ≡ min n (length l) → k ≡ length (take k l)
part_length k n l e = sym (length-take-le k l (omega (arith, e)))

pub part_within : (k n bytes : ℕ) (l : List ℕ) → k ≡ min n (length l) → n ≡ bytes → take k l ≡ take bytes l
part_within k n bytes l e f = cut (le_or_lt n (length l)) ∙ ap (λ j. take j l) f
  where
    cut : (n ≤ length l) ⊎ (length l < n) → take k l ≡ take n l
    cut (inl h) = let z : k ≡ n = omega (arith, e) in ap (λ j. take j l) z
    cut (inr h) = take_all k l (omega (arith, e)) ∙ sym (take_all n l (omega arith))

-- the bytes of an outcome that says an answer are those of the sheet that is given with it
bytes_given : (ans : Answer) (r : Outcome) → Says (ok ans) r → (g : Given) → Sized r (ok g) → sheet_bytes r ≡ length g.sheet
bytes_given (proved_with c) (Ok (Proved n bytes)) s g z = z
bytes_given (refuted_by w) (Ok (Refuted n bytes)) s g z = z
bytes_given (refuted_by w) (Err _) s g z = elim s [ ]
bytes_given (refuted_by w) (Ok (Proved n bytes)) s g z = elim s [ ]
bytes_given (proved_with c) (Ok (Refuted n bytes)) s g z = elim s [ ]
bytes_given (proved_with c) (Err _) s g z = elim s [ ]

-- an answer of the search kept to the allowance of document 01
pub answer_allowed : (bs : List ℕ) (allowance : ℕ) (m : Lent) (ans : Answer) → (search_call bs allowance m).result ≡ ok ans → allowance ≤ 4096
answer_allowed bs allowance m ans e = go (search_outcomes bs allowance m)
  where
    go : WayOut bs allowance m → allowance ≤ 4096
    go (unread r h) = no_answer (search_call bs allowance m) (search_reads_first bs allowance m r h) e
    go (out q a h) = no_answer (search_call bs allowance m) (allowance_next bs allowance m q a h) e
    go (short q a h k s) = no_answer (search_call bs allowance m) (memory_next bs allowance m q a h k s) e
    go (exhausted q a r h) = no_answer (search_call bs allowance m) (spent_next bs allowance m q a r h) e
    go (unwritten q a r g h k) = no_answer (search_call bs allowance m) (buffer_last bs allowance m q a r g h k) e
    go (written q a r g h k) = r.small_allowance

-- every answer of the search has its own sheet
pub own_sheets : OwnSheets
unfolding given_by
own_sheets text allowance before after r gives answers = go (search_call text allowance before).result refl r gives.says gives.sized answers
  where
    owns : (ans : Answer) → (search_call text allowance before).result ≡ ok ans → (o : Outcome) → Says (ok ans) o → Sized o (given_by text allowance)
        → OwnSheet text allowance before after o
    owns ans e o says sized =
        let l = answer_leaves_own_sheet text allowance before ans e in
        let rest : List ℕ = drop (length l.sheet) before.buffer in
        let stands : after.buffer ≡ l.sheet ++ rest = ap (λ (m : Lent). m.buffer) gives.leaves ∙ l.leaves in
        let given : given_by text allowance ≡ ok (record { answer = ans; sheet = l.sheet }) =
        ap (λ (x : Result Asked). afterwards x (λ a. searched a.decided allowance)) l.accepted ∙ l.own in
        record {
          answer = ans;
          found = e;
          says = says;
          leaves =
              record {
                asks = l.asks;
                accepted = l.accepted;
                sheet = l.sheet;
                own = l.own;
                bytes = l.bytes;
                fits = l.fits;
                leaves = stands;
              };
          part = subst⁻¹ (λ (b : List ℕ). sheet_of o b ≡ l.sheet) stands
              (take_at l.sheet rest _ (sym (bytes_given ans o says _ (subst (Sized o) given sized))));
        }

    go : (x : Result Answer) → (search_call text allowance before).result ≡ x → (o : Outcome) → Says x o → Sized o (given_by text allowance)
        → Answers o → OwnSheet text allowance before after o
    go (ok ans) e o says sized a = owns ans e o says sized
    go (refused x) e (Err _) says sized a = absurd a
    go (refused x) e (Ok _) says sized a = elim says [ ]
