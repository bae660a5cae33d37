-- How long the line of a search call is, for every query, allowance and memory. The idea: a count is at most 4,096, a place too, since a query
-- that is read has no more bytes and so no more lines; the word of an answer has at most 4,096 relations, and its atoms and relations are those of the
-- query, below 64 and below 16.
-- Assumes nothing.
use Prim.Native.Nat.{ℕ, zero, suc, ◌+◌, ◌*◌, ◌-◌, ◌/◌, ◌%◌, ◌^◌, ◌≤◌, ◌<◌}
use native.Mathlib.Omega.{arith}
use mathlib.Core.Path.{◌≡◌, refl, sym, ◌∙◌, ap, subst}
use mathlib.Core.Bool.{Bool, true, false, cond}
use mathlib.Core.List.{List, [], ◌∷◌, ◌++◌}
use lib.Dec.{ltb, eqb}
use lib.ListN.{length, length-append}
use borrow.Author.Tests.{ltb-false}
use Rattle.kat.specs.Lists.{filter}
use Rattle.kat.specs.Word.{Word, end, at, size, numbers}
use Rattle.claims.specs.Bytes.{text, RawLine, in_front, raw_lines}
use Rattle.claims.specs.Sides.{Decision}
use Rattle.claims.specs.Standings.{claim_system}
use Rattle.claims.specs.Search.{Verdict, proved, refuted, spent, verdict}
use Rattle.claims.specs.SheetBytes.{standing_bytes}
use Rattle.claims.specs.SheetWriting.{InRange}
use Rattle.claims.specs.Refusals.{Cause, number, ok, refuse, bad_allowance, short_memory, spent_allowance, short_buffer}
use Rattle.claims.specs.RefusalOrder.{ReadRefused, long, unclean, at_a_line, unclaimed, large, endings}
use Rattle.claims.specs.Orders.{Rising}
use Rattle.claims.specs.Calls.{proved_with, refuted_by, Given, answer_of, Lent, Done, search_call}
use Rattle.claims.specs.CallOrder.{asked_as, sought, WayOut, unread, out, short, exhausted, unwritten, written}
use Rattle.claims.specs.Printed.{digits_before, decimal, spaced, answer_line, refusal_line, line_of, memory_for, asks_ring, program_result, printed}
use Rattle.claims.proofs.Results.{refused_not_ok}
use Rattle.claims.proofs.LineOrder.{same_value, taken_count}
use Rattle.claims.proofs.Precedence.{read_refuses, reading_refusals}
use Rattle.claims.proofs.Verdict.{proved_is_few, refuted_is_least, refuted_is_within}
use Rattle.claims.proofs.Limits.{WithinLimits, asked_within_limits}
use Rattle.claims.proofs.WordBytes.{guarded_in_range}
use Rattle.claims.proofs.ByKind.{lawful, same_relations, live_atoms, searched_by_kind}
use Rattle.claims.proofs.Sheets.{live_rises}
use Rattle.claims.proofs.SearchOrder.{asked_accepted, search_reads_first, allowance_next, memory_next, spent_next, buffer_last, else_answered}
use Rattle.claims.proofs.SearchMemory.{search_outcomes}
use Rattle.print_line.proofs.Decimals.{two_digits, fewer_digits}
use Rattle.search_outcomes.specs.Outcomes.{Outcome, Says}
use Rattle.outcome_lines.specs.Shown.{outcome_line, longest_line}
use Rattle.outcome_lines.proofs.WordInSheet.{word_stands}
use Rattle.outcome_lines.proofs.OutcomeLines.{says_line}

-- digits: a number below 10 ^ k has at most k
digits_few : (k f n : ℕ) (ds : List ℕ) → 1 ≤ k → n < 10 ^ k → length (digits_before f n ds) ≤ k + length ds
unfolding digits_before
digits_few k zero n ds h l = omega arith
digits_few k (suc f) n ds h l = go (ltb n 10) refl (λ j m es p q. digits_few j f m es p q)
  where
    go : (b : Bool) → ltb n 10 ≡ b → ((j m : ℕ) (es : List ℕ) → 1 ≤ j → m < 10 ^ j → length (digits_before f m es) ≤ j + length es)
        → length {A = ℕ} (elim b [ true ↦ (48 + n) ∷ ds | false ↦ digits_before f (n / 10) ((48 + n % 10) ∷ ds) ]) ≤ k + length ds
    go true e ih = omega arith
    go false e ih =
        let two : 2 ≤ k = two_digits n k (ltb-false n 10 e) l in
        let i = ih (k - 1) (n / 10) ((48 + n % 10) ∷ ds) (omega arith) (fewer_digits n (k - 1) k (omega arith) l) in
        omega arith

decimal_few : (k n : ℕ) → 1 ≤ k → n < 10 ^ k → length (decimal n) ≤ k
unfolding decimal
decimal_few k n h l = let i = digits_few k (suc n) n [] h l in omega arith

-- a number behind a space
one_few : (k n : ℕ) → 1 ≤ k → n < 10 ^ k → length (spaced (n ∷ [])) ≤ k + 1
unfolding spaced
one_few k n h l = omega (arith, length-append (decimal n) [], decimal_few k n h l)

-- the numbers of a word
word_few : (D : Decision) (w : Word) → D.atoms ≤ 64 → D.relations ≤ 16 → InRange D w → length (spaced (numbers w)) ≤ 3 * (2 * size w + 1)
unfolding spaced
word_few D (end a) p q h = omega (arith, length-append (decimal a) [], decimal_few 2 a (omega arith) (omega arith))
word_few D (at a r w) p q (h, k, i) =
    omega (
      arith,
      length-append (decimal a) (32 ∷ (decimal r ++ spaced (numbers w))),
      length-append (decimal r) (spaced (numbers w)),
      decimal_few 2 a (omega arith) (omega arith),
      decimal_few 2 r (omega arith) (omega arith),
      word_few D w p q i,
    )

-- no more lines than bytes
lines_few : (bs : List ℕ) → length (raw_lines bs) ≤ length bs
unfolding raw_lines in_front
lines_few [] = omega arith
lines_few (b ∷ bs) = go (eqb b 10) (raw_lines bs) (lines_few bs)
  where
    go : (e : Bool) (ls : List RawLine) → length ls ≤ length bs
        → length (cond e (record { bytes = []; ended = true } ∷ ls) (in_front b ls)) ≤ suc (length bs)
    go true ls h = omega arith
    go false [] h = omega arith
    go false (l ∷ ls) h = omega arith

endings_few : (bs : List ℕ) → endings bs ≤ length bs
endings_few [] = omega arith
endings_few (b ∷ bs) = go (eqb b 10) (endings_few bs)
  where
    go : (e : Bool) → endings bs ≤ length bs → length (cond e (b ∷ filter (λ c. eqb c 10) bs) (filter (λ c. eqb c 10) bs)) ≤ suc (length bs)
    go true h = omega arith
    go false h = omega arith

-- so the place of a refused query is at most 4,096
place_few : (bs : List ℕ) (c : Cause) (p : ℕ) → ReadRefused bs c p → p ≤ 4096
place_few bs c p (long h) = omega arith
place_few bs c p (unclean h (before, b, rest, e, clean, bad, line)) =
    omega (arith, ap length e, length-append before (b ∷ rest), endings_few before)
place_few bs c p (at_a_line o (before, l, rest, q, e, ts, f, line)) =
    omega (arith, ap length e, length-append before (l ∷ rest), lines_few bs, o.short)
place_few bs c p (unclaimed q o ts f) = omega arith
place_few bs c p (large q d o ts f g) = omega (arith, taken_count [] (raw_lines bs) q ts, lines_few bs, o.short)

-- the three lines
refusal_few : (c : Cause) (p : ℕ) → number c ≤ 14 → p ≤ 4096 → length (line_of (refuse c p)) ≤ longest_line
unfolding line_of refusal_line longest_line
refusal_few c p h l =
    omega (
      arith,
      length-append (spaced (number c ∷ []) ++ (text " line" ++ spaced (p ∷ []))) (10 ∷ []),
      length-append (spaced (number c ∷ [])) (text " line" ++ spaced (p ∷ [])),
      one_few 2 (number c) (omega arith) (omega arith),
      one_few 4 p (omega arith) (omega arith),
    )

proved_few : (c : ℕ) → c ≤ 4096 → length (line_of (ok (proved_with c))) ≤ longest_line
unfolding line_of answer_line longest_line
proved_few c h = omega (arith, length-append (spaced (c ∷ [])) (10 ∷ []), one_few 4 c (omega arith) (omega arith))

refuted_few : (w : Word) → size w ≤ 4096 → length (spaced (numbers w)) ≤ 3 * (2 * size w + 1) → length (line_of (ok (refuted_by w))) ≤ longest_line
unfolding line_of answer_line longest_line
refuted_few w h l = omega (arith, length-append (spaced (numbers w)) (10 ∷ []))

module _ (D : Decision) (rising : Rising D.live) (within : WithinLimits D) (allowance : ℕ) (few : allowance ≤ 4096) where
  answer_few : (v : Verdict (claim_system D)) → verdict (claim_system D) allowance ≡ v → (g : Given)
      → answer_of (claim_system D) (standing_bytes D.ring D) v ≡ ok g → length (line_of (ok g.answer)) ≤ longest_line
  unfolding answer_of
  answer_few (proved ss) e g h =
      subst (λ (z : Given). length (line_of (ok z.answer)) ≤ longest_line) (same_value _ g h)
      (proved_few (length ss) (omega (arith, proved_is_few (claim_system D) (lawful D.ring D rising) allowance ss e)))
  answer_few (refuted w) e g h =
      let laws = lawful D.ring D rising in
      let known : InRange D w =
      guarded_in_range (claim_system D) D (live_atoms D.ring D within.live) (omega (arith, same_relations D.ring D)) w
      (refuted_is_least (claim_system D) laws allowance w e).0 in
      subst (λ (z : Given). length (line_of (ok z.answer)) ≤ longest_line) (same_value _ g h)
      (refuted_few w (omega (arith, refuted_is_within (claim_system D) laws allowance w e)) (word_few D w within.atoms within.relations known))
  answer_few spent e g h = refused_not_ok h

-- the line of a search call
pub line_within : (bs : List ℕ) (allowance : ℕ) (m : Lent) → length (line_of (search_call bs allowance m).result) ≤ longest_line
unfolding number
line_within bs allowance m = go (search_outcomes bs allowance m)
  where
    from : {d : Done} → search_call bs allowance m ≡ d → length (line_of d.result) ≤ longest_line
        → length (line_of (search_call bs allowance m).result) ≤ longest_line
    from e h = subst (λ (x : Done). length (line_of x.result) ≤ longest_line) (sym e) h

    go : WayOut bs allowance m → length (line_of (search_call bs allowance m).result) ≤ longest_line
    go (unread r h) =
        from (search_reads_first bs allowance m r h)
        (refusal_few r.cause r.place (omega (arith, reading_refusals bs r.cause r.place h))
        (place_few bs r.cause r.place ((read_refuses bs r.cause r.place).0 h)))
    go (out q a h) = from (allowance_next bs allowance m q a h) (refusal_few bad_allowance 0 (omega arith) (omega arith))
    go (short q a h k s) = from (memory_next bs allowance m q a h k s) (refusal_few short_memory 0 (omega arith) (omega arith))
    go (exhausted q a r h) = from (spent_next bs allowance m q a r h) (refusal_few spent_allowance 0 (omega arith) (omega arith))
    go (unwritten q a r g h k) = from (buffer_last bs allowance m q a r g h k) (refusal_few short_buffer 0 (omega arith) (omega arith))
    go (written q a r g h k) =
        from (else_answered bs allowance m q a r g h k)
        (answer_few (sought a) (live_rises bs (asked_as q a.claim) (asked_accepted bs q a)) (asked_within_limits bs (asked_accepted bs q a)) allowance
        r.small_allowance (verdict (claim_system (sought a)) allowance) refl g (sym (searched_by_kind (sought a) allowance) ∙ h))

-- of its outcome, beside the buffer that it leaves
pub outcome_within : (bs : List ℕ) (allowance : ℕ) (m : Lent) (r : Outcome) → Says (search_call bs allowance m).result r
    → length (outcome_line r (search_call bs allowance m).lent.buffer) ≤ longest_line
outcome_within bs allowance m r s =
    subst (λ (line : List ℕ). length line ≤ longest_line)
    (sym (says_line (search_call bs allowance m).result r (search_call bs allowance m).lent.buffer s (word_stands bs allowance m)))
    (line_within bs allowance m)

-- and of the program
pub printed_within : (allowance : Bool → ℕ) (bs : List ℕ) → length (printed allowance bs) ≤ longest_line
unfolding printed program_result
printed_within allowance bs = line_within bs (allowance (asks_ring bs)) (memory_for (allowance (asks_ring bs)))
