-- What the query program prints is the line of the answer that the words fix: its memory and its buffer are enough for any answer, so that the
-- result of its call is refused by none of 9 and 11.
-- Assumes nothing.
use Prim.Native.Nat.{ℕ, ◌*◌, ◌≤◌, zero-le}
use native.Mathlib.Omega.{arith}
use mathlib.Core.Path.{◌≡◌, refl, sym, ap, subst}
use mathlib.Core.Bool.{Bool, true, false, ◌&&◌}
use mathlib.Core.List.{List}
use lib.Dec.{leb}
use lib.ListN.{length, replicate, length-replicate}
use borrow.Author.Tests.{leb-true}
use Rattle.kat.proofs.Bools.{and_left, and_right}
use Rattle.notation.specs.Width.{width, row_length, ring_words}
use Rattle.claims.specs.SheetBytes.{contents_length}
use Rattle.notation.specs.Sides.{Decision}
use Rattle.verdicts.specs.Standings.{system_of}
use Rattle.notation.specs.Refusals.{bad_allowance, Result, ok, refused, refuse, afterwards}
use Rattle.claims.specs.Calls.{proved_with, searched, Asked, asked, needed_records, needed_words, search_asked, search_call}
use Rattle.claims.specs.CallOrder.{Ready}
use Rattle.claims.specs.Demands.{FixedByWords, answer_alone}
use Rattle.claims.specs.Sheets.{sheet_length}
use Rattle.claims.specs.Printed.{answered, memory_for, asks_ring, program_result}
use Rattle.claims.proofs.Demand2.{call_is_searched, fits_full, call_with_full_buffer_exactly_by_words}

-- the memory is as refusal 9 asks
memory_ready : (D : Decision) (n : ℕ) → 1 ≤ n → n ≤ 4096 → Ready D n (memory_for n)
unfolding needed_records needed_words memory_for
memory_ready D n h i =
    record {
      some_allowance = h;
      small_allowance = i;
      records_enough = rw length-replicate (records D.ring);
      words_enough = rw length-replicate (words D.ring);
    }
  where
    records : (b : Bool) → elim b [ false ↦ n | true ↦ 0 ] ≤ n
    records false = omega arith
    records true = zero-le

    words : (b : Bool) → elim b [ false ↦ 0 | true ↦ ring_words * n ] ≤ ring_words * n
    words false = zero-le
    words true = omega arith

-- the buffer is long enough for the longest sheet
buffer_full : (n : ℕ) (ring : Bool) → sheet_length (proved_with n) ring ≤ length (memory_for n).buffer
unfolding memory_for contents_length row_length width
buffer_full n false = rw length-replicate (omega arith)
buffer_full n true = rw length-replicate (omega arith)

module _ (bs : List ℕ) (a : Asked) (accepted : asked bs ≡ ok a) (allowance : Bool → ℕ) where
  kind_asked : asks_ring bs ≡ a.decided.ring
  unfolding asks_ring
  kind_asked = ap (λ (r : Result Asked). elim r [ ok b ↦ b.decided.ring | refused s ↦ false ]) accepted

  -- for every accepted query the printed answer is the one that the words fix
  pub program_exactly_by_words : 1 ≤ allowance a.decided.ring → allowance a.decided.ring ≤ 4096
      → FixedByWords a.decided (system_of a.decided.ring a.decided) (allowance a.decided.ring) (program_result allowance bs)
  unfolding program_result
  program_exactly_by_words h i =
      subst (λ (k : Bool).
      FixedByWords a.decided (system_of a.decided.ring a.decided) (allowance a.decided.ring)
      (search_call bs (allowance k) (memory_for (allowance k))).result) (sym kind_asked)
      (call_with_full_buffer_exactly_by_words bs a accepted (allowance a.decided.ring) (memory_for (allowance a.decided.ring))
      (memory_ready a.decided (allowance a.decided.ring) h i) (buffer_full (allowance a.decided.ring) a.decided.ring))

-- whatever the allowance, the result of the program's call is that of the query with memory and buffer enough
pub program_is_answered : (allowance : Bool → ℕ) (bs : List ℕ)
    → program_result allowance bs ≡ answer_alone (answered (allowance (asks_ring bs)) bs)
unfolding program_result answered search_call search_asked
program_is_answered allowance bs = read_cases (asked bs) refl
  where
    n : ℕ
    n = allowance (asks_ring bs)

    in_range : (a : Asked) → asked bs ≡ ok a → (b : Bool) → (leb 1 n && leb n 4096) ≡ b
        → (search_call bs n (memory_for n)).result
        ≡ answer_alone (elim b [ true ↦ searched a.decided n | false ↦ refuse bad_allowance 0 ])
    in_range a e false h = rw (e, h, search_call, search_asked) refl
    in_range a e true h =
        let i : leb 1 n ≡ true = and_left (leb 1 n) (leb n 4096) h in
        let j : leb n 4096 ≡ true = and_right (leb 1 n) (leb n 4096) h in
        let ready = memory_ready a.decided n (leb-true 1 n i) (leb-true n 4096 j) in
        call_is_searched bs a e n (memory_for n) ready
        (λ g f. fits_full bs a e n (memory_for n) ready (buffer_full n a.decided.ring) g f)

    read_cases : (r : Result Asked) → asked bs ≡ r
        → (search_call bs n (memory_for n)).result
        ≡ answer_alone (afterwards (asked bs) (λ a.
        elim (leb 1 n && leb n 4096) [ true ↦ searched a.decided n | false ↦ refuse bad_allowance 0 ]))
    read_cases (refused r) e = rw (e, search_call) refl
    read_cases (ok a) e = rw e (in_range a e (leb 1 n && leb n 4096) refl)
