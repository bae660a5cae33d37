-- What a search call leaves in the lent memory, by its refusal: all as before for 1 to 9; for 10 and 11 the needed working memory zero,
-- and memory beyond it and the sheet buffer unchanged. (Document 01, the table's last column and the paragraph behind it.) The idea:
-- every way out of the call is one of six (`search_outcomes`), and the rules on their order say what each leaves.
-- Assumes nothing.
use Prim.Native.Nat.{ℕ, ◌≤◌, ◌<◌}
use native.Mathlib.Omega.{arith}
use mathlib.Core.Path.{◌≡◌, refl, sym, ◌∙◌, ap}
use mathlib.Core.Logic.{◌⊎◌}
use mathlib.Core.Logic.◌⊎◌.{inl, inr}
use mathlib.Core.List.{List, []}
use lib.ListN.{length, take, drop, replicate, length-append, length-replicate, length-drop}
use lib.Seq.{take_at, drop_at}
use Rattle.kat.proofs.Bools.{le_or_lt}
use Rattle.notation.specs.Query.{Query}
use Rattle.notation.specs.Refusals.{Cause, number, bad_allowance, short_memory, spent_allowance, short_buffer, Refusal, Result, ok, refused, refuse}
use Rattle.notation.specs.Reading.{read}
use Rattle.notation.specs.Sides.{Decision}
use Rattle.claims.specs.Calls.{Answer, Given, searched, Lent, needed_records, needed_words, cleared, left_behind, Done, search_call}
use Rattle.notation.proofs.LineOrder.{ok_not_refused, same_refusal}
use Rattle.notation.proofs.Precedence.{reading_refusals}
use Rattle.notation.specs.RefusalOrder.{Accepted}
use Rattle.claims.proofs.SearchOrder.{asked_fate, search_refuses, search_reads_first, allowance_next, memory_next, spent_next, buffer_last, else_answered}
use Rattle.claims.specs.CallOrder.{sought, Ready, zero_slot, WayOut, unread, out, short, exhausted, unwritten, written}

module _ {A : Type 0} (z : A) (n : ℕ) (xs : List A) where
  cleared_zero : take n (cleared z n xs) ≡ replicate n z
  unfolding cleared
  cleared_zero = take_at (replicate n z) (drop n xs) n (length-replicate n z)

  cleared_beyond : drop n (cleared z n xs) ≡ drop n xs
  unfolding cleared
  cleared_beyond = drop_at (replicate n z) (drop n xs) n (length-replicate n z)

  cleared_length : n ≤ length xs → length (cleared z n xs) ≡ length xs
  unfolding cleared
  cleared_length h =
      simp (length-append, length-replicate, length-drop) (omega arith)

module _ (D : Decision) (allowance : ℕ) (sheet : List ℕ) (m : Lent) where
  -- the needed working memory is zero
  pub needed-memory-zero :
      (take (needed_records D allowance) (left_behind D allowance sheet m).records ≡ replicate (needed_records D allowance) zero_slot)
      × (take (needed_words D allowance) (left_behind D allowance sheet m).words ≡ replicate (needed_words D allowance) 0)
  unfolding left_behind
  needed-memory-zero =
      (cleared_zero zero_slot (needed_records D allowance) m.records, cleared_zero 0 (needed_words D allowance) m.words)

  -- "memory beyond it unchanged"
  pub memory-beyond-unchanged :
      (drop (needed_records D allowance) (left_behind D allowance sheet m).records ≡ drop (needed_records D allowance) m.records)
      × (drop (needed_words D allowance) (left_behind D allowance sheet m).words ≡ drop (needed_words D allowance) m.words)
  unfolding left_behind
  memory-beyond-unchanged =
      (cleared_beyond zero_slot (needed_records D allowance) m.records, cleared_beyond 0 (needed_words D allowance) m.words)

  -- and there is as much of it as before
  pub memory_keeps_length : Ready D allowance m
      → (length (left_behind D allowance sheet m).records ≡ length m.records)
      × (length (left_behind D allowance sheet m).words ≡ length m.words)
  unfolding left_behind
  memory_keeps_length r = (
    cleared_length zero_slot (needed_records D allowance) m.records r.records_enough,
    cleared_length 0 (needed_words D allowance) m.words r.words_enough,
  )

-- the sheet buffer where no sheet is written
pub buffer_unchanged : (D : Decision) (allowance : ℕ) (m : Lent) → (left_behind D allowance [] m).buffer ≡ m.buffer
unfolding left_behind
buffer_unchanged D allowance m = refl

module _ (bs : List ℕ) (allowance : ℕ) (m : Lent) where
  -- each call has one of them
  pub search_outcomes : WayOut bs allowance m
  search_outcomes = asks (asked_fate bs)
    where
      fits : (q : Query) (a : Accepted bs q) → Ready (sought a) allowance m
          → (g : Given) → searched (sought a) allowance ≡ ok g
          → (length g.sheet ≤ length m.buffer) ⊎ (length m.buffer < length g.sheet) → WayOut bs allowance m
      fits q a r g e (inl h) = written q a r g e h
      fits q a r g e (inr h) = unwritten q a r g e h

      finds : (q : Query) (a : Accepted bs q) → Ready (sought a) allowance m
          → (s : Result Given) → searched (sought a) allowance ≡ s → WayOut bs allowance m
      finds q a r (ok g) e = fits q a r g e (le_or_lt (length g.sheet) (length m.buffer))
      finds q a r (refused s) e = exhausted q a r (search_refuses (sought a) allowance s e)

      holds : (q : Query) (a : Accepted bs q) → 1 ≤ allowance → allowance ≤ 4096
          → (needed_records (sought a) allowance ≤ length m.records) ⊎ (length m.records < needed_records (sought a) allowance)
          → (needed_words (sought a) allowance ≤ length m.words) ⊎ (length m.words < needed_words (sought a) allowance)
          → WayOut bs allowance m
      holds q a h k (inr s) t = short q a h k (inl s)
      holds q a h k (inl s) (inr t) = short q a h k (inr t)
      holds q a h k (inl s) (inl t) =
          finds q a (record { some_allowance = h; small_allowance = k; records_enough = s; words_enough = t })
          (searched (sought a) allowance) refl

      spans : (q : Query) → Accepted bs q → (1 ≤ allowance) ⊎ (allowance < 1) → (allowance ≤ 4096) ⊎ (4096 < allowance)
          → WayOut bs allowance m
      spans q a (inr h) k = out q a (inl h)
      spans q a (inl h) (inr k) = out q a (inr k)
      spans q a (inl h) (inl k) =
          holds q a h k (le_or_lt (needed_records (sought a) allowance) (length m.records))
          (le_or_lt (needed_words (sought a) allowance) (length m.words))

      asks : ((r : Refusal) × (read bs ≡ refused r)) ⊎ ((q : Query) × Accepted bs q) → WayOut bs allowance m
      asks (inl (r, e)) = unread r e
      asks (inr (q, a)) = spans q a (le_or_lt 1 allowance) (le_or_lt allowance 4096)

  -- what each of them gives and leaves
  abbrev after : WayOut bs allowance m → Done
  after (unread r e) = record { result = refused r; lent = m }
  after (out q a h) = record { result = refuse bad_allowance 0; lent = m }
  after (short q a h k s) = record { result = refuse short_memory 0; lent = m }
  after (exhausted q a r e) = record { result = refuse spent_allowance 0; lent = left_behind (sought a) allowance [] m }
  after (unwritten q a r g e h) = record { result = refuse short_buffer 0; lent = left_behind (sought a) allowance [] m }
  after (written q a r g e h) = record { result = ok g.answer; lent = left_behind (sought a) allowance g.sheet m }

  search_is : (o : WayOut bs allowance m) → search_call bs allowance m ≡ after o
  search_is (unread r e) = search_reads_first bs allowance m r e
  search_is (out q a h) = allowance_next bs allowance m q a h
  search_is (short q a h k s) = memory_next bs allowance m q a h k s
  search_is (exhausted q a r e) = spent_next bs allowance m q a r e
  search_is (unwritten q a r g e h) = buffer_last bs allowance m q a r g e h
  search_is (written q a r g e h) = else_answered bs allowance m q a r g e h

  result_is : {s : Result Answer} → (search_call bs allowance m).result ≡ s → (after search_outcomes).result ≡ s
  result_is e = ap (λ d. d.result) (sym (search_is search_outcomes)) ∙ e

  -- the refusals 1 to 8 of a search call are the reader's
  pub search_refuses_as_read : (c : Cause) (p : ℕ) → (search_call bs allowance m).result ≡ refuse c p → number c ≤ 8
      → read bs ≡ refuse c p
  unfolding number
  search_refuses_as_read c p e n = go search_outcomes (result_is e)
    where
      go : (o : WayOut bs allowance m) → (after o).result ≡ refuse c p → read bs ≡ refuse c p
      go (unread r f) h =
          let (same, at) = same_refusal h in
          f ∙ ap (λ d. refuse d r.place) same ∙ ap (refuse c) at
      go (out q a f) h = absurd (omega (arith, ap number (same_refusal h).0))
      go (short q a f g s) h = absurd (omega (arith, ap number (same_refusal h).0))
      go (exhausted q a r f) h = absurd (omega (arith, ap number (same_refusal h).0))
      go (unwritten q a r g f k) h = absurd (omega (arith, ap number (same_refusal h).0))
      go (written q a r g f k) h = absurd (ok_not_refused g.answer _ h)

  -- refusals 1 to 9 leave all lent memory "as before"
  pub memory_as_before : (c : Cause) (p : ℕ) → (search_call bs allowance m).result ≡ refuse c p → number c ≤ 9
      → (search_call bs allowance m).lent ≡ m
  unfolding number
  memory_as_before c p e n = ap (λ d. d.lent) (search_is search_outcomes) ∙ go search_outcomes (result_is e)
    where
      go : (o : WayOut bs allowance m) → (after o).result ≡ refuse c p → (after o).lent ≡ m
      go (unread r f) h = refl
      go (out q a f) h = refl
      go (short q a f g s) h = refl
      go (exhausted q a r f) h = absurd (omega (arith, ap number (same_refusal h).0))
      go (unwritten q a r g f k) h = absurd (omega (arith, ap number (same_refusal h).0))
      go (written q a r g f k) h = absurd (ok_not_refused g.answer _ h)

  -- the others are 10 and 11, "zero": the query is accepted, and the memory is left behind with no sheet written
  pub memory_cleared : (c : Cause) (p : ℕ) → (search_call bs allowance m).result ≡ refuse c p → 10 ≤ number c
      → (number c ≤ 11)
      × (q : Query) × (a : Accepted bs q) × Ready (sought a) allowance m
      × ((search_call bs allowance m).lent ≡ left_behind (sought a) allowance [] m)
  unfolding number
  memory_cleared c p e n =
      let (below, q, a, r, left) = go search_outcomes (result_is e) in
      (below, q, a, r, ap (λ d. d.lent) (search_is search_outcomes) ∙ left)
    where
      go : (o : WayOut bs allowance m) → (after o).result ≡ refuse c p
          → (number c ≤ 11)
          × (q : Query) × (a : Accepted bs q) × Ready (sought a) allowance m × ((after o).lent ≡ left_behind (sought a) allowance [] m)
      go (unread r f) h =
          absurd (omega (arith, ap number (same_refusal h).0, reading_refusals bs r.cause r.place f))
      go (out q a f) h = absurd (omega (arith, ap number (same_refusal h).0))
      go (short q a f g s) h = absurd (omega (arith, ap number (same_refusal h).0))
      go (exhausted q a r f) h = (omega (arith, ap number (same_refusal h).0), q, a, r, refl)
      go (unwritten q a r g f k) h = (omega (arith, ap number (same_refusal h).0), q, a, r, refl)
      go (written q a r g f k) h = absurd (ok_not_refused g.answer _ h)
