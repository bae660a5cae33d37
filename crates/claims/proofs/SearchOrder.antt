-- The order of the search call's refusals, with the lent memory after each: the reader's, 9 (allowance, then memory), 10, 11, else an
-- answer. (Document 01, the refusals' table and the paragraph behind it.) The idea: what the call asks about is an accepted query, and
-- from there on each test of the call is opened by one rule.
-- Assumes nothing.
use Prim.Native.Nat.{ℕ, ◌≤◌, ◌<◌}
use mathlib.Core.Path.{◌≡◌, refl, sym, ◌∙◌, ap}
use mathlib.Core.Logic.{◌⊎◌}
use mathlib.Core.Logic.◌⊎◌.{inl, inr}
use mathlib.Core.Bool.{Bool, true, false, ◌&&◌}
use mathlib.Core.List.{List, []}
use mathlib.Core.Option.{Option, some, none}
use lib.Dec.{leb}
use lib.ListN.{length}
use borrow.Author.Tests.{le-leb, lt-leb}
use Rattle.kat.proofs.Bools.{and_both}
use Rattle.notation.specs.Bytes.{raw_lines}
use Rattle.notation.specs.Tree.{Claim}
use Rattle.notation.specs.Query.{Query}
use Rattle.notation.specs.Refusals.{no_claim, bad_allowance, short_memory, spent_allowance, short_buffer, Refusal, Result, ok, refused, refuse}
use Rattle.notation.specs.Decisions.{ToDecide, claim_at, last_of}
use Rattle.notation.specs.Reading.{read}
use Rattle.notation.specs.Sides.{Decision, decision}
use Rattle.verdicts.specs.Standings.{System, path_system, ring_system}
use Rattle.verdicts.specs.Search.{Verdict, proved, refuted, spent, verdict}
use Rattle.claims.specs.SheetBytes.{path_bytes, ring_bytes}
use Rattle.claims.specs.Calls.{Given, answer_of, searched, Asked, asked, Lent, needed_records, needed_words, left_behind, enough_memory, finish, search_asked, search_call}
use Rattle.notation.proofs.LineOrder.{ok_not_refused, same_value}
use Rattle.notation.proofs.ClaimLast.{claim_is_last}
use Rattle.notation.proofs.Decisions.{claim_decided}
use Rattle.notation.proofs.Precedence.{read_accepts}
use Rattle.notation.specs.RefusalOrder.{Accepted, EndsWith}
use Rattle.claims.specs.CallOrder.{asked_as, sought, Ready, Short}

-- what the reader refuses is refused so, and what it accepts is asked
pub asked_refused : (bs : List ℕ) (r : Refusal) → read bs ≡ refused r → asked bs ≡ refused r
unfolding asked
asked_refused bs r e = rw e

asked_last : (q : Query) {o : Option ToDecide} {n : ℕ} {c : Claim} → o ≡ some (claim_at q n c)
    → ◌≡◌ {A = Result Asked} (elim o [
      | some d ↦ ok (record { query = q; claim = d.claim; decided = decision d.over d.claim })
      | none ↦ refuse no_claim 0
    ]) (ok (asked_as q c))
asked_last q e = rw e

pub asked_accepted : (bs : List ℕ) (q : Query) (a : Accepted bs q) → asked bs ≡ ok (asked_as q a.claim)
unfolding asked last_of
asked_accepted bs q a =
    let w : EndsWith q a.claim = claim_is_last (raw_lines bs) q a.claim a.every_line_taken a.claimed in
    rw ((read_accepts bs q).1 a) (asked_last q (ap last_of (claim_decided q a.claim w)))

-- one of the two holds of every query
pub asked_fate : (bs : List ℕ) → ((r : Refusal) × (read bs ≡ refused r)) ⊎ ((q : Query) × Accepted bs q)
asked_fate bs = go (read bs) refl
  where
    go : (r : Result Query) → read bs ≡ r → ((r : Refusal) × (read bs ≡ refused r)) ⊎ ((q : Query) × Accepted bs q)
    go (ok q) e = inr (q, (read_accepts bs q).0 e)
    go (refused r) e = inl (r, e)

-- what a call asks about is an accepted query
pub asked_only_accepted : (bs : List ℕ) (b : Asked) → asked bs ≡ ok b
    → (q : Query) × (a : Accepted bs q) × (b ≡ asked_as q a.claim)
asked_only_accepted bs b e = go (asked_fate bs)
  where
    go : ((r : Refusal) × (read bs ≡ refused r)) ⊎ ((q : Query) × Accepted bs q)
        → (q : Query) × (a : Accepted bs q) × (b ≡ asked_as q a.claim)
    go (inl (r, f)) = absurd (ok_not_refused b r (sym e ∙ asked_refused bs r f))
    go (inr (q, a)) = (q, a, same_value b (asked_as q a.claim) (sym e ∙ asked_accepted bs q a))

-- 10 is the only refusal of the search itself
answer_refused : (S : System) (f : S.Standing → List ℕ) (v : Verdict S) (r : Refusal) → answer_of S f v ≡ refused r
    → ◌≡◌ {A = Result Given} (refused r) (refuse spent_allowance 0)
unfolding answer_of
answer_refused S f (proved ss) r e = absurd (ok_not_refused _ r e)
answer_refused S f (refuted w) r e = absurd (ok_not_refused _ r e)
answer_refused S f spent r e = sym e

pub search_refuses : (D : Decision) (allowance : ℕ) (r : Refusal) → searched D allowance ≡ refused r
    → searched D allowance ≡ refuse spent_allowance 0
unfolding searched
search_refuses D allowance r e = e ∙ go D.ring e
  where
    go : (b : Bool)
        → ◌≡◌ {A = Result Given} (elim b [
          | false ↦ answer_of (path_system D) path_bytes (verdict (path_system D) allowance)
          | true ↦ answer_of (ring_system D) ring_bytes (verdict (ring_system D) allowance)
        ]) (refused r)
        → ◌≡◌ {A = Result Given} (refused r) (refuse spent_allowance 0)
    go false h = answer_refused (path_system D) path_bytes (verdict (path_system D) allowance) r h
    go true h = answer_refused (ring_system D) ring_bytes (verdict (ring_system D) allowance) r h

false_right : (a : Bool) {b : Bool} → b ≡ false → (a && b) ≡ false
false_right true e = e
false_right false e = refl

-- tests of refusal 9
allowance_fits : (n : ℕ) → 1 ≤ n → n ≤ 4096 → (leb 1 n && leb n 4096) ≡ true
allowance_fits n h k = and_both (le-leb 1 n h) (le-leb n 4096 k)

allowance_out : (n : ℕ) → (n < 1) ⊎ (4096 < n) → (leb 1 n && leb n 4096) ≡ false
allowance_out n (inl h) = rw (lt-leb 1 n h)
allowance_out n (inr h) = false_right (leb 1 n) (lt-leb n 4096 h)

memory_fits : (D : Decision) (n : ℕ) (m : Lent) → needed_records D n ≤ length m.records → needed_words D n ≤ length m.words
    → enough_memory D n m ≡ true
unfolding enough_memory
memory_fits D n m h k =
    and_both (le-leb (needed_records D n) (length m.records) h) (le-leb (needed_words D n) (length m.words) k)

memory_out : (D : Decision) (n : ℕ) (m : Lent) → Short D n m → enough_memory D n m ≡ false
unfolding enough_memory
memory_out D n m (inl h) = rw (lt-leb (needed_records D n) (length m.records) h, enough_memory)
memory_out D n m (inr h) =
    false_right (leb (needed_records D n) (length m.records)) (lt-leb (needed_words D n) (length m.words) h)

module _ (a : Asked) (allowance : ℕ) (m : Lent) where
  out_of_range : (allowance < 1) ⊎ (4096 < allowance) → search_asked a allowance m ≡ record { result = refuse bad_allowance 0; lent = m }
  unfolding search_asked
  out_of_range h = rw (allowance_out allowance h, search_asked)

  short_of_memory : 1 ≤ allowance → allowance ≤ 4096 → Short a.decided allowance m
      → search_asked a allowance m ≡ record { result = refuse short_memory 0; lent = m }
  unfolding search_asked
  short_of_memory h k s = rw (allowance_fits allowance h k, search_asked, memory_out a.decided allowance m s)

  searches : Ready a.decided allowance m → search_asked a allowance m ≡ finish a.decided allowance m (searched a.decided allowance)
  unfolding search_asked
  searches r =
      rw (
        allowance_fits allowance r.some_allowance r.small_allowance,
        search_asked,
        memory_fits a.decided allowance m r.records_enough r.words_enough,
      )

module _ (D : Decision) (allowance : ℕ) (m : Lent) (g : Given) where
  finish_short : length m.buffer < length g.sheet
      → finish D allowance m (ok g) ≡ record { result = refuse short_buffer 0; lent = left_behind D allowance [] m }
  unfolding finish
  finish_short h = rw (lt-leb (length g.sheet) (length m.buffer) h, finish)

  finish_fits : length g.sheet ≤ length m.buffer
      → finish D allowance m (ok g) ≡ record { result = ok g.answer; lent = left_behind D allowance g.sheet m }
  unfolding finish
  finish_fits h = rw (le-leb (length g.sheet) (length m.buffer) h, finish)

module _ (bs : List ℕ) (allowance : ℕ) (m : Lent) where
  -- 1 to 8: exactly the reader's refusal, and all lent memory "as before"
  pub search_reads_first : (r : Refusal) → read bs ≡ refused r → search_call bs allowance m ≡ record { result = refused r; lent = m }
  unfolding search_call
  search_reads_first r e = rw (asked_refused bs r e, search_call)

  module _ (q : Query) (a : Accepted bs q) where
    accepted_searches : search_call bs allowance m ≡ search_asked (asked_as q a.claim) allowance m
    unfolding search_call
    accepted_searches = rw (asked_accepted bs q a, search_call)

    -- 9 next, before any search: "allowance outside 1 to 4,096", memory as before
    pub allowance_next : (allowance < 1) ⊎ (4096 < allowance)
        → search_call bs allowance m ≡ record { result = refuse bad_allowance 0; lent = m }
    allowance_next h = accepted_searches ∙ out_of_range (asked_as q a.claim) allowance m h

    -- "or memory short of it", memory as before
    pub memory_next : 1 ≤ allowance → allowance ≤ 4096 → Short (sought a) allowance m
        → search_call bs allowance m ≡ record { result = refuse short_memory 0; lent = m }
    memory_next h k s = accepted_searches ∙ short_of_memory (asked_as q a.claim) allowance m h k s

    -- 10 next: "allowance spent", whatever the sheet buffer
    pub spent_next : Ready (sought a) allowance m → searched (sought a) allowance ≡ refuse spent_allowance 0
        → search_call bs allowance m
        ≡ record { result = refuse spent_allowance 0; lent = left_behind (sought a) allowance [] m }
    unfolding finish
    spent_next r e =
        accepted_searches ∙ searches (asked_as q a.claim) allowance m r ∙ ap (finish (sought a) allowance m) e

    -- 11 last: "sheet buffer short", for both verdicts
    pub buffer_last : Ready (sought a) allowance m → (g : Given) → searched (sought a) allowance ≡ ok g
        → length m.buffer < length g.sheet
        → search_call bs allowance m
        ≡ record { result = refuse short_buffer 0; lent = left_behind (sought a) allowance [] m }
    buffer_last r g e h =
        accepted_searches ∙ searches (asked_as q a.claim) allowance m r ∙ ap (finish (sought a) allowance m) e
        ∙ finish_short (sought a) allowance m g h

    -- and else an answer
    pub else_answered : Ready (sought a) allowance m → (g : Given) → searched (sought a) allowance ≡ ok g
        → length g.sheet ≤ length m.buffer
        → search_call bs allowance m
        ≡ record { result = ok g.answer; lent = left_behind (sought a) allowance g.sheet m }
    else_answered r g e h =
        accepted_searches ∙ searches (asked_as q a.claim) allowance m r ∙ ap (finish (sought a) allowance m) e
        ∙ finish_fits (sought a) allowance m g h
