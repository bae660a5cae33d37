-- One candidate: where no left occurrence is possible or its standing was seen, nothing is kept; else it is appended, or counted where the
-- allowance is full.
-- Assumes nothing.
use Prim.Native.Nat.{ℕ, ◌+◌, ◌*◌, ◌/◌, ◌%◌, ◌≤◌, ◌<◌}
use native.Mathlib.Omega.{arith}
use mathlib.Core.Path.{◌≡◌, refl, sym, ◌∙◌, ap, ap₂, subst}
use mathlib.Core.Logic.{⊎_elim}
use mathlib.Core.Logic.◌⊎◌.{inl, inr}
use mathlib.Core.Bool.{Bool, true, false, not, ◌&&◌}
use mathlib.Core.List.{List, [], ◌∷◌, ◌++◌, map-append}
use lib.Dec.{eqb}
use lib.ListN.{length, get_or, drop, length-append, length-map}
use borrow.Author.Tests.{eq-eqb, ne_eqb}
use Rattle.kat.specs.Lists.{some}
use Rattle.kat.specs.Ring.{then}
use Rattle.kat.proofs.Bools.{and_both, true_not_false}
use Rattle.claims.specs.Bytes.{same}
use Rattle.claims.specs.Search.{Entry, seen_in, fresh}
use Rattle.bits.proofs.Lists.{some_map}
use Rattle.search_standings.specs.declared.Shape.{Shape}
use Rattle.memory.specs.Memory.{words}
use Rattle.search_standings.specs.Systems.{width, word_system}
use Rattle.std.specs.Prelude.{Option, Some, None}
use Rattle.search_store.specs.Store.{field_at, standing_at, standing_in, Room, Place, records_after, words_after, prefix_at, Holds}
use Rattle.search_store.proofs.Appended.{records_length, words_length, records_past, words_past, other_records, other_words}
use Rattle.search_store.proofs.Held.{holds_more, prefix_stays, found_kept, none_kept}
use Rattle.search_grow.specs.Kept.{State, state, Inside, Seen, standings, prefixes, Keeps, Kept, grow, entry_of, Adds}
use Rattle.search_grow.proofs.Grow.{grow_kept, grow_dropped}

and-false : (a b : Bool) → b ≡ false → (a && b) ≡ false
and-false true b h = h
and-false false b h = refl

-- the first word of a standing on its way
pub first_word : (ring : Bool) (s : List ℕ) → get_or (standing_in ring s) 0 0 ≡ get_or s 0 0
unfolding standing_in width words
first_word true s = refl
first_word false s = refl

-- a standing appended changes the memory inside
pub inside_appended : (ring : Bool) (cap : ℕ) (r : List (List ℕ)) (w : List ℕ) (n : ℕ) (arr : List ℕ) (parent letter : ℕ)
    (r' : List (List ℕ)) (w' : List ℕ) → r' ≡ records_after ring r n arr parent letter → w' ≡ words_after ring w n arr parent letter → n < cap
    → Inside ring cap (state r w n) (state r' w' (n + 1))
inside_appended ring cap r w n arr parent letter r' w' a b h =
    record {
      records_length = ap length a ∙ records_length r w n arr parent letter ring;
      words_length = ap length b ∙ words_length r w n arr parent letter ring;
      records_past = ap (drop cap) a ∙ records_past r w n arr parent letter ring cap h;
      words_past = ap (drop (40 * cap)) b ∙ words_past r w n arr parent letter ring cap h;
      other_records = λ e. a ∙ other_records r w n arr parent letter ring e;
      other_words = λ e. b ∙ other_words r w n arr parent letter ring e;
      low = omega arith;
      high = omega arith;
    }

-- a law of ring claims, by the shape's other fields
pub by_ring : (P : Shape → Type 0)
    → ((right live relations : ℕ) → P (record { ring = true; right = right; live = live; relations = relations })) → (k : Shape) → k.ring ≡ true
    → P k
by_ring P f k e =
    subst (λ b. P (record { ring = b; right = k.right; live = k.live; relations = k.relations })) (sym e)
    (f k.right k.live k.relations)

-- the words of ring standings, whatever the records
pub ring_place : (rows : List (List ℕ)) (w : List ℕ) (n : ℕ) (s : List ℕ) (p : Option ℕ) → Place (standing_at true [] w) n s p
    → Place (standing_at true rows w) n s p
unfolding standing_at field_at
ring_place rows w n s (Some p) h = h
ring_place rows w n s None h = h

-- room for ring standings
pub ring_room : (rows : List (List ℕ)) (w : List ℕ) (n : ℕ) → 40 * n ≤ length w → Room true rows w n
ring_room rows w n h = record { path = λ e. absurd (true_not_false refl e); turn = λ _. h }

-- a ring standing is put beside the records
pub ring_records : (rows : List (List ℕ)) (n : ℕ) (s : List ℕ) (parent letter : ℕ) → rows ≡ records_after true rows n s parent letter
unfolding records_after
ring_records rows n s parent letter = refl

module _ (k : Shape) (left right : List ℕ) where
  -- a standing was seen where it stands among the words kept
  seen_words : (seen : Seen k left right) (ws : List ℕ) → seen_in (word_system k left right) seen ws ≡ some (same ws) (standings k left right seen)
  unfolding seen_in
  seen_words seen ws = sym (some_map (λ e. e.standing) (same ws) seen)

  -- the prefix of an old place, with more entries behind
  pub old_prefix : (old more : Seen k left right) (place : ℕ) → place ≤ length old
      → prefix_at (prefixes k left right (old ++ more)) place ≡ prefix_at (prefixes k left right old) place
  old_prefix old more place h =
      ap (λ ps. prefix_at ps place) (map-append (λ e. e.prefix) old more)
      ∙ prefix_stays (prefixes k left right old) (prefixes k left right more) place (omega (arith, length-map old (λ e. e.prefix)))

  module _ (cap : ℕ) (s : State) (old : Seen k left right) (parent letter : ℕ) where
    pub note_impossible : (ws : List ℕ) → get_or ws 0 0 ≡ 0
        → Adds k left right cap old s s (entry_of k left right old ws parent letter ∷ [])
    note_impossible ws z more h =
        subst (Kept k left right cap s)
        (sym (grow_dropped (word_system k left right) (old ++ more) (entry_of k left right old ws parent letter)
        (ap (λ b. not b && not (seen_in (word_system k left right) (old ++ more) ws)) (eq-eqb (get_or ws 0 0) 0 z)))) h

    pub note_spent : (ws : List ℕ) → cap < s.count → Adds k left right cap old s s (entry_of k left right old ws parent letter ∷ [])
    note_spent ws z more h =
        ⊎_elim (λ p. absurd (omega (arith, p.0)))
        (λ p.
        inr (
          p.0,
          omega (arith, p.1, length-append (old ++ more) (fresh (word_system k left right) (old ++ more) (entry_of k left right old ws parent letter ∷ []))),
        ))
        h

    pub note_found : (ws : List ℕ) (p : ℕ) → Place (standing_at k.ring s.records s.words) s.count ws (Some p) → s.count ≤ cap
        → Adds k left right cap old s s (entry_of k left right old ws parent letter ∷ [])
    note_found ws p place c more h = ⊎_elim (λ q. dropped q.1) (λ q. absurd (omega (arith, q.0))) h
      where
        e : Entry (word_system k left right)
        e = entry_of k left right old ws parent letter

        dropped : Keeps k left right s (old ++ more) → Kept k left right cap s (grow k left right (old ++ more) (e ∷ []))
        dropped q =
            subst (Kept k left right cap s)
            (sym (grow_dropped (word_system k left right) (old ++ more) e
            (and-false (not (eqb (get_or ws 0 0) 0)) (not (seen_in (word_system k left right) (old ++ more) ws))
            (ap not
            (seen_words (old ++ more) ws
            ∙ found_kept k.ring s.records s.words s.count (standings k left right (old ++ more)) (prefixes k left right (old ++ more)) q ws p place))))) h

    -- the standing is possible and new
    module _ (arr : List ℕ) (z : get_or (standing_in k.ring arr) 0 0 ≡ 0 → ⊥)
        (place : Place (standing_at k.ring s.records s.words) s.count (standing_in k.ring arr) None) where
      abbrev e : Entry (word_system k left right)
      e = entry_of k left right old (standing_in k.ring arr) parent letter

      new : (more : Seen k left right) → Keeps k left right s (old ++ more)
          → grow k left right (old ++ more) (e ∷ []) ≡ (old ++ more) ++ (e ∷ [])
      new more q =
          grow_kept (word_system k left right) (old ++ more) e
          (and_both (ap not (ne_eqb _ _ z))
          (ap not
          (seen_words (old ++ more) (standing_in k.ring arr)
          ∙ none_kept k.ring s.records s.words s.count _ _ q (standing_in k.ring arr) place)))

      pub note_over : s.count ≡ cap → Adds k left right cap old s (state s.records s.words (s.count + 1)) (e ∷ [])
      note_over c more h =
          ⊎_elim
          (λ q.
          inr (
            omega arith,
            omega (
              arith,
              ap length (new more q.1),
              length-append (old ++ more) (e ∷ []),
              q.1.standings_count,
              length-map (old ++ more) (λ f. f.standing),
            ),
          ))
          (λ q. absurd (omega (arith, q.0))) h

      kept_after : parent ≤ length old → Room k.ring s.records s.words (s.count + 1) → s.count < cap
          → Adds k left right cap old s
          (state (records_after k.ring s.records s.count arr parent letter) (words_after k.ring s.words s.count arr parent letter)
          (s.count + 1)) (e ∷ [])
      kept_after low room c more h = ⊎_elim (λ q. kept q.1) (λ q. absurd (omega (arith, q.0))) h
        where
          t : State
          t =
              state (records_after k.ring s.records s.count arr parent letter)
              (words_after k.ring s.words s.count arr parent letter) (s.count + 1)

          kept : Keeps k left right s (old ++ more) → Kept k left right cap t (grow k left right (old ++ more) (e ∷ []))
          kept q =
              subst (Kept k left right cap t) (sym (new more q))
              (inl (
                omega arith,
                subst (λ ps. Holds k.ring t.records t.words (s.count + 1) (standings k left right ((old ++ more) ++ (e ∷ []))) ps)
                    (ap (λ r. prefixes k left right (old ++ more) ++ (then r (letter / 16) (letter % 16) ∷ [])) (old_prefix old more parent low)
                    ∙ sym (map-append (λ f. f.prefix) (old ++ more) (e ∷ [])))
                    (subst (λ ss. Holds k.ring t.records t.words (s.count + 1) ss (prefixes k left right (old ++ more) ++ (then (prefix_at (prefixes k left right (old ++ more)) parent) (letter / 16) (letter % 16) ∷ [])))
                    (sym (map-append (λ f. f.standing) (old ++ more) (e ∷ [])))
                    (holds_more k.ring s.records s.words s.count arr parent letter room (standings k left right (old ++ more)) (prefixes k left right (old ++ more))
                    (omega (arith, q.standings_count, length-map (old ++ more) (λ f. f.standing), length-append old more)) q)),
              ))

      pub note_kept : parent ≤ length old → Room k.ring s.records s.words (s.count + 1) → s.count < cap
          → (r : List (List ℕ)) (w : List ℕ) → r ≡ records_after k.ring s.records s.count arr parent letter
          → w ≡ words_after k.ring s.words s.count arr parent letter → Adds k left right cap old s (state r w (s.count + 1)) (e ∷ [])
      note_kept low room c r w a b =
          subst (λ t. Adds k left right cap old s t (e ∷ [])) (sym (ap₂ (λ x y. state x y (s.count + 1)) a b)) (kept_after low room c)
