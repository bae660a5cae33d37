-- From one state of the memory to a later one: what does not change, and which candidates were noted. Both go on from state to state. Once
-- the allowance is spent, it stays so whatever comes.
-- Assumes nothing.
use Prim.Native.Nat.{ℕ, ◌+◌, ◌≤◌, ◌<◌}
use native.Mathlib.Omega.{arith}
use mathlib.Core.Path.{◌≡◌, refl, sym, ◌∙◌, subst}
use mathlib.Core.Logic.{⊎_elim}
use mathlib.Core.Logic.◌⊎◌.{inr}
use mathlib.Core.Bool.{Bool}
use mathlib.Core.List.{List, [], ◌++◌, append_assoc}
use lib.ListN.{length, length-append}
use Rattle.claims.specs.Search.{fresh}
use Rattle.search_standings.specs.declared.Shape.{Shape}
use Rattle.search_standings.specs.Systems.{word_system}
use Rattle.search_store.specs.Store.{Room}
use Rattle.search_grow.specs.Kept.{State, state, Inside, Ready, Seen, Keeps, Kept, grow, Adds}
use Rattle.search_grow.proofs.Grow.{grow_none, grow_append}

module _ (ring : Bool) (cap : ℕ) where
  pub inside_none : (s : State) → s.count ≤ cap + 1 → Inside ring cap s s
  inside_none s h =
      record {
        records_length = refl;
        words_length = refl;
        records_past = refl;
        words_past = refl;
        other_records = λ _. refl;
        other_words = λ _. refl;
        low = omega arith;
        high = h;
      }

  -- only the count grew
  pub inside_count : (s t : State) → t.records ≡ s.records → t.words ≡ s.words → s.count ≤ t.count → t.count ≤ cap + 1
      → Inside ring cap s t
  inside_count s t a b l h =
      record {
        records_length = rw a refl;
        words_length = rw b refl;
        records_past = rw a refl;
        words_past = rw b refl;
        other_records = λ _. a;
        other_words = λ _. b;
        low = l;
        high = h;
      }

  pub inside_more : (s t u : State) → Inside ring cap s t → Inside ring cap t u → Inside ring cap s u
  inside_more s t u a b =
      record {
        records_length = b.records_length ∙ a.records_length;
        words_length = b.words_length ∙ a.words_length;
        records_past = b.records_past ∙ a.records_past;
        words_past = b.words_past ∙ a.words_past;
        other_records = λ e. b.other_records e ∙ a.other_records e;
        other_words = λ e. b.other_words e ∙ a.other_words e;
        low = omega (arith, a.low, b.low);
        high = b.high;
      }

  -- of the memory alone, whatever the count
  pub inside_memory : (s t : State) (m : ℕ) → m ≤ cap + 1 → Inside ring cap s t
      → Inside ring cap (state s.records s.words m) (state t.records t.words m)
  inside_memory s t m h a =
      record {
        records_length = a.records_length;
        words_length = a.words_length;
        records_past = a.records_past;
        words_past = a.words_past;
        other_records = a.other_records;
        other_words = a.other_words;
        low = omega arith;
        high = h;
      }

  pub still_ready : (s t : State) → Inside ring cap s t → Ready ring cap s → Ready ring cap t
  still_ready s t a r =
      record {
        allowance = r.allowance;
        room =
            record {
              path = λ e. omega (arith, r.room.path e, a.records_length);
              turn = λ e. omega (arith, r.room.turn e, a.words_length);
            };
        counted = a.high;
      }

-- there is room for fewer standings too
pub room_less : (ring : Bool) (r : List (List ℕ)) (w : List ℕ) (m n : ℕ) → m ≤ n → Room ring r w n → Room ring r w m
room_less ring r w m n h a = record { path = λ e. omega (arith, a.path e); turn = λ e. omega (arith, a.turn e) }

module _ (k : Shape) (left right : List ℕ) (cap : ℕ) where
  -- more entries than the allowance stay so
  pub spent_stays : (s t : State) → Inside k.ring cap s t → (seen cands : Seen k left right) → s.count ≡ cap + 1 → cap < length seen
      → Kept k left right cap t (grow k left right seen cands)
  spent_stays s t a seen cands e h =
      inr (omega (arith, a.low, a.high), omega (arith, length-append seen (fresh (word_system k left right) seen cands)))

  -- it is enough to look at a memory that keeps the entries
  pub adds_from : (old : Seen k left right) (s t : State) (cands : Seen k left right) → Inside k.ring cap s t
      → ((more : Seen k left right) → s.count ≤ cap → Keeps k left right s (old ++ more)
      → Kept k left right cap t (grow k left right (old ++ more) cands))
      → Adds k left right cap old s t cands
  adds_from old s t cands a f more h =
      ⊎_elim (λ p. f more p.0 p.1) (λ p. spent_stays s t a (old ++ more) cands p.0 p.1) h

  -- no candidates; candidates in a row
  pub adds_none : (old : Seen k left right) (s : State) → Adds k left right cap old s s []
  adds_none old s more h = subst (Kept k left right cap s) (sym (grow_none (word_system k left right) (old ++ more))) h

  pub adds_join : (old : Seen k left right) (s t u : State) (xs ys : Seen k left right) → Adds k left right cap old s t xs
      → Adds k left right cap old t u ys → Adds k left right cap old s u (xs ++ ys)
  adds_join old s t u xs ys f g more h =
      subst (Kept k left right cap u) (sym (grow_append (word_system k left right) (old ++ more) xs ys))
      (subst (λ seen. Kept k left right cap u (grow k left right seen ys)) (sym seam)
      (g (more ++ fresh (word_system k left right) (old ++ more) xs) (subst (Kept k left right cap t) seam (f more h))))
    where
      seam : (old ++ more) ++ fresh (word_system k left right) (old ++ more) xs ≡ old ++ (more ++ fresh (word_system k left right) (old ++ more) xs)
      seam = append_assoc old more (fresh (word_system k left right) (old ++ more) xs)
