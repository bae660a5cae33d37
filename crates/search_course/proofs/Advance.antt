-- From level to level: the search begins with the fresh standings of level 1; more standings than the allowance spend it, a level that completes
-- a word refutes, one with nothing fresh proves, and else the next level follows.
-- Assumes nothing.
use Prim.Native.Nat.{ℕ, zero, suc, ◌+◌, ◌-◌, ◌≤◌, ◌<◌}
use native.Mathlib.Omega.{arith}
use mathlib.Core.Path.{◌≡◌, refl, sym, ◌∙◌, ap, subst}
use mathlib.Core.Logic.{⊎_elim}
use mathlib.Core.Logic.◌⊎◌.{inl}
use mathlib.Core.Bool.{false}
use mathlib.Core.List.{List, [], ◌∷◌, ◌++◌, append-nil}
use mathlib.Core.Option.{some, none}
use lib.Dec.{ltb}
use lib.ListN.{length, get_or, drop, drop_of_length-le, length-map}
use lib.Seq.{drop-cons, drop_at}
use borrow.Author.Tests.{lt-ltb, le-ltb}
use Rattle.kat.specs.Lists.{upto}
use Rattle.kat.specs.Word.{end}
use Rattle.kat.specs.Ring.{nothing}
use Rattle.claims.specs.Standings.{Letter}
use Rattle.claims.specs.Search.{Entry, Verdict, proved, refuted, spent, first_level, fresh, completed}
use Rattle.search_standings.specs.declared.Shape.{Shape}
use Rattle.standings.specs.Steps.{alone_words}
use Rattle.search_standings.specs.Systems.{word_system}
use Rattle.search_standings.specs.Over.{next_level_over, levels_over, verdict_over}
use Rattle.search_standings.specs.First.{first_alone}
use Rattle.search_standings.proofs.Over.{over_spent, over_refuted, over_proved, over_more}
use Rattle.search_standings.proofs.First.{first_some, first_none, picked_below, first_alone_lem}
use Rattle.search_store.specs.Store.{prefix_at}
use Rattle.search_store.proofs.Held.{holds_none}
use Rattle.search_course.specs.declared.Finding.TheVariants.{Proved, Refuted}
use Rattle.search_grow.specs.Kept.{State, state, Seen, standings, Keeps, Kept, grow, candidates_of, NotedBehind, NotedFrom}
use Rattle.search_course.specs.Answers.{word_at, Running, Answered}
use Rattle.search_grow.proofs.Candidates.{first_candidates, next_candidates}

module _ (k : Shape) (left right : List ℕ) where
  abbrev nowhere : Entry (word_system k left right)
  nowhere = record { standing = []; prefix = nothing }

  -- single atoms, by the lowest of them
  no_atom_alone : (a : ℕ) → a ≡ first_alone left right k.live → 64 ≤ a → alone_words left right k.live ≡ []
  unfolding alone_words
  no_atom_alone a e h =
      first_none 64 (alone_words left right k.live) (picked_below _ k.live)
      (subst (λ x. 64 ≤ x) (e ∙ sym (first_alone_lem k left right)) h)

  atom_alone : (a : ℕ) → a ≡ first_alone left right k.live → a < 64 → (rest : List ℕ) × (alone_words left right k.live ≡ a ∷ rest)
  atom_alone a e h =
      let (rest, f) = first_some 64 (alone_words left right k.live) (subst (λ x. x < 64) (e ∙ sym (first_alone_lem k left right)) h) in
      (rest, f ∙ ap (λ x. x ∷ rest) (first_alone_lem k left right ∙ sym e))

  module _ (ls ms : List Letter) (fuel cap : ℕ) where
    -- the verdict by the single atoms that refute
    abbrev after_alone : List ℕ → Verdict (word_system k left right)
    after_alone [] =
        levels_over (word_system k left right) ms fuel cap (fresh (word_system k left right) [] (first_level (word_system k left right) ls))
        (fresh (word_system k left right) [] (first_level (word_system k left right) ls))
    after_alone (a ∷ as') = refuted (end a)

    by_alone : (as' : List ℕ) → alone_words left right k.live ≡ as' → verdict_over (word_system k left right) ls ms fuel cap ≡ after_alone as'
    unfolding verdict_over
    by_alone as' e = ap after_alone e

    over_alone : (a : ℕ) (rest : List ℕ) → alone_words left right k.live ≡ a ∷ rest
        → verdict_over (word_system k left right) ls ms fuel cap ≡ refuted (end a)
    over_alone a rest e = by_alone (a ∷ rest) e

    over_begin : alone_words left right k.live ≡ []
        → verdict_over (word_system k left right) ls ms fuel cap
        ≡ levels_over (word_system k left right) ms fuel cap (fresh (word_system k left right) [] (first_level (word_system k left right) ls))
        (fresh (word_system k left right) [] (first_level (word_system k left right) ls))
    over_begin e = by_alone [] e

    -- level 0
    pub alone_refuted : (r : List (List ℕ)) (w : List ℕ) (a : ℕ) → a ≡ first_alone left right k.live → a < 64
        → Answered k left right ls ms fuel cap r w (Refuted 0 a)
    unfolding prefix_at
    alone_refuted r w a e h =
        let (rest, f) = atom_alone a e h in ([], 0, over_alone a rest f, holds_none k.ring r w, omega arith, omega arith)

    -- level 1
    pub first_running : (a : ℕ) → a ≡ first_alone left right k.live → 64 ≤ a → cap + 2 ≤ fuel → (r : List (List ℕ)) (w : List ℕ) (t : State)
        → NotedBehind k left right cap (state r w 0) t 0 ls → Running k left right ls ms fuel cap t 0
    first_running a e h enough r w t f =
        record {
          seen = fresh (word_system k left right) [] (first_level (word_system k left right) ls);
          left_over = fuel;
          enough = omega arith;
          kept =
              subst (λ cs. Kept k left right cap t (fresh (word_system k left right) [] cs)) (first_candidates k left right [] ls)
              (f.adds [] (omega arith) [] (inl (omega arith, holds_none k.ring r w)));
          verdict = sym (over_begin (no_atom_alone a e h));
        }

    module _ (s : State) (lo : ℕ) (u : Running k left right ls ms fuel cap s lo) (low : lo ≤ s.count) where
      -- within the allowance the memory keeps the entries
      keeps : s.count ≤ cap → Keeps k left right s u.seen
      keeps c = ⊎_elim (λ q. q.1) (λ q. absurd (omega (arith, q.0))) u.kept

      size : s.count ≤ cap → length u.seen ≡ s.count
      size c = sym (length-map u.seen (λ e. e.standing)) ∙ (keeps c).standings_count

      within : s.count ≤ cap → ltb cap (length u.seen) ≡ false
      within c = le-ltb cap (length u.seen) (omega (arith, size c))

      pub running_spent : cap < s.count → s.count ≤ cap + 1 → verdict_over (word_system k left right) ls ms fuel cap ≡ spent
      running_spent c d = go u.left_over u.enough u.verdict
        where
          over : cap < length u.seen
          over = ⊎_elim (λ q. absurd (omega (arith, q.0))) (λ q. q.1) u.kept

          go : (f : ℕ) → cap + 2 ≤ f + lo
              → levels_over (word_system k left right) ms f cap u.seen (drop lo u.seen) ≡ verdict_over (word_system k left right) ls ms fuel cap
              → verdict_over (word_system k left right) ls ms fuel cap ≡ spent
          go zero e v = absurd (omega arith)
          go (suc f) e v =
              sym v ∙ over_spent (word_system k left right) ms f cap u.seen (drop lo u.seen) (lt-ltb cap (length u.seen) over)

      pub running_refuted : s.count ≤ cap → (place a : ℕ) → place ≤ s.count
          → ((seen : Seen k left right) → Keeps k left right s seen
          → completed (word_system k left right) (drop lo seen) ≡ some (word_at k left right seen place a)) → Answered k left right ls ms fuel cap s.records s.words (Refuted place a)
      running_refuted c place a inside h =
          (u.seen, s.count, go u.left_over u.enough u.verdict, keeps c, inside, c)
        where
          go : (f : ℕ) → cap + 2 ≤ f + lo
              → levels_over (word_system k left right) ms f cap u.seen (drop lo u.seen) ≡ verdict_over (word_system k left right) ls ms fuel cap
              → verdict_over (word_system k left right) ls ms fuel cap ≡ refuted (word_at k left right u.seen place a)
          go zero e v = absurd (omega arith)
          go (suc f) e v =
              sym v
              ∙ over_refuted (word_system k left right) ms f cap u.seen (drop lo u.seen) (word_at k left right u.seen place a) (within c)
              (h u.seen (keeps c))

      pub running_proved : s.count ≤ cap → lo ≡ s.count → Answered k left right ls ms fuel cap s.records s.words (Proved s.count)
      running_proved c z = (u.seen, go u.left_over u.enough u.verdict, keeps c, c)
        where
          none_left : drop lo u.seen ≡ []
          none_left = drop_of_length-le u.seen {i = lo} (omega (arith, size c))

          go : (f : ℕ) → cap + 2 ≤ f + lo
              → levels_over (word_system k left right) ms f cap u.seen (drop lo u.seen) ≡ verdict_over (word_system k left right) ls ms fuel cap
              → verdict_over (word_system k left right) ls ms fuel cap ≡ proved (standings k left right u.seen)
          go zero e v = absurd (omega arith)
          go (suc f) e v =
              sym v ∙ ap (levels_over (word_system k left right) ms (suc f) cap u.seen) none_left
              ∙ over_proved (word_system k left right) ms f cap u.seen (within c)

      pub running_more : s.count ≤ cap → lo < s.count
          → ((seen : Seen k left right) → Keeps k left right s seen → completed (word_system k left right) (drop lo seen) ≡ none) → (t : State)
          → NotedFrom k left right cap s t (lo + 1) (s.count + 1) ms → Running k left right ls ms fuel cap t s.count
      running_more c z h t n = go u.left_over u.enough u.verdict
        where
          next : Seen k left right
          next = fresh (word_system k left right) u.seen (next_level_over (word_system k left right) ms (drop lo u.seen))

          cands : candidates_of k left right u.seen ms (upto (lo + 1) (s.count + 1))
              ≡ next_level_over (word_system k left right) ms (drop lo u.seen)
          cands =
              ap (λ m. candidates_of k left right u.seen ms (upto (lo + 1) (m + 1))) (sym (size c))
              ∙ next_candidates k left right u.seen ms (length u.seen - lo) lo refl

          kept : Kept k left right cap t (u.seen ++ next)
          kept =
              subst (λ seen. Kept k left right cap t (grow k left right seen (next_level_over (word_system k left right) ms (drop lo u.seen))))
              (append-nil u.seen)
              (subst (λ cs. Kept k left right cap t (grow k left right (u.seen ++ []) cs)) cands
              (n.adds u.seen (omega (arith, size c)) []
              (subst (Kept k left right cap s) (sym (append-nil u.seen)) (inl (c, keeps c)))))

          split : drop lo u.seen ≡ get_or u.seen lo nowhere ∷ drop (suc lo) u.seen
          split = drop-cons u.seen lo nowhere (omega (arith, size c))

          more : (f : ℕ) (new : Seen k left right) → new ≡ get_or u.seen lo nowhere ∷ drop (suc lo) u.seen → completed (word_system k left right) new ≡ none
              → levels_over (word_system k left right) ms (suc f) cap u.seen new
              ≡ levels_over (word_system k left right) ms f cap (u.seen ++ fresh (word_system k left right) u.seen (next_level_over (word_system k left right) ms new))
              (fresh (word_system k left right) u.seen (next_level_over (word_system k left right) ms new))
          more f new e d =
              ap (levels_over (word_system k left right) ms (suc f) cap u.seen) e
              ∙ over_more (word_system k left right) ms f cap u.seen (get_or u.seen lo nowhere) (drop (suc lo) u.seen) (within c)
              (ap (completed (word_system k left right)) (sym e) ∙ d)
              ∙ ap (λ l.
              levels_over (word_system k left right) ms f cap (u.seen ++ fresh (word_system k left right) u.seen (next_level_over (word_system k left right) ms l))
              (fresh (word_system k left right) u.seen (next_level_over (word_system k left right) ms l))) (sym e)

          go : (f : ℕ) → cap + 2 ≤ f + lo
              → levels_over (word_system k left right) ms f cap u.seen (drop lo u.seen) ≡ verdict_over (word_system k left right) ls ms fuel cap
              → Running k left right ls ms fuel cap t s.count
          go zero e v = absurd (omega arith)
          go (suc f) e v =
              record {
                seen = u.seen ++ next;
                left_over = f;
                enough = omega arith;
                kept = kept;
                verdict =
                    ap (levels_over (word_system k left right) ms f cap (u.seen ++ next)) (drop_at u.seen next s.count (size c))
                    ∙ sym (more f (drop lo u.seen) split (h u.seen (keeps c))) ∙ v;
              }
