-- One standing of a level is looked at: where it completes a refuting word, that is the answer; else the next one follows, and behind the last
-- one the letters behind the standings of the level.
-- Assumes nothing.
use Prim.Native.Nat.{ℕ, suc, ◌+◌, ◌≤◌, ◌<◌, ◌^◌}
use native.Mathlib.Omega.{arith}
use mathlib.Core.Path.{◌≡◌, refl, sym, ◌∙◌, ap, subst}
use mathlib.Core.List.{List}
use mathlib.Core.Option.{some, none}
use lib.ListN.{drop}
use Rattle.claims.specs.Search.{completed}
use Rattle.search_standings.specs.declared.Shape.{Shape}
use Rattle.search_standings.specs.Systems.{finals_words, word_system}
use Rattle.search_standings.specs.First.{first_or}
use Rattle.search_store.specs.Store.{standing_at}
use Rattle.search_grow.specs.Kept.{State, state, Seen, Keeps, NotedBehind, NotedFrom}
use Rattle.search_grow.proofs.Letters.{letters_start, weight_small}
use Rattle.search_grow.proofs.Turns.{places_turn}
use Rattle.search_course.specs.declared.Course.{Course}
use Rattle.search_course.specs.Answers.{word_at}
use Rattle.search_course.specs.Turns.{finding_of, turn_weight, first_ones, later_ones, RunsOn, At, Completing}
use Rattle.search_course.proofs.Completed.{hit_here, hit_later, hit_none}
use Rattle.search_course.proofs.Advance.{running_refuted, running_more}
use Rattle.search_course.proofs.Phases.{at_completes, at_grows, at_answered, weight_completes, weight_grows, weight_ends}

module _ (k : Shape) (left right first later : List ℕ) (cap : ℕ) (t : Course) (r : List (List ℕ)) (w : List ℕ)
    (a : At k left right first later cap t r w) (e : t.phase ≡ 1) (f : ℕ)
    (lowest : f ≡ first_or 64 (finals_words k left right (standing_at k.ring r w t.at))) where
  abbrev s : State
  s = state r w t.count

  b : Completing k left right first later cap t s
  b = a.completes e

  -- it completes a word
  abbrev refuted_by : Course
  refuted_by =
      record {
        phase = 4;
        lo = t.lo;
        hi = t.hi;
        at = t.at;
        place = t.place;
        rest = t.rest;
        relation = t.relation;
        count = t.count;
        last = f;
      }

  word_here : f < 64 → (seen : Seen k left right) → Keeps k left right s seen
      → completed (word_system k left right) (drop t.lo seen) ≡ some (word_at k left right seen t.place f)
  word_here h seen q =
      sym (b.passed seen q)
      ∙ hit_here k left right s seen q t.at (omega (arith, b.inside, b.ends)) f lowest h
      ∙ ap (λ p. some (word_at k left right seen p f)) (sym b.place)

  pub completes_word : f < 64 → At k left right first later cap refuted_by r w × (turn_weight refuted_by < turn_weight t)
  unfolding finding_of
  completes_word h = (
    at_answered k left right first later cap refuted_by r w a.ready (omega arith)
        (running_refuted k left right (first_ones k left right first later cap) (later_ones k left right first later cap) (suc (suc cap)) cap s t.lo
        b.running (omega (arith, b.low, b.inside, b.ends)) b.within t.place f (omega (arith, b.place, b.inside, b.ends)) (word_here h)),
    omega (arith, weight_completes t e, weight_ends refuted_by (omega arith)),
  )

  -- it completes none
  module _ (small : k.live < 2 ^ 64) (large : 64 ≤ f) where
    passed_here : (seen : Seen k left right) → Keeps k left right s seen
        → completed (word_system k left right) (drop (t.at + 1) seen) ≡ completed (word_system k left right) (drop t.lo seen)
    passed_here seen q =
        hit_later k left right s seen q t.at (omega (arith, b.inside, b.ends)) small f lowest large ∙ b.passed seen q

    -- the letters behind the standings
    abbrev grown_from : Course
    grown_from =
        record {
          phase = 2;
          lo = t.lo;
          hi = t.hi;
          at = t.lo;
          place = t.lo + 1;
          rest = k.live;
          relation = 0;
          count = t.count;
          last = t.last;
        }

    none_completes : t.place ≡ t.hi → (seen : Seen k left right) → Keeps k left right s seen
        → completed (word_system k left right) (drop t.lo seen) ≡ none
    none_completes z seen q =
        sym (passed_here seen q) ∙ hit_none k left right s seen q (t.at + 1) (omega (arith, b.place, b.ends))

    pub level_grows : t.lo ≤ 4097 → t.at ≤ 4097 → t.place ≡ t.hi
        → At k left right first later cap grown_from r w × (turn_weight grown_from < turn_weight t)
    level_grows lo at z = (
      at_grows k left right first later cap grown_from r w a.ready refl
          (record {
            place = refl;
            low = omega arith;
            inside = omega (arith, b.low, b.inside);
            within = omega (arith, b.ends, b.within);
            below = omega (arith, b.ends);
            relation = omega arith;
            on =
                λ u g v h.
                subst (RunsOn k left right first later cap v) (sym b.ends)
                (running_more k left right (first_ones k left right first later cap) (later_ones k left right first later cap) (suc (suc cap)) cap s t.lo
                b.running (omega (arith, b.low, b.inside, b.ends)) b.within (omega (arith, b.low, b.inside, b.ends)) (none_completes z) v
                (places_turn k left right cap s (t.lo + 1) (t.count + 1) (later_ones k left right first later cap) s u (t.lo + 1)
                (omega (arith, b.low, b.inside, b.ends))
                (subst (NotedBehind k left right cap s u (t.lo + 1)) (sym (letters_start later k.relations k.live small)) g) (λ x y. y) v
                (subst (λ m. NotedFrom k left right cap u v (t.lo + 1 + 1) (m + 1) (later_ones k left right first later cap)) b.ends h)));
          }),
      omega (arith, weight_completes t e, weight_grows grown_from refl, weight_small k.live 0 small),
    )

    -- the next standing
    abbrev next_one : Course
    next_one =
        record {
          phase = t.phase;
          lo = t.lo;
          hi = t.hi;
          at = t.at + 1;
          place = t.place + 1;
          rest = t.rest;
          relation = t.relation;
          count = t.count;
          last = t.last;
        }

    pub next_standing : t.at ≤ 4097 → (t.place ≡ t.hi → ⊥) → At k left right first later cap next_one r w × (turn_weight next_one < turn_weight t)
    next_standing at z = (
      at_completes k left right first later cap next_one r w a.ready e
          (record {
            place = ap (λ n. n + 1) b.place;
            low = omega (arith, b.low);
            inside = omega (arith, b.inside, b.place);
            ends = b.ends;
            within = b.within;
            running = b.running;
            passed = passed_here;
          }),
      omega (arith, weight_completes t e, weight_completes next_one e),
    )
