-- The loop over the codes: each code keeps the bounds of the state, and what is left of the codes, performed on the judge now, is all of them
-- performed on the judge at the start.
-- Assumes nothing.
use Prim.Native.Nat.{ℕ, ◌+◌, ◌-◌, ◌≤◌, ◌<◌, min}
use native.Mathlib.Numerals.{add-one}
use native.Mathlib.Omega.{arith}
use mathlib.Core.Path.{◌≡◌, refl, sym, ◌∙◌, ap, ap₂, subst}
use mathlib.Core.Bool.{Bool, true, false, cond, not, ◌&&◌}
use mathlib.Core.Logic.{⊎_elim}
use mathlib.Core.List.{List, [], ◌∷◌}
use lib.Dec.{eqb, ltb, leb}
use lib.ListN.{length, get_or, set, drop, drop_of_length-le}
use lib.Seq.{drop-cons}
use borrow.Author.Tests.{ltb-true}
use Rattle.kat.proofs.Bools.{le_or_lt}
use Rattle.rows.specs.Rows.{joined, composed, reflexive, rounds, diagonal, lowest_pair}
use Rattle.side_items.specs.Items.{Item, paired}
use Rattle.graph_tables.specs.declared.JudgedSoFar.{JudgedSoFar}
use Rattle.graph_tables.specs.Listed.{relation_rows, events_with}
use Rattle.graph_tables.specs.Machine.{Judging, judging, table_at, top, second, waiting_now, pushed, changed_top, merged, operated}
use Rattle.graph_judge.specs.Machine.{broken_if, found_now, kept_let, outside, unclosed, any_pair, any_loop, relation_line, judged_line, line_ended, performed, performed_all}

-- the bounds of a state, in line b at the most
pub record Steady (b : ℕ) (s : JudgedSoFar) : Type 0 where
  pub few_waiting : s.waiting ≤ 68
  pub few_lines : s.line ≤ b

either_steady : (b : ℕ) (c : Bool) (s t : JudgedSoFar) → Steady b s → Steady b t → Steady b (cond c s t)
either_steady b true s t h k = h
either_steady b false s t h k = k

either_judging : (b : ℕ) (c : Bool) (j k : Judging) → Steady b j.state → Steady b k.state → Steady b (cond c j k).state
either_judging b true j k h i = h
either_judging b false j k h i = i

module _ (L : List ℕ) (b : ℕ) (j : Judging) (h : Steady b j.state) where
  on : Steady (b + 1) j.state
  on = record { few_waiting = h.few_waiting; few_lines = omega (arith, h.few_lines) }

  pushed_steady : (t : List ℕ) → Steady (b + 1) (pushed j t).state
  unfolding pushed
  pushed_steady t = go (ltb j.state.waiting 68) refl
    where
      go : (c : Bool) → ltb j.state.waiting 68 ≡ c
          → Steady (b + 1) (cond c (judging (set j.mem (32 + j.state.waiting) t) (waiting_now j.state (j.state.waiting + 1))) j).state
      go true e =
          record {
            few_waiting = omega (arith, ltb-true j.state.waiting 68 e);
            few_lines = omega (arith, h.few_lines);
          }
      go false e = on

  changed_steady : (f : List ℕ → List ℕ) → Steady (b + 1) (changed_top f j).state
  unfolding changed_top
  changed_steady f = on

  merged_steady : (f : List ℕ → List ℕ → List ℕ) → Steady (b + 1) (merged f j).state
  unfolding merged
  merged_steady f = record { few_waiting = omega (arith, h.few_waiting); few_lines = omega (arith, h.few_lines) }

  operated_steady : (k x : ℕ) → Steady (b + 1) (operated L j k x).state
  unfolding operated
  operated_steady k x =
      let n = j.state.events in
      either_judging (b + 1) (eqb k 6) _ _ (pushed_steady (diagonal (events_with L n x)))
      (either_judging (b + 1) (eqb k 7) _ _ (merged_steady joined)
      (either_judging (b + 1) (eqb k 8) _ _ (merged_steady composed)
      (either_judging (b + 1) (eqb k 9) _ _ (changed_steady (λ t. reflexive (rounds t n n) n))
      (either_judging (b + 1) (eqb k 10) _ _ (changed_steady (λ t. rounds t n n))
      (either_judging (b + 1) (eqb k 11) _ _ (changed_steady (λ t. reflexive t n))
      (either_judging (b + 1) (leb 32 k && ltb k 48) _ _ (pushed_steady (relation_rows L (k - 32)))
      (either_judging (b + 1) (leb 64 k && ltb k 96) _ _ (pushed_steady (table_at j.mem (k - 64))) on)))))))

  -- the next line
  next : (l m f : ℕ) → Steady (b + 1) (record { events = j.state.events; waiting = 0; lets = l; line = j.state.line + 1; broken = m; found = f })
  next l m f = record { few_waiting = omega arith; few_lines = omega (arith, h.few_lines) }

  broken_steady : (c : Bool) → Steady (b + 1) (broken_if c j.state)
  unfolding broken_if
  broken_steady c = next j.state.lets (cond (c && eqb j.state.broken 0) j.state.line j.state.broken) j.state.found

  found_steady : (m : ℕ) → Steady (b + 1) (found_now m j.state)
  unfolding found_now
  found_steady m = next j.state.lets j.state.broken m

  kept_steady : Steady (b + 1) (kept_let j).state
  unfolding kept_let
  kept_steady =
      either_judging (b + 1) (ltb j.state.lets 32) _ _ (next (j.state.lets + 1) j.state.broken j.state.found)
      (next j.state.lets j.state.broken j.state.found)

  relation_steady : (k : ℕ) → Steady (b + 1) (relation_line L j k)
  unfolding relation_line
  relation_steady k =
      either_steady (b + 1) (ltb k 144) _ _ (next j.state.lets j.state.broken j.state.found)
      (either_steady (b + 1) (ltb k 160) _ _ (broken_steady (outside L j (k - 144)))
      (either_steady (b + 1) (ltb k 176) _ _ (broken_steady (unclosed L j.state (k - 160)))
      (next j.state.lets j.state.broken j.state.found)))

  line_steady : (k x : ℕ) → Steady (b + 1) (judged_line L j k x)
  unfolding judged_line
  line_steady k x =
      either_steady (b + 1) (eqb k 131) _ _ (broken_steady (not (eqb (events_with L j.state.events x) 0)))
      (either_steady (b + 1) (eqb k 133) _ _ (broken_steady (ltb (any_pair j) 4096))
      (either_steady (b + 1) (eqb k 134) _ _ (broken_steady (ltb (any_loop j) 4096))
      (either_steady (b + 1) (eqb k 135) _ _ on
      (either_steady (b + 1) (eqb k 136) _ _ (found_steady (lowest_pair (second j) (top j) j.state.events))
      (either_steady (b + 1) (eqb k 137) _ _ (found_steady (any_pair j))
      (either_steady (b + 1) (eqb k 138) _ _ (found_steady (any_loop j)) (relation_steady k)))))))

  performed_steady : (i : Item) → Steady (b + 1) (performed L j i).state
  unfolding performed line_ended
  performed_steady i =
      either_judging (b + 1) (ltb i.code 128) _ _ (operated_steady i.code i.arg)
      (either_judging (b + 1) (eqb i.code 130) _ _ kept_steady (line_steady i.code i.arg))

-- what holds in the loop at place i, from s on
pub record Goes (L ks xs : List ℕ) (m : List (List ℕ)) (s : JudgedSoFar) (m' : List (List ℕ)) (t : JudgedSoFar) (i : ℕ) : Type 0 where
  pub place : i ≤ min (length ks) (length xs)
  pub size : length m' ≡ length m
  pub bounds : Steady (4096 + i) t
  pub left : performed_all L (judging m' t) (paired (drop i ks) (drop i xs)) ≡ performed_all L (judging m s) (paired ks xs)

module _ (L ks xs : List ℕ) (m : List (List ℕ)) (s : JudgedSoFar) where
  pub goes_begin : s.waiting ≤ 68 → s.line ≤ 4096 → Goes L ks xs m s m s 0
  goes_begin a b =
      record { place = omega arith; size = refl; bounds = record { few_waiting = a; few_lines = omega arith }; left = refl }

  pub goes_more : (m' : List (List ℕ)) (t : JudgedSoFar) (i : ℕ) (m'' : List (List ℕ)) (u : JudgedSoFar) → Goes L ks xs m s m' t i → length m'' ≡ length m' → i < length ks → i < length xs
      → judging m'' u ≡ performed L (judging m' t) (record { code = get_or ks i 0; arg = get_or xs i 0 }) → Goes L ks xs m s m'' u (i + 1)
  unfolding performed_all paired
  goes_more m' t i m'' u g l h k e =
      record {
        place = omega arith;
        size = l ∙ g.size;
        bounds = steady;
        left = ap₂ (λ j is. performed_all L j is) e (ap₂ paired (ap (λ n. drop n ks) (add-one i)) (ap (λ n. drop n xs) (add-one i)))
            ∙ sym (ap₂ (λ a b. performed_all L (judging m' t) (paired a b)) (drop-cons ks i 0 h) (drop-cons xs i 0 k)) ∙ g.left;
      }
    where
      steady : Steady (4096 + (i + 1)) u
      steady =
          let x : Steady (4096 + i + 1) (judging m'' u).state =
          subst (λ j. Steady (4096 + i + 1) j.state) (sym e)
          (performed_steady L (4096 + i) (judging m' t) g.bounds (record { code = get_or ks i 0; arg = get_or xs i 0 }))
          in
          record { few_waiting = x.few_waiting; few_lines = omega (arith, x.few_lines) }

  -- past the codes, or past what they need, nothing is left
  pub goes_end : (m' : List (List ℕ)) (t : JudgedSoFar) (i : ℕ) → Goes L ks xs m s m' t i → min (length ks) (length xs) ≤ i
      → judging m' t ≡ performed_all L (judging m s) (paired ks xs)
  unfolding performed_all paired
  goes_end m' t i g h = sym (ap (λ is. performed_all L (judging m' t) is) none_left) ∙ g.left
    where
      unneeded : (a : List ℕ) → paired a [] ≡ []
      unneeded [] = refl
      unneeded (k ∷ a) = refl

      none_left : paired (drop i ks) (drop i xs) ≡ []
      none_left =
          ⊎_elim (λ l. ap (λ a. paired a (drop i xs)) (drop_of_length-le ks {i = i} l))
          (λ l. ap (paired (drop i ks)) (drop_of_length-le xs {i = i} (omega arith)) ∙ unneeded (drop i ks))
          (le_or_lt (length ks) i)
