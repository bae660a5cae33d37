-- Every standing of a prefix is well-shaped: a sheet can hold it. Its sets are what passes a test among the occurrences of a side, so
-- they rise within them. Row 0 of a ring's table N is empty because no occurrence has the number 0.
-- Assumes nothing.
use Prim.Native.Nat.{ℕ, suc, ◌-◌, ◌<◌}
use native.Mathlib.Omega.{arith}
use mathlib.Core.Path.{◌≡◌, sym, ◌∙◌, subst}
use mathlib.Core.Bool.{true, false, ◌&&◌, ◌||◌}
use mathlib.Core.List.{List, [], ◌∷◌, map}
use lib.ListN.{length, length-map, get_or-map}
use Rattle.kat.specs.Expr.{Expr}
use Rattle.kat.specs.Lists.{In, member, some}
use Rattle.kat.specs.Tables.{occurrences, reads, next, after, ends}
use Rattle.kat.specs.Ring.{Prefix}
use Rattle.kat.proofs.Bools.{false_of_not}
use Rattle.kat.proofs.Sets.{map_in, some_none, filter_none, upto_length}
use Rattle.kat.proofs.Ranges.{reads_range}
use Rattle.notation.specs.Sides.{Decision}
use Rattle.verdicts.specs.Standings.{Letter, Path, path_step, path_system, Ring, row, states, moves, ring_begin, pairs, ring_step, ring_system}
use Rattle.verdicts.specs.Verdicts.{StandingOf, begun, grown}
use Rattle.claims.specs.SheetWriting.{RisingWithin, PathShaped, RingShaped}
use Rattle.claims.proofs.SetBytes.{filter_rising}

-- the standings of path claims
after_rising : (E : Expr) (P : List ℕ) (a r : ℕ) → RisingWithin 1 (suc (occurrences E)) (after E P a r)
unfolding after
after_rising E P a r =
    filter_rising (λ q. reads E 0 q r && some (λ p. next E p q a) P) 1 (suc (occurrences E)) (omega arith)

pub path_step_shaped : (D : Decision) (s : Path) (l : Letter) → PathShaped D (path_step D s l)
unfolding path_step
path_step_shaped D s l =
    record {
      left = after_rising D.left s.P l.atom l.relation;
      right = after_rising D.right s.S l.atom l.relation;
    }

pub path_standings_shaped : (D : Decision) {l : Prefix} {s : Path} → StandingOf (path_system D) l s → PathShaped D s
path_standings_shaped D (begun h k) = path_step_shaped D _ _
path_standings_shaped D (grown p h k) = path_step_shaped D _ _

-- the standings of ring claims
states_length : (D : Decision) → length (states D) ≡ suc (occurrences D.right)
unfolding states
states_length D = upto_length (suc (occurrences D.right))

-- each row of a table that is made over the states has a property that each of them gives it
rows_of_states : (D : Decision) (f : ℕ → List ℕ) (lo hi : ℕ) → ((q : ℕ) → RisingWithin lo hi (f q))
    → (x : List ℕ) → In x (map f (states D)) → RisingWithin lo hi x
rows_of_states D f lo hi h x i = let (q, j, e) = map_in f (states D) i in subst (RisingWithin lo hi) (sym e) (h q)

pub ring_begin_shaped : (D : Decision) (l : Letter) → l.atom < D.atoms → RingShaped D (ring_begin D l)
unfolding ring_begin
ring_begin_shaped D l h =
    record {
      first = h;
      left = after_rising D.left (0 ∷ []) l.atom l.relation;
      size_m = length-map (states D) (λ p. after D.right (p ∷ []) l.atom l.relation) ∙ states_length D;
      rows_m = rows_of_states D (λ p. after D.right (p ∷ []) l.atom l.relation) 1 (suc (occurrences D.right))
          (λ p. after_rising D.right (p ∷ []) l.atom l.relation);
      size_n = length-map (states D) (λ q. []) ∙ states_length D;
      rows_n = rows_of_states D (λ q. []) 0 (suc (occurrences D.right)) (λ q. tt);
      empty_n = get_or-map (λ q. []) (states D) 0 0;
    }

-- no occurrence has the number 0, so nothing leads to it
moves_none : (D : Decision) (l : Letter) (o : ℕ) → moves D l o 0 ≡ false
unfolding moves
moves_none D l o = rw (false_of_not (reads D.right 0 0 l.relation) (λ e. let (h, k) = reads_range D.right 0 0 l.relation e in omega arith))

pairs_none : (D : Decision) (s : Ring) (l : Letter) → pairs D s l 0 ≡ []
unfolding pairs
pairs_none D s l =
    filter_none
    (λ p. some (λ o. moves D l o 0 && member p (row s.N o)) (states D) || (moves D l 0 0 && ends D.right (row s.M p) l.atom))
    (states D)
    (λ p. rw (some_none (λ o. moves D l o 0 && member p (row s.N o)) (states D) (λ o. rw (moves_none D l o)), moves_none D l 0))

pairs_rising : (D : Decision) (s : Ring) (l : Letter) (q : ℕ) → RisingWithin 0 (suc (occurrences D.right)) (pairs D s l q)
unfolding pairs states
pairs_rising D s l q =
    filter_rising
    (λ p. some (λ o. moves D l o q && member p (row s.N o)) (states D) || (moves D l 0 q && ends D.right (row s.M p) l.atom))
    0 (suc (occurrences D.right)) (omega arith)

row_zero : (D : Decision) (f : ℕ → List ℕ) → row (map f (states D)) 0 ≡ f 0
unfolding states
row_zero D f = let e : suc (occurrences D.right) - 0 ≡ suc (occurrences D.right) = omega arith in rw e

pub ring_step_shaped : (D : Decision) (s : Ring) (l : Letter) → RingShaped D s → RingShaped D (ring_step D s l)
unfolding ring_step
ring_step_shaped D s l h =
    record {
      first = h.first;
      left = after_rising D.left s.P l.atom l.relation;
      size_m = length-map s.M (λ o. after D.right o l.atom l.relation) ∙ h.size_m;
      rows_m = λ x i.
          let (o, j, e) = map_in (λ o. after D.right o l.atom l.relation) s.M i in
          subst (RisingWithin 1 (suc (occurrences D.right))) (sym e) (after_rising D.right o l.atom l.relation);
      size_n = length-map (states D) (pairs D s l) ∙ states_length D;
      rows_n = rows_of_states D (pairs D s l) 0 (suc (occurrences D.right)) (pairs_rising D s l);
      empty_n = row_zero D (pairs D s l) ∙ pairs_none D s l;
    }

pub ring_standings_shaped : (D : Decision) → ((a : ℕ) → member a D.live ≡ true → a < D.atoms)
    → {l : Prefix} {s : Ring} → StandingOf (ring_system D) l s → RingShaped D s
ring_standings_shaped D live (begun h k) = ring_begin_shaped D _ (live _ h)
ring_standings_shaped D live (grown p h k) = ring_step_shaped D _ _ (ring_standings_shaped D live p)
