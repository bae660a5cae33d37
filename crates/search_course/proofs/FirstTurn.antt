-- The first turn: a single atom refutes, or the letters behind the empty prefix come.
-- Assumes nothing.
use Prim.Native.Nat.{ℕ, suc, ◌≤◌, ◌<◌, ◌^◌}
use native.Mathlib.Omega.{arith}
use mathlib.Core.Path.{◌≡◌, refl, sym, ◌∙◌, ap, subst}
use mathlib.Core.List.{List}
use Rattle.search_standings.specs.declared.Shape.{Shape}
use Rattle.search_standings.specs.First.{first_alone}
use Rattle.search_grow.specs.Masks.{letters_in}
use Rattle.search_grow.specs.Kept.{state, Ready, NotedBehind}
use Rattle.search_grow.proofs.Letters.{letters_start}
use Rattle.search_course.specs.declared.Course.{Course}
use Rattle.search_course.specs.Turns.{finding_of, first_ones, later_ones, At}
use Rattle.search_course.proofs.Advance.{alone_refuted, first_running}
use Rattle.search_course.proofs.Phases.{at_begins, at_answered}

-- the turn before anything is kept
abbrev first_turn : ℕ → ℕ → ℕ → Course
first_turn phase live a =
    record {
      phase = phase;
      lo = 0;
      hi = 0;
      at = 0;
      place = 0;
      rest = live;
      relation = 0;
      count = 0;
      last = a;
    }

module _ (k : Shape) (left right first later : List ℕ) (cap : ℕ) (r : List (List ℕ)) (w : List ℕ) (live : ℕ) (same : live ≡ k.live)
    (ready : Ready k.ring cap (state r w 0)) (a : ℕ) (e : a ≡ first_alone left right live) where
  lowest : a ≡ first_alone left right k.live
  lowest = e ∙ ap (first_alone left right) same

  pub atom_refutes : a < 64 → At k left right first later cap (first_turn 4 live a) r w
  unfolding finding_of
  atom_refutes h =
      at_answered k left right first later cap (first_turn 4 live a) r w ready (omega arith)
      (alone_refuted k left right (first_ones k left right first later cap) (later_ones k left right first later cap) (suc (suc cap)) cap r w a lowest h)

  pub letters_first : 64 ≤ a → live < 2 ^ 64 → At k left right first later cap (first_turn 0 live a) r w
  letters_first h small =
      at_begins k left right first later cap (first_turn 0 live a) r w ready refl
      (record {
        place = refl;
        at = refl;
        hi = refl;
        relation = omega arith;
        on =
            λ u g.
            first_running k left right (first_ones k left right first later cap) (later_ones k left right first later cap) (suc (suc cap)) cap a lowest h
            (omega arith) r w u
            (subst (NotedBehind k left right cap (state r w 0) u 0)
            (sym (letters_start first k.relations live small) ∙ ap (λ x. letters_in first x k.relations) same) g);
      })
