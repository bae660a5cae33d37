-- The loops over letters, atoms and places. The invariant of each: where what is left is noted from here on, the whole was noted from the
-- start. A turn notes the front of what is left; at the end nothing is left.
-- Assumes nothing.
use Prim.Native.Nat.{ℕ, ◌+◌, ◌≤◌, ◌<◌}
use native.Mathlib.Omega.{arith}
use mathlib.Core.Path.{◌≡◌, sym, ◌∙◌, ap, subst}
use mathlib.Core.List.{List, [], ◌++◌, map-append}
use Rattle.kat.specs.Lists.{upto}
use Rattle.claims.specs.Standings.{Letter}
use Rattle.search_standings.specs.declared.Shape.{Shape}
use Rattle.search_grow.specs.Kept.{State, candidate, candidates, candidates_of, Adds, NotedBehind, NotedFrom}
use Rattle.search_grow.proofs.Adding.{adds_none, adds_join}
use Rattle.search_grow.proofs.Candidates.{places_more, places_none}

module _ (k : Shape) (left right : List ℕ) (cap : ℕ) where
  -- behind one place
  module _ (o : State) (place : ℕ) (whole : List Letter) where
    pub behind_turn : (s t : State) (xs ys rest : List Letter) → rest ≡ xs ++ ys → NotedBehind k left right cap s t place xs
        → ((u : State) → NotedBehind k left right cap s u place rest → NotedBehind k left right cap o u place whole)
        → (u : State) → NotedBehind k left right cap t u place ys → NotedBehind k left right cap o u place whole
    behind_turn s t xs ys rest e f inv u g =
        inv u
        (record {
          adds =
              λ old h.
              subst (Adds k left right cap old s u)
              (sym (ap (candidates k left right old place) e ∙ map-append (candidate k left right old place) xs ys))
              (adds_join k left right cap old s t u (candidates k left right old place xs) (candidates k left right old place ys) (f.adds old h)
              (g.adds old h));
        })

    pub behind_end : (s : State) (rest : List Letter) → rest ≡ []
        → ((u : State) → NotedBehind k left right cap s u place rest → NotedBehind k left right cap o u place whole)
        → NotedBehind k left right cap o s place whole
    behind_end s rest e inv =
        inv s
        (record {
          adds =
              λ old h. subst (λ ls. Adds k left right cap old s s (candidates k left right old place ls)) (sym e) (adds_none k left right cap old s);
        })

  -- behind some places in a row
  module _ (o : State) (lo hi : ℕ) (ls : List Letter) where
    pub places_turn : (s t : State) (i : ℕ) → i < hi → NotedBehind k left right cap s t i ls
        → ((u : State) → NotedFrom k left right cap s u i hi ls → NotedFrom k left right cap o u lo hi ls)
        → (u : State) → NotedFrom k left right cap t u (i + 1) hi ls → NotedFrom k left right cap o u lo hi ls
    places_turn s t i l f inv u g =
        inv u
        (record {
          adds =
              λ old h.
              subst (Adds k left right cap old s u) (sym (places_more k left right old ls i hi l))
              (adds_join k left right cap old s t u (candidates k left right old i ls) (candidates_of k left right old ls (upto (i + 1) hi))
              (f.adds old (omega arith)) (g.adds old h));
        })

    pub places_end : (s : State) (i : ℕ) → hi ≤ i
        → ((u : State) → NotedFrom k left right cap s u i hi ls → NotedFrom k left right cap o u lo hi ls)
        → NotedFrom k left right cap o s lo hi ls
    places_end s i l inv =
        inv s
        (record {
          adds =
              λ old h. subst (Adds k left right cap old s s) (sym (places_none k left right old ls i hi l)) (adds_none k left right cap old s);
        })
