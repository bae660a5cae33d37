-- A standing by the kind of the claim: what a path or a ring standing gives is what the kind gives. A standing has 2 words, or 34.
-- Assumes nothing.
use Prim.Native.Nat.{ℕ}
use mathlib.Core.Path.{◌≡◌, refl, sym}
use mathlib.Core.Bool.{Bool, true, false}
use mathlib.Core.List.{List}
use lib.ListN.{length, take}
use Rattle.claims.specs.Standings.{Letter}
use Rattle.search_standings.specs.declared.Shape.{Shape}
use Rattle.search_standings.specs.Systems.{width, begin_words, onward_words, finals_words}
use Rattle.search_standings.specs.PathWords.{path_begin, path_onward, path_finals}
use Rattle.search_standings.specs.RingWords.{ring_begin, ring_onward, ring_finals}
use Rattle.search_standings.specs.First.{first_or}
use Rattle.search_standings.proofs.RingLayout.{ring_length}

module _ (k : Shape) (left right : List ℕ) where
  pub begin_path : k.ring ≡ false → (to : List ℕ) (l : Letter) → take 2 to ≡ path_begin left right l
      → take (width k.ring) to ≡ begin_words k left right l
  unfolding width begin_words
  begin_path e to l h = rw e h

  pub begin_ring : k.ring ≡ true → (to : List ℕ) (l : Letter) → take 34 to ≡ ring_begin left right k.right l
      → take (width k.ring) to ≡ begin_words k left right l
  unfolding width begin_words
  begin_ring e to l h = rw e h

  pub onward_path : k.ring ≡ false → (to from : List ℕ) (l : Letter) → take 2 to ≡ path_onward left right (take 2 from) l
      → take (width k.ring) to ≡ onward_words k left right (take (width k.ring) from) l
  unfolding width onward_words
  onward_path e to from l h = rw e h

  pub onward_ring : k.ring ≡ true → (to from : List ℕ) (l : Letter) → take 34 to ≡ ring_onward left right (take 34 from) l
      → take (width k.ring) to ≡ onward_words k left right (take (width k.ring) from) l
  unfolding width onward_words
  onward_ring e to from l h = rw e h

  pub final_path : k.ring ≡ false → (a : ℕ) (s : List ℕ) → a ≡ first_or 64 (path_finals left right k.live (take 2 s))
      → a ≡ first_or 64 (finals_words k left right (take (width k.ring) s))
  unfolding width finals_words
  final_path e a s h = rw e h

  pub final_ring : k.ring ≡ true → (a : ℕ) (s : List ℕ) → a ≡ first_or 64 (ring_finals left right k.right k.live (take 34 s))
      → a ≡ first_or 64 (finals_words k left right (take (width k.ring) s))
  unfolding width finals_words
  final_ring e a s h = rw e h

  -- how many words
  begin_count : (ring : Bool) → ring ≡ k.ring → (l : Letter) → length (begin_words k left right l) ≡ width ring
  unfolding width begin_words path_begin ring_begin
  begin_count false e l = rw (sym e) refl
  begin_count true e l = rw (sym e) (ring_length _ _ _ _)

  pub begin_length : (l : Letter) → length (begin_words k left right l) ≡ width k.ring
  begin_length l = begin_count k.ring refl l

  onward_count : (ring : Bool) → ring ≡ k.ring → (s : List ℕ) (l : Letter) → length (onward_words k left right s l) ≡ width ring
  unfolding width onward_words path_onward ring_onward
  onward_count false e s l = rw (sym e) refl
  onward_count true e s l = rw (sym e) (ring_length _ _ _ _)

  pub onward_length : (s : List ℕ) (l : Letter) → length (onward_words k left right s l) ≡ width k.ring
  onward_length s l = onward_count k.ring refl s l
