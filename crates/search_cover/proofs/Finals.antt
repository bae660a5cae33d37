-- The atom with which a ring standing completes a refuting word, by the two tests that the code makes.
-- Assumes nothing.
use Prim.Native.Nat.{ℕ}
use native.Mathlib.Omega.{arith}
use mathlib.Core.Path.{◌≡◌, refl, sym, ◌∙◌, ap₂}
use mathlib.Core.Bool.{Bool, true, false, cond, not, ◌&&◌}
use mathlib.Core.List.{List, [], ◌∷◌}
use lib.ListN.{get_or, take}
use lib.Seq.{get_or-take}
use Rattle.claims.specs.Query.{bit}
use Rattle.standings.specs.Steps.{ends_set}
use Rattle.search_standings.specs.First.{first_or}
use Rattle.search_standings.specs.RingWords.{ring_covered, ring_finals}

first_of_lem : (b : Bool) (a : ℕ) → first_or 64 (cond b (a ∷ []) []) ≡ cond b a 64
first_of_lem true a = refl
first_of_lem false a = refl

module _ (left right : List ℕ) (n live : ℕ) (u : List ℕ) where
  -- b: the first atom is live and P may end there; c: the completed ring is covered
  pub first_final : (b c : Bool) → b ≡ (bit (get_or u 32 0) live && ends_set left (get_or u 0 0) (get_or u 32 0))
      → c ≡ ring_covered right n (take 34 u) → cond (b && not c) (get_or u 32 0) 64 ≡ first_or 64 (ring_finals left right n live (take 34 u))
  unfolding ring_finals
  first_final b c e f =
      ap₂ (λ x y. cond (x && not y) (get_or u 32 0) 64) e f
      ∙ sym (ap₂ (λ a p. first_or 64 (cond (bit a live && ends_set left p a && not (ring_covered right n (take 34 u))) (a ∷ []) []))
      (get_or-take 34 u 32 0 (omega arith)) (get_or-take 34 u 0 0 (omega arith))
      ∙ first_of_lem (bit (get_or u 32 0) live && ends_set left (get_or u 0 0) (get_or u 32 0) && not (ring_covered right n (take 34 u))) (get_or u 32 0))
