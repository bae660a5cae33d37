-- What completes a ring, by the tests that the code makes: b, the first atom is live and P may end there; c, the completed ring is covered.
-- Assumes nothing.
use Prim.Native.Nat.{ℕ}
use mathlib.Core.Path.{◌≡◌, refl, sym, ◌∙◌, ap, ap₂}
use mathlib.Core.Bool.{Bool, true, false, cond, not, ◌&&◌, ◌||◌}
use mathlib.Core.List.{List, [], ◌∷◌}
use borrow.Author.Tests.{eq-eqb, ne_eqb}
use Rattle.kat.specs.Lists.{is_empty, member}
use Rattle.claims.specs.Query.{bit}
use Rattle.standings.specs.Steps.{ends_set}
use Rattle.sheet_standings.specs.Layout.{wide}
use Rattle.sheet_standings.specs.RingCells.{first_in, ring_covered, ring_finals}

one_or_none : (b : Bool) (a : ℕ) → b ≡ not (is_empty (cond b (a ∷ []) []))
one_or_none true a = refl
one_or_none false a = refl

same_member : (b : Bool) (a f : ℕ) → a ≡ f → not (is_empty (cond b (f ∷ []) [])) ≡ member a (cond b (f ∷ []) [])
same_member true a f e = sym (ap (λ x. x || false) (eq-eqb a f e))
same_member false a f e = refl

other_member : (b : Bool) (a f : ℕ) → (a ≡ f → ⊥) → false ≡ member a (cond b (f ∷ []) [])
other_member true a f e = sym (ap (λ x. x || false) (ne_eqb a f e))
other_member false a f e = refl

module _ (left right : List ℕ) (n live : ℕ) (s : List ℕ) where
  pub ring_completes : (b c : Bool) → b ≡ (bit (first_in s) live && ends_set left (wide s 1) (first_in s)) → c ≡ ring_covered right n s
      → (b && not c) ≡ not (is_empty (ring_finals left right n live s))
  unfolding ring_finals
  ring_completes b c e f =
      ap₂ (λ x y. x && not y) e f
      ∙ one_or_none (bit (first_in s) live && ends_set left (wide s 1) (first_in s) && not (ring_covered right n s)) (first_in s)

  pub with_first : (a : ℕ) → a ≡ first_in s → not (is_empty (ring_finals left right n live s)) ≡ member a (ring_finals left right n live s)
  unfolding ring_finals
  with_first a e =
      same_member (bit (first_in s) live && ends_set left (wide s 1) (first_in s) && not (ring_covered right n s)) a (first_in s) e

  pub with_other : (a : ℕ) → (a ≡ first_in s → ⊥) → false ≡ member a (ring_finals left right n live s)
  unfolding ring_finals
  with_other a e =
      other_member (bit (first_in s) live && ends_set left (wide s 1) (first_in s) && not (ring_covered right n s)) a (first_in s) e
