-- The letters that are left to try, from a letter on: one that is not tried is passed over, one that is tried stands first, and where an atom has
-- no relation left, the next atom comes.
-- Assumes nothing.
use Prim.Native.Nat.{ℕ, zero, suc, ◌+◌, ◌-◌, ◌≤◌, ◌<◌, ◌^◌}
use native.Mathlib.Omega.{arith}
use mathlib.Core.Path.{◌≡◌, refl, sym, ◌∙◌, ap}
use mathlib.Core.Bool.{false, cond}
use mathlib.Core.List.{List, [], ◌∷◌, ◌++◌}
use lib.Bits.{bit_and}
use lib.Count.{ones, count_trailing_zeros, ones-le}
use borrow.Author.Tests.{eq-eqb, ne_eqb}
use Rattle.kat.specs.Lists.{upto, filter}
use Rattle.claims.specs.Standings.{letters_at}
use Rattle.bits.proofs.Lowest.{Lowest, lowest}
use Rattle.search_grow.specs.Masks.{tried, letters_in, TriedAt, relations_left, letters_left, letter_weight}
use Rattle.search_grow.proofs.Candidates.{letter_of, is_tried, not_tried, rest_more, rest_none, atoms_more, atoms_none}

module _ (masks : List ℕ) (relations : ℕ) where
  -- one atom
  pub relation_skip : (a r : ℕ) → r < relations → tried masks (letter_of a r) ≡ false
      → relations_left masks relations a r ≡ relations_left masks relations a (r + 1)
  unfolding relations_left
  relation_skip a r h e =
      rest_more masks relations a r h
      ∙ ap (λ ls. ls ++ filter (tried masks) (letters_at (upto (r + 1) relations) a)) (not_tried masks (letter_of a r) e)

  pub relation_take : (a r : ℕ) → r < relations → TriedAt masks a r
      → relations_left masks relations a r ≡ letter_of a r ∷ relations_left masks relations a (r + 1)
  unfolding relations_left
  relation_take a r h e =
      rest_more masks relations a r h
      ∙ ap (λ ls. ls ++ filter (tried masks) (letters_at (upto (r + 1) relations) a)) (is_tried masks (letter_of a r) e)

  pub relations_none : (a r : ℕ) → relations ≤ r → relations_left masks relations a r ≡ []
  unfolding relations_left
  relations_none a r h = rest_none masks relations a r h

  -- some atoms
  pub letters_none : (atoms r : ℕ) → atoms ≡ 0 → letters_left masks relations atoms r ≡ []
  unfolding letters_left
  letters_none atoms r e =
      ap
      (λ b. cond b [] (relations_left masks relations (count_trailing_zeros 64 atoms) r ++ letters_in masks (bit_and atoms (atoms - 1)) relations))
      (eq-eqb atoms 0 e)

  letters_here : (atoms r : ℕ) → (atoms ≡ 0 → ⊥)
      → letters_left masks relations atoms r
      ≡ relations_left masks relations (count_trailing_zeros 64 atoms) r ++ letters_in masks (bit_and atoms (atoms - 1)) relations
  unfolding letters_left
  letters_here atoms r e =
      ap
      (λ b. cond b [] (relations_left masks relations (count_trailing_zeros 64 atoms) r ++ letters_in masks (bit_and atoms (atoms - 1)) relations))
      (ne_eqb atoms 0 e)

  letters_all : (atoms : ℕ) → Lowest 64 atoms
      → letters_in masks atoms relations
      ≡ relations_left masks relations (count_trailing_zeros 64 atoms) 0 ++ letters_in masks (bit_and atoms (atoms - 1)) relations
  unfolding letters_in relations_left
  letters_all atoms l = atoms_more masks relations l

  letters_empty : (atoms : ℕ) → atoms ≡ 0 → letters_in masks atoms relations ≡ []
  unfolding letters_in
  letters_empty atoms e = atoms_none masks relations atoms e

  -- all letters of some atoms are left at the start
  pub letters_start : (atoms : ℕ) → atoms < 2 ^ 64 → letters_in masks atoms relations ≡ letters_left masks relations atoms 0
  letters_start zero h = letters_empty zero refl ∙ sym (letters_none zero 0 refl)
  letters_start (suc m) h =
      letters_all (suc m) (lowest 64 (suc m) h (λ e. omega arith)) ∙ sym (letters_here (suc m) 0 (λ e. omega arith))

  -- from one relation of the lowest atom to another
  pub letters_same : (atoms r x : ℕ) → (atoms ≡ 0 → ⊥)
      → relations_left masks relations (count_trailing_zeros 64 atoms) r ≡ relations_left masks relations (count_trailing_zeros 64 atoms) x
      → letters_left masks relations atoms r ≡ letters_left masks relations atoms x
  letters_same atoms r x z e =
      letters_here atoms r z ∙ ap (λ ls. ls ++ letters_in masks (bit_and atoms (atoms - 1)) relations) e ∙ sym (letters_here atoms x z)

  -- to the next atom
  pub letters_next : (atoms r : ℕ) → atoms < 2 ^ 64 → (atoms ≡ 0 → ⊥) → relations_left masks relations (count_trailing_zeros 64 atoms) r ≡ []
      → letters_left masks relations atoms r ≡ letters_left masks relations (bit_and atoms (atoms - 1)) 0
  letters_next atoms r small z h =
      letters_here atoms r z
      ∙ ap (λ ls. ls ++ letters_in masks (bit_and atoms (atoms - 1)) relations) h
      ∙ letters_start (bit_and atoms (atoms - 1)) (omega (arith, (lowest 64 atoms small z).less))

  -- the first letter
  pub letters_take : (atoms r : ℕ) → (atoms ≡ 0 → ⊥) → r < relations → TriedAt masks (count_trailing_zeros 64 atoms) r
      → letters_left masks relations atoms r ≡ letter_of (count_trailing_zeros 64 atoms) r ∷ letters_left masks relations atoms (r + 1)
  letters_take atoms r z h e =
      letters_here atoms r z
      ∙ ap (λ ls. ls ++ letters_in masks (bit_and atoms (atoms - 1)) relations) (relation_take (count_trailing_zeros 64 atoms) r h e)
      ∙ ap (λ ls. letter_of (count_trailing_zeros 64 atoms) r ∷ ls) (sym (letters_here atoms (r + 1) z))

-- the number that falls
pub weight_next : (atoms r x : ℕ) → atoms < 2 ^ 64 → (atoms ≡ 0 → ⊥) → letter_weight atoms x ≤ letter_weight atoms r
    → letter_weight (bit_and atoms (atoms - 1)) 0 ≤ letter_weight atoms r
unfolding letter_weight
weight_next atoms r x small z h = omega (arith, h, (lowest 64 atoms small z).count)

pub weight_more : (atoms r x : ℕ) → r ≤ x → letter_weight atoms x ≤ letter_weight atoms r
unfolding letter_weight
weight_more atoms r x h = omega arith

pub weight_less : (atoms r : ℕ) → r < 16 → letter_weight atoms (r + 1) < letter_weight atoms r
unfolding letter_weight
weight_less atoms r h = omega arith

pub weight_small : (atoms r : ℕ) → atoms < 2 ^ 64 → letter_weight atoms r ≤ 1104
unfolding letter_weight
weight_small atoms r h = omega (arith, ones-le 64 atoms h)
