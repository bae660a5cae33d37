-- Guarded words: atom, relation, atom, .., atom. (Document 01, "Words".)
-- Assumes nothing.
use Rattle.std.specs.Prelude.{ℕ, suc, List, [], ◌∷◌}

-- a guarded word ("Words")
pub data Word : Type 0 where
  end : ℕ → Word  -- a single atom
  at : ℕ → ℕ → Word → Word  -- an atom, a relation, and what comes after

-- the first atom ("Words")
abbrev pub first : Word → ℕ
first (end a) = a
first (at a r w) = a

-- the last atom ("Words")
abbrev pub last : Word → ℕ
last (end a) = a
last (at a r w) = last w

-- the length counts relations ("Words")
abbrev pub size : Word → ℕ
size (end a) = 0
size (at a r w) = suc (size w)

-- the word as a list of numbers ("Words")
abbrev pub numbers : Word → List ℕ
numbers (end a) = a ∷ []
numbers (at a r w) = a ∷ r ∷ numbers w
