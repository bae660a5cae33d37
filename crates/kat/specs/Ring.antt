-- Prefixes, rotation and repetition. (Document 01, "Words", ring claims, and "Standings".) A prefix ends with a relation and grows
-- there: it is a list of an atom and a relation each. A word whose first and last atoms are equal is a prefix with its own first
-- atom again; its rotations are the prefix cut in two and put together the other way round, and no atom has to be mended.
-- Assumes nothing.
use Rattle.std.specs.Prelude.{ℕ, zero, suc, ◌≡◌}
use Rattle.kat.specs.Expr.{Expr}
use Rattle.kat.specs.Word.{Word, end, at}
use Rattle.kat.specs.Language.{Lang}

-- a list of an atom and a relation each, growing at its end ("Words")
pub data Prefix : Type 0 where
  nothing : Prefix
  then : Prefix → ℕ → ℕ → Prefix  -- a prefix, an atom, a relation

-- the word that begins with the prefix and goes on with w ("Words")
abbrev pub onto : Prefix → Word → Word
onto nothing w = w
onto (then l a r) w = onto l (at a r w)

-- the word without its last atom, after l ("Words")
abbrev pub body : Prefix → Word → Prefix
body l (end a) = l
body l (at a r w) = body (then l a r) w

-- u and then v ("Words")
abbrev pub join : Prefix → Prefix → Prefix
join u nothing = u
join u (then v a r) = then (join u v) a r

-- n times u ("Words")
abbrev pub times : ℕ → Prefix → Prefix
times zero u = nothing
times (suc n) u = join (times n u) u

-- the first atom of the prefix, or b where it has none ("Words")
abbrev pub start : ℕ → Prefix → ℕ
start b nothing = b
start b (then l a r) = start a l

-- the word of the ring that the prefix makes, n times round; n = 0 is the single atom where it starts ("Words")
abbrev pub round : ℕ → ℕ → Prefix → Word
round b n l = onto (times n l) (end (start b l))

-- some rotation of the ring word, repeated n times, n at least 0, is a word of E. The ring word is the prefix with its first atom
-- again, or the single atom b. ("Words")
abbrev pub Covered : Expr → ℕ → Prefix → Type 0
Covered E b l = (u : Prefix) × (v : Prefix) × (l ≡ join u v) × (n : ℕ) × Lang E (round b n (join v u))
