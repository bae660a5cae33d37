-- Which atoms are alike before a relation, and which atom is kept of those that are. (Document 01, "Standings".) At alike atoms the tables
-- of the two sides lead to the same occurrences, so the steps of a standing with either are equal, and only the lowest has to be tried.
-- `proofs/AlikePath.antt` and `proofs/AlikeRing.antt` show that this changes neither the verdict nor which sheets pass; so nothing that
-- is promised rests on these definitions.
-- Assumes nothing.
use Rattle.std.specs.Prelude.{ℕ, suc, Bool, not, ◌&&◌, List, [], ◌∷◌}
use Rattle.std.specs.Bool.{beq}
use Rattle.kat.specs.Expr.{Expr}
use Rattle.kat.specs.Lists.{upto, filter, some, every, member}
use Rattle.kat.specs.Ring.{Prefix, nothing, then}
use Rattle.kat.specs.Tables.{occurrences, reads, null, stop, after}
use Rattle.notation.specs.Bytes.{same}
use Rattle.notation.specs.Sides.{Decision}
use Rattle.verdicts.specs.Standings.{Letter, path_system, ring_system}
use Rattle.verdicts.specs.Search.{Entry}

-- the occurrences of a side ("Standings")
unfoldable pub occurrences_of : Expr → List ℕ
occurrences_of E = upto 1 (suc (occurrences E))

-- 0 and the occurrences of a side ("Standings")
unfoldable pub states_of : Expr → List ℕ
states_of E = upto 0 (suc (occurrences E))

-- the occurrences of a side that read relation o ("Standings")
unfoldable pub readers_of : Expr → ℕ → List ℕ
readers_of E o = filter (λ p. reads E 0 p o) (occurrences_of E)

-- after each of ps, the same occurrences that read r may come next at atom a and at atom b ("Standings")
unfoldable pub same_next : Expr → List ℕ → ℕ → ℕ → ℕ → Bool
same_next E ps r a b = every (λ p. same (after E (p ∷ []) a r) (after E (p ∷ []) b r)) ps

-- the same of ps may be last at atom a and at atom b ("Standings")
unfoldable pub same_last : Expr → List ℕ → ℕ → ℕ → Bool
same_last E ps a b = same (filter (λ p. stop E p a) ps) (filter (λ p. stop E p b) ps)

-- a is live, and no live atom below it is alike ("Standings")
unfoldable pub lowest_alike : (ℕ → ℕ → Bool) → List ℕ → ℕ → Bool
lowest_alike alike live a = member a live && not (some (λ b. member b live && alike a b) (upto 0 a))

-- the last relation of a prefix; 0 where it has none ("Standings")
abbrev pub last_relation : Prefix → ℕ
last_relation nothing = 0
last_relation (then l a r) = r

-- By the next relation r alone: a and b are alike whatever was read last.
module _ (D : Decision) where
  -- alike before r in a path claim ("Standings")
  unfoldable pub alike_path : ℕ → ℕ → ℕ → Bool
  alike_path r a b = same_next D.left (states_of D.left) r a b && same_next D.right (states_of D.right) r a b

  -- the atoms to try before r in a path claim ("Standings")
  unfoldable pub kept_path : ℕ → ℕ → Bool
  kept_path r a = lowest_alike (alike_path r) D.live a

  -- the letters to try in a path claim ("Standings")
  abbrev pub path_letter : Letter → Bool
  path_letter l = kept_path l.relation l.atom

  -- alike before r in a ring claim: Z looks at the single atom, and N at what may be last there ("Standings")
  unfoldable pub alike_ring : ℕ → ℕ → ℕ → Bool
  alike_ring r a b =
      beq (null D.right a) (null D.right b) && same_last D.right (occurrences_of D.right) a b
      && same_next D.left (states_of D.left) r a b && same_next D.right (states_of D.right) r a b

  -- the atoms to try before r in a ring claim, from level 2 on ("Standings")
  unfoldable pub kept_ring : ℕ → ℕ → Bool
  kept_ring r a = lowest_alike (alike_ring r) D.live a

  -- the letters to try in a ring claim, from level 2 on ("Standings")
  abbrev pub ring_letter : Letter → Bool
  ring_letter l = kept_ring l.relation l.atom

-- By the last relation o and the next relation r: more atoms are alike, since only occurrences that read o can have been read last.
module _ (D : Decision) where
  -- alike before r in a path claim, at level 1 ("Standings")
  unfoldable pub alike_path_first : ℕ → ℕ → ℕ → Bool
  alike_path_first r a b = same_next D.left (0 ∷ []) r a b && same_next D.right (0 ∷ []) r a b

  -- the atoms to try before r in a path claim, at level 1 ("Standings")
  unfoldable pub kept_path_first : ℕ → ℕ → Bool
  kept_path_first r a = lowest_alike (alike_path_first r) D.live a

  -- the letters to try in a path claim, at level 1 ("Standings")
  abbrev pub path_letter_first : Letter → Bool
  path_letter_first l = kept_path_first l.relation l.atom

  -- alike before r in a path claim, after o ("Standings")
  unfoldable pub alike_path_after : ℕ → ℕ → ℕ → ℕ → Bool
  alike_path_after o r a b =
      same_next D.left (readers_of D.left o) r a b && same_next D.right (readers_of D.right o) r a b

  -- the atoms to try before r in a path claim, after o ("Standings")
  unfoldable pub kept_path_after : ℕ → ℕ → ℕ → Bool
  kept_path_after o r a = lowest_alike (alike_path_after o r) D.live a

  -- the letters to try in a path claim, after an entry ("Standings")
  abbrev pub path_letter_after : Entry (path_system D) → Letter → Bool
  path_letter_after e l = kept_path_after (last_relation e.prefix) l.relation l.atom

  -- alike before r in a ring claim, after o: a new pair of N begins with 0 ("Standings")
  unfoldable pub alike_ring_after : ℕ → ℕ → ℕ → ℕ → Bool
  alike_ring_after o r a b =
      beq (null D.right a) (null D.right b) && same_last D.right (readers_of D.right o) a b
      && same_next D.left (readers_of D.left o) r a b && same_next D.right (0 ∷ readers_of D.right o) r a b

  -- the atoms to try before r in a ring claim, after o ("Standings")
  unfoldable pub kept_ring_after : ℕ → ℕ → ℕ → Bool
  kept_ring_after o r a = lowest_alike (alike_ring_after o r) D.live a

  -- the letters to try in a ring claim, after an entry ("Standings")
  abbrev pub ring_letter_after : Entry (ring_system D) → Letter → Bool
  ring_letter_after e l = kept_ring_after (last_relation e.prefix) l.relation l.atom
