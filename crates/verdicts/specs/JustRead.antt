-- What the fields of a standing say of its prefix, as the text has it. (Document 01, "Standings".) `Standings.antt` computes them one
-- letter at a time. `PathSaid` and `RingSaid` say them by the expressions and their languages alone, with no table of what may come
-- first, last or next: these are the statements to read, and `path_said_by_expressions` and `ring_said_by_expressions` of
-- `proofs/JustRead.antt` show them of every standing. `JustRead` and `RingReads` say the same by ways through the tables, for proofs.
-- Assumes nothing.
use Rattle.std.specs.Prelude.{ℕ, suc, ◌≤◌, ◌<◌, ◌≡◌, ◌↔◌, true, List, [], length}
use Rattle.kat.specs.Expr.{Expr}
use Rattle.kat.specs.Lists.{In}
use Rattle.kat.specs.Word.{end}
use Rattle.kat.specs.Language.{Lang}
use Rattle.kat.specs.Ring.{Prefix, join, start}
use Rattle.kat.specs.Tables.{occurrences}
use Rattle.kat.specs.Way.{Way}
use Rattle.kat.specs.Read.{ReadsTo, Reached, Ended}
use Rattle.kat.specs.Turns.{NonEmpty, AtomIsWord, Pair}
use Rattle.notation.specs.Sides.{Decision}
use Rattle.verdicts.specs.Standings.{Path, Ring, row}

-- the set holds exactly the occurrences that can have read the last relation of the prefix, from the start of the expression ("Standings")
abbrev pub LastRead : Expr → Prefix → List ℕ → Type 0
LastRead E l P = (q : ℕ) → In q P ↔ ReadsTo E 0 l q

-- the set holds occurrences of the expression only ("Standings")
abbrev pub OfSide : Expr → List ℕ → Type 0
OfSide E P = (q : ℕ) → In q P → (1 ≤ q) × (q ≤ occurrences E)

-- an atom before one of the relations of the prefix is a word ("Standings")
abbrev pub AtomRead : Expr → Prefix → Type 0
AtomRead E l = (u : Prefix) × (v : Prefix) × (l ≡ join u v) × NonEmpty v × Lang E (end (start 0 v))

-- at some atom strictly inside the prefix q is reached from 0 by the part after it, and from p the part before it is read to an end at
-- that atom ("Standings")
abbrev pub PairRead : Expr → Prefix → ℕ → ℕ → Type 0
PairRead E l q p =
    (u : Prefix) × (v : Prefix) × (l ≡ join u v) × NonEmpty u × NonEmpty v × Reached E 0 v q × Ended E p u v

module _ (D : Decision) where
  -- the fields of a path standing: P of the left side and S of the right one, each of occurrences of its side ("Standings")
  pub record PathSaid (l : Prefix) (s : Path) : Type 0 where
    pub longer : NonEmpty l
    pub said_p : LastRead D.left l s.P
    pub said_s : LastRead D.right l s.S
    pub side_p : OfSide D.left s.P
    pub side_s : OfSide D.right s.S

  -- the fields of a ring standing: its first atom; P of the left side; Z by the atoms that are right words; row p of M holds what is reached
  -- from p, for 0 and each right occurrence; row q of N holds the p that are paired with q. Nothing stands past the last occurrence,
  -- 0 in no row of M, and nothing in row 0 of N ("Standings")
  pub record RingSaid (l : Prefix) (s : Ring) : Type 0 where
    pub longer : NonEmpty l
    pub first_atom : s.first ≡ start 0 l
    pub said_p : LastRead D.left l s.P
    pub side_p : OfSide D.left s.P
    pub said_z : (s.Z ≡ true) ↔ AtomRead D.right l
    pub rows_m : length s.M ≡ suc (occurrences D.right)
    pub rows_n : length s.N ≡ suc (occurrences D.right)
    pub said_m : (p q : ℕ) → In q (row s.M p) ↔ ((p ≤ occurrences D.right) × Reached D.right p l q)
    pub side_m : (p : ℕ) → OfSide D.right (row s.M p)
    pub past_m : (p : ℕ) → occurrences D.right < p → row s.M p ≡ []
    pub said_n : (q p : ℕ) → In p (row s.N q) ↔ ((p ≤ occurrences D.right) × PairRead D.right l q p)
    pub side_n : (q p : ℕ) → In p (row s.N q) → (1 ≤ q) × (q ≤ occurrences D.right)
    pub past_n : (q : ℕ) → occurrences D.right < q → row s.N q ≡ []
    pub first_n : row s.N 0 ≡ []

-- by ways: the set holds exactly the occurrences on which a way that reads the prefix ends
abbrev pub JustRead : Expr → Prefix → List ℕ → Type 0
JustRead E l P = (q : ℕ) → In q P ↔ Way E 0 l q

-- by ways: the fields of a ring standing
module _ (D : Decision) where
  pub record RingReads (l : Prefix) (s : Ring) : Type 0 where
    pub longer : NonEmpty l
    pub first_atom : s.first ≡ start 0 l
    pub left_read : JustRead D.left l s.P
    pub zero_flag : (s.Z ≡ true) ↔ AtomIsWord D.right 0 l
    pub rows_m : length s.M ≡ suc (occurrences D.right)
    pub rows_n : length s.N ≡ suc (occurrences D.right)
    pub table_m : (p q : ℕ) → p ≤ occurrences D.right → In q (row s.M p) ↔ Way D.right p l q
    pub table_n : (q p : ℕ) → p ≤ occurrences D.right → In p (row s.N q) ↔ Pair D.right 0 l q p
    pub within_n : (q p : ℕ) → In p (row s.N q) → p ≤ occurrences D.right
