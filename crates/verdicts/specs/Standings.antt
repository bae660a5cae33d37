-- Standings: what is known of a prefix. (Document 01, "Standings".) A kind of standing is a record of what the search and the sheet
-- need of it, so that path and ring claims share both. Steps and completion go by a standing's own fields.
-- Assumes nothing.
use Rattle.std.specs.Prelude.{ℕ, suc, Bool, true, false, not, cond, ◌&&◌, ◌||◌, List, [], ◌∷◌, ◌++◌, map, eqb, get_or}
use Rattle.std.specs.Bool.{beq}
use Rattle.kat.specs.Lists.{upto, filter, some, member, is_empty}
use Rattle.kat.specs.Tables.{occurrences, reads, null, next, stop, after, ends}
use Rattle.kat.specs.Closure.{Table, entry, closure}
use Rattle.notation.specs.Bytes.{same}
use Rattle.notation.specs.Sides.{Decision}

-- an atom and a relation: what a prefix grows by ("Standings")
pub record Letter : Type 0 where
  pub atom : ℕ
  pub relation : ℕ

-- a kind of standing ("Standings")
pub record System : Type 1 where
  pub Standing : Type 0
  pub equal : Standing → Standing → Bool
  pub begin : Letter → Standing  -- of a prefix of one relation
  pub onward : Standing → Letter → Standing  -- of a prefix one relation longer
  pub possible : Standing → Bool  -- some left occurrence is possible
  pub finals : Standing → List ℕ  -- the atoms with which the prefix completes a refuting word, rising
  pub alone : List ℕ  -- the atoms that are refuting words of length 0, rising
  pub live : List ℕ  -- the atoms that are not removed, rising
  pub relations : ℕ  -- how many relations

-- the letters, in the order of words: atoms rising, and relations rising for each ("Standings")
unfoldable pub letters_at : List ℕ → ℕ → List Letter
letters_at rs a = map (λ r. record { atom = a; relation = r }) rs

-- each atom with each relation ("Standings")
unfoldable pub letters_of : List ℕ → List ℕ → List Letter
letters_of [] rs = []
letters_of (a ∷ as') rs = letters_at rs a ++ letters_of as' rs

-- the letters of a system ("Standings")
unfoldable pub letters : System → List Letter
letters S = letters_of S.live (upto 0 S.relations)

-- a single atom refutes where it is a left word and no right word, in a path and in a ring ("Standings")
unfoldable pub refuting_atoms : Decision → List ℕ
refuting_atoms D = filter (λ a. null D.left a && not (null D.right a)) D.live

-- Path: the set P of left occurrences that the prefix may have just read, and the set S of right ones ("Standings")
pub record Path : Type 0 where
  pub P : List ℕ
  pub S : List ℕ

-- one letter on ("Standings")
unfoldable pub path_step : Decision → Path → Letter → Path
path_step D s l =
    record {
      P = after D.left s.P l.atom l.relation;
      S = after D.right s.S l.atom l.relation;
    }

-- it completes with an atom at which a left word may end and no right word ("Standings")
unfoldable pub path_finals : Decision → Path → List ℕ
path_finals D s = filter (λ a. ends D.left s.P a && not (ends D.right s.S a)) D.live

-- the standings of path claims ("Standings")
abbrev pub path_system : Decision → System
path_system D =
    record {
      Standing = Path;
      equal = λ s t. same s.P t.P && same s.S t.S;
      begin = path_step D (record { P = 0 ∷ []; S = 0 ∷ [] });
      onward = path_step D;
      possible = λ s. not (is_empty s.P);
      finals = path_finals D;
      alone = refuting_atoms D;
      live = D.live;
      relations = D.relations;
    }

-- Ring: the first atom; flag Z, an atom before one of its relations is a right word; P; table M, from 0 and from each right
-- occurrence those reached by reading the prefix; table N of pairs (q, p) such that at some atom strictly inside the prefix q is
-- reached from 0 by the part after it, and from p the part before it reaches an occurrence that may end at that atom. M has a row
-- for each p, N a row for each q. ("Standings")
pub record Ring : Type 0 where
  pub first : ℕ
  pub Z : Bool
  pub P : List ℕ
  pub M : List (List ℕ)
  pub N : List (List ℕ)

-- row p of a table; one that it lacks is empty ("Standings")
abbrev pub row : List (List ℕ) → ℕ → List ℕ
row t p = get_or t p []

-- 0 and the right occurrences ("Standings")
unfoldable pub states : Decision → List ℕ
states D = upto 0 (suc (occurrences D.right))

-- right occurrence q may be read next by the letter, where p was read last ("Standings")
unfoldable pub moves : Decision → Letter → ℕ → ℕ → Bool
moves D l p q = reads D.right 0 q l.relation && next D.right p q l.atom

-- the standing of a prefix of one relation ("Standings")
unfoldable pub ring_begin : Decision → Letter → Ring
ring_begin D l =
    record {
      first = l.atom;
      Z = null D.right l.atom;
      P = after D.left (0 ∷ []) l.atom l.relation;
      M = map (λ p. after D.right (p ∷ []) l.atom l.relation) (states D);
      N = map (λ q. []) (states D);
    }

-- row q of N one letter on: q is reached from an occurrence that was paired, or the part after the letter's atom begins with q ("Standings")
unfoldable pub pairs : Decision → Ring → Letter → ℕ → List ℕ
pairs D s l q =
    filter
    (λ p. some (λ o. moves D l o q && member p (row s.N o)) (states D)
    || (moves D l 0 q && ends D.right (row s.M p) l.atom))
    (states D)

-- one letter on ("Standings")
unfoldable pub ring_step : Decision → Ring → Letter → Ring
ring_step D s l =
    record {
      first = s.first;
      Z = s.Z || null D.right l.atom;
      P = after D.left s.P l.atom l.relation;
      M = map (λ o. after D.right o l.atom l.relation) s.M;
      N = map (pairs D s l) (states D);
    }

-- the completed ring is covered: n = 0 by Z; a rotation from the first atom by turns from 0, one or more; one from inside by a pair
-- (q, p), with none or more turns from q to p ("Standings")
unfoldable pub covered : Decision → Ring → Bool
covered D s =
    let turns : Table = closure (suc (occurrences D.right)) (λ p q. member q (row s.M p)) in
    s.Z
    || some (λ q. entry turns 0 q && stop D.right q s.first) (states D)
    || some (λ q. some (λ p. eqb q p || entry turns q p) (row s.N q)) (states D)

-- a ring completes with its first atom, if that is not removed ("Standings")
unfoldable pub ring_finals : Decision → Ring → List ℕ
ring_finals D s =
    cond (member s.first D.live && ends D.left s.P s.first && not (covered D s)) (s.first ∷ []) []

-- two tables are equal ("Standings")
abbrev pub same_rows : List (List ℕ) → List (List ℕ) → Bool
same_rows [] [] = true
same_rows [] (y ∷ ys) = false
same_rows (x ∷ xs) [] = false
same_rows (x ∷ xs) (y ∷ ys) = same x y && same_rows xs ys

-- the standings of ring claims ("Standings")
abbrev pub ring_system : Decision → System
ring_system D =
    record {
      Standing = Ring;
      equal = λ s t.
          eqb s.first t.first && beq s.Z t.Z && same s.P t.P
          && same_rows s.M t.M && same_rows s.N t.N;
      begin = ring_begin D;
      onward = ring_step D;
      possible = λ s. not (is_empty s.P);
      finals = ring_finals D;
      alone = refuting_atoms D;
      live = D.live;
      relations = D.relations;
    }

-- the kind of standing of a path claim (false) and of a ring claim (true) ("Standings")
abbrev pub system_of : Bool → Decision → System
system_of false D = path_system D
system_of true D = ring_system D

-- the kind of standing of a claim ("Standings")
abbrev pub claim_system : Decision → System
claim_system D = system_of D.ring D
