-- Occurrences and leaves of the two sides after expanding, and their limits. (Document 01, "Standings", Limits.) They are counted
-- name by name, each let once, so that lets which stand for enormous expressions are counted and not written out.
-- Assumes nothing.
use Rattle.std.specs.Prelude.{ℕ, ◌+◌, ◌-◌, Bool, ◌&&◌, List, [], ◌∷◌, ◌++◌, leb}
use Rattle.notation.specs.Tree.{Tree, name, tested, union, sequence, star, plus, opt, Claim, includes, empty, irreflexive}
use Rattle.notation.specs.Query.{Query, Bound, lookup, each, names, assumed_empty, assumed_irreflexive}
use Rattle.notation.specs.Expanded.{stands_for, count_expanded}
use Rattle.notation.specs.Width.{width}

-- what an expression counts, where each bracketed test counts t and each name what it is bound to ("Standings")
unfoldable pub count : ℕ → List (Bound ℕ) → Tree → ℕ
count t env (name n) = lookup 0 n env
count t env (tested u) = t
count t env (union e f) = count t env e + count t env f
count t env (sequence e f) = count t env e + count t env f
count t env (star e) = count t env e
count t env (plus e) = count t env e
count t env (opt e) = count t env e

-- the occurrences of an expression after expanding: a relation has those of what it stands for, and a test none ("Standings")
unfoldable pub occurrences_of : Query → Tree → ℕ
occurrences_of q e = count 0 (names q (λ n. count_expanded 0 (stands_for q n)) (count 0)) e

-- the leaves of an expression after expanding: a relation has those of what it stands for, and a test is one ("Standings")
unfoldable pub leaves_of : Query → Tree → ℕ
leaves_of q e = count 1 (names q (λ n. count_expanded 1 (stands_for q n)) (count 1)) e

-- the sum over several expressions ("Standings")
abbrev pub total : (Tree → ℕ) → List Tree → ℕ
total f [] = 0
total f (e ∷ es) = f e + total f es

-- occurrences and leaves of a side ("Standings")
pub record Size : Type 0 where
  pub occurrences : ℕ
  pub leaves : ℕ

-- occurrences and leaves of several expressions together ("Standings")
unfoldable pub size_of : Query → List Tree → Size
size_of q es = record { occurrences = total (occurrences_of q) es; leaves = total (leaves_of q) es }

-- both anys, which stand on every right side, and `extra` leaves besides ("Standings")
unfoldable pub with_anys : ℕ → Size → Size
with_anys extra s = record { occurrences = s.occurrences + 2; leaves = s.leaves + 2 + extra }

-- the left side is the claimed expression ("Standings")
unfoldable pub left_size : Query → Claim → Size
left_size q (includes e f) = size_of q (e ∷ [])
left_size q (empty e) = size_of q (e ∷ [])
left_size q (irreflexive e) = size_of q (e ∷ [])

-- the right side: y, a0 and zero of a path claim (`[false]` of an empty claim is one leaf, and so is zero); a1 and a0 of a ring claim ("Standings")
unfoldable pub right_size : Query → Claim → Size
right_size q (includes e f) = with_anys 1 (size_of q (f ∷ each assumed_empty q))
right_size q (empty e) = with_anys 2 (size_of q (each assumed_empty q))
right_size q (irreflexive e) = with_anys 0 (size_of q (each assumed_irreflexive q ++ each assumed_empty q))

-- 64 occurrences left; right 64 for path claims and 31 for ring claims: a row of a ring standing has their numbers and 0 ("Standings")
unfoldable pub right_limit : Claim → ℕ
right_limit (includes e f) = 64
right_limit (empty e) = 64
right_limit (irreflexive e) = width - 1

-- 512 leaves a side; in a path claim a1 has 512 of its own, and in a ring claim it is part of the right side ("Standings")
unfoldable pub within_limits : Query → Claim → Bool
within_limits q c =
    (leb (left_size q c).occurrences 64 && leb (left_size q c).leaves 512)
    && (leb (right_size q c).occurrences (right_limit c) && leb (right_size q c).leaves 512)
    && leb (size_of q (each assumed_irreflexive q)).leaves 512
