-- What the lines of a query say of its relations and atoms, from its codes: where the step of each relation may start and stop, by its
-- `within` lines, wherever they stand; at which atoms it may follow itself, by its `closed` lines; and which atoms a `never` removes.
-- (Document 01, "The query" and "Words"; the codes are those of the crate `codes`.)
-- Assumes nothing.
use Rattle.std.specs.Prelude.{ℕ, ◌+◌, ◌-◌, ◌^◌, Bool, cond, not, ◌&&◌, List, [], ◌∷◌, eqb, leb, ltb, get_or, set}
use Rattle.std.specs.Int.Bits.{bit_and, bit_or}
use Rattle.kat.specs.Lists.{some}
use Rattle.claims.specs.Query.{bit}
use Rattle.bits.specs.Sets.{including}
use Rattle.codes.specs.Codes.{TESTED, NEVER-LINE, WITHIN-LINE, CLOSED-LINE, CLOSED-END, RELATION-SETS}
use Rattle.side_atoms.specs.Atoms.{atoms_of, all_atoms}
use Rattle.memory.specs.Memory.{words}
use Rattle.side_items.specs.Items.{Item}

-- a `within` line of relation r keeps of the sets at r and at 16 + r only what is in x and in y
unfoldable pub narrowed : ℕ → ℕ → ℕ → List ℕ → List ℕ
narrowed k x y ws =
    cond (leb WITHIN-LINE k && ltb k CLOSED-LINE)
    (set (set ws (k - WITHIN-LINE) (bit_and (get_or ws (k - WITHIN-LINE) 0) x)) (k - (WITHIN-LINE - 16)) (bit_and (get_or ws (k - (WITHIN-LINE - 16)) 0) y))
    ws

-- all lines, where x and y are the sets of the last two bracketed tests
unfoldable pub limits_from : ℕ → ℕ → List Item → List ℕ → List ℕ
limits_from x y [] ws = ws
limits_from x y (i ∷ is) ws =
    limits_from (cond (eqb i.code TESTED) y x) (cond (eqb i.code TESTED) i.arg y) is (narrowed i.code x y ws)

-- 32 sets: at r where relation r may start, at 16 + r where it may stop
unfoldable pub limit_sets : List Item → List ℕ
limit_sets is = limits_from 0 0 is (words 32 (λ i. all_atoms))

-- the set s, and the relation whose `closed` line ends with code k, where k is such a code ("The query")
unfoldable pub closed_with : ℕ → ℕ → ℕ
closed_with s k = cond (leb CLOSED-LINE k && ltb k CLOSED-END) (including 64 s (k - CLOSED-LINE)) s

-- the set s, and the relations that the lines with these codes close ("The query")
unfoldable pub closed_set : ℕ → List ℕ → ℕ
closed_set s [] = s
closed_set s (k ∷ ks) = closed_set (closed_with s k) ks

-- relation r is closed
unfoldable pub closed_in : List Item → ℕ → Bool
closed_in is r = some (λ (i : Item). eqb i.code (CLOSED-LINE + r)) is

-- what stands at place i of the sets: at r where relation r may start, at 16 + r where it may stop, at 32 + r where it may follow itself,
-- by a test which relations are closed and the 32 sets of limits
unfoldable pub relation_at : (ℕ → Bool) → List ℕ → ℕ → ℕ
relation_at is_closed ws i =
    cond (ltb i 32) (get_or ws i 0) (cond (is_closed (i - 32)) (bit_and (get_or ws (i - 32) 0) (get_or ws (i - 16) 0)) 0)

unfoldable pub relation_sets : List Item → List ℕ
relation_sets is = words RELATION-SETS (relation_at (closed_in is) (limit_sets is))

-- the atoms that the `never` lines remove
unfoldable pub removed_set : List Item → ℕ
removed_set [] = 0
removed_set (i ∷ is) = bit_or (cond (eqb i.code NEVER-LINE) i.arg 0) (removed_set is)

-- of the atoms of t tests those that are left
unfoldable pub live_set : ℕ → ℕ → ℕ
live_set t removed = atoms_of (λ a. ltb a (2 ^ t) && not (bit a removed))
