-- What the codes of a test give, read one after another with a stack of sets of atoms. (Document 01, "The query" and "Words".) It is
-- defined for any codes: one that is no code of a test does nothing, what is taken from an empty stack is the empty set, and a full
-- stack takes nothing more. `proofs/Tests.antt` has the theorem that the codes of a T put the set of the atoms satisfying it on top.
-- Assumes nothing.
use Rattle.std.specs.Prelude.{ℕ, ◌-◌, cond, List, [], ◌∷◌, eqb, leb, ltb, length, get_or}
use Rattle.std.specs.Int.Bits.{bit_and, bit_or}
use Rattle.claims.specs.Query.{bit}
use Rattle.codes.specs.Codes.{TRUE, FALSE, OR, AND, NOT, A-TEST, LAST-TEST}
use Rattle.side_atoms.specs.Atoms.{atoms_of, all_atoms}

-- what is on top
unfoldable pub top : List ℕ → ℕ
top [] = 0
top (x ∷ xs) = x

-- what is under it
unfoldable pub under : List ℕ → List ℕ
under [] = []
under (x ∷ xs) = xs

-- a set put on top of a stack with room for n
unfoldable pub push : ℕ → ℕ → List ℕ → List ℕ
push n v st = cond (ltb (length st) n) (v ∷ st) st

-- the first n words of the memory as a stack, the last on top
unfoldable pub stacked : List ℕ → ℕ → List ℕ
stacked mem ℕ.zero = []
stacked mem (ℕ.suc n) = get_or mem n 0 ∷ stacked mem n

-- the set of the atoms at which test i holds ("Words")
unfoldable pub holding : ℕ → ℕ
holding i = atoms_of (bit i)

-- one code: `true`, `false`, `|`, `&`, `!`, or one of the 6 tests, by the numbers of `codes`; the stack has room for n ("The query")
unfoldable pub test_step : ℕ → ℕ → List ℕ → List ℕ
test_step n c st =
    cond (eqb c TRUE) (push n all_atoms st)
    (cond (eqb c FALSE) (push n 0 st)
    (cond (eqb c OR) (push n (bit_or (top (under st)) (top st)) (under (under st)))
    (cond (eqb c AND) (push n (bit_and (top (under st)) (top st)) (under (under st)))
    (cond (eqb c NOT) (push n (all_atoms - top st) (under st))
    (cond (leb A-TEST c) (cond (leb c LAST-TEST) (push n (holding (c - A-TEST)) st) st) st)))))

-- the codes, one after another
unfoldable pub run_test : ℕ → List ℕ → List ℕ → List ℕ
run_test n [] st = st
run_test n (c ∷ cs) st = run_test n cs (test_step n c st)

-- the set that the codes of a test give, with a stack of 4,096 sets: no query has more codes
unfoldable pub test_set : List ℕ → ℕ
test_set cs = top (run_test 4096 cs [])
