-- The desk's cases C1 to C12 as one table and one statement, from the bytes of the queries through the search call to the printed line
-- with its last byte, and the 61 bytes of C1's sheet in the buffer. (Document 01, "The desk's cases".) All of it holds by computation over the definitions. Behind the table stand further
-- rows, each of which tells apart a way to go wrong that C1 to C12 leave open.
-- Assumes nothing.
use Prim.Native.Nat.{ℕ}
use Prim.Native.String.{String}
use mathlib.Core.Path.{◌≡◌, refl}
use mathlib.Core.List.{List, [], ◌∷◌, map}
use lib.ListN.{length}
use Rattle.claims.specs.Printed.{program_allowance}
use Rattle.claims.proofs.Evaluate.{everything}
use Rattle.claims.proofs.CasesOfLines.{Case, prints, says}
use Rattle.claims.proofs.CasesOfBytes.{leaves}

-- the table: the allowance by the kind of the claim, the query, the line
abbrev pub desk : List Case
desk =
    -- C1
    record { allowance = program_allowance; query = "test R\ntest W\nrel rf\nrel co\nnever R & W\nwithin rf [W] [R]\nwithin co [W] [W]\nclosed co\nlet eco = (rf | co)+\nclaim include eco in rf | co;rf?\n"; line = "proved 3\n" }
    -- C2: no `never`
    ∷ record { allowance = program_allowance; query = "test R\ntest W\nrel rf\nrel co\nwithin rf [W] [R]\nwithin co [W] [W]\nclosed co\nlet eco = (rf | co)+\nclaim include eco in rf | co;rf?\n"; line = "refuted 2 0 3 0 1\n" }
    -- C3: no `closed`
    ∷ record { allowance = program_allowance; query = "test R\ntest W\nrel rf\nrel co\nnever R & W\nwithin rf [W] [R]\nwithin co [W] [W]\nlet eco = (rf | co)+\nclaim include eco in rf | co;rf?\n"; line = "refuted 2 1 2 1 2\n" }
    -- C4: C1 with allowance 2, and with 3
    ∷ record { allowance = λ k. 2; query = "test R\ntest W\nrel rf\nrel co\nnever R & W\nwithin rf [W] [R]\nwithin co [W] [W]\nclosed co\nlet eco = (rf | co)+\nclaim include eco in rf | co;rf?\n"; line = "refusal 10 line 0\n" }
    ∷ record { allowance = λ k. 3; query = "test R\ntest W\nrel rf\nrel co\nnever R & W\nwithin rf [W] [R]\nwithin co [W] [W]\nclosed co\nlet eco = (rf | co)+\nclaim include eco in rf | co;rf?\n"; line = "proved 3\n" }
    -- C5
    ∷ record { allowance = program_allowance; query = "rel r\nassume irreflexive r;r\nclaim irreflexive r\n"; line = "proved 1\n" }
    -- C6: the reverse
    ∷ record { allowance = program_allowance; query = "rel r\nassume irreflexive r\nclaim irreflexive r;r\n"; line = "refuted 0 0 0 0 0\n" }
    -- C7
    ∷ record { allowance = program_allowance; query = "rel a\nrel b\nassume irreflexive a;b\nclaim irreflexive b;a\n"; line = "proved 2\n" }
    -- C8
    ∷ record { allowance = program_allowance; query = "test T\nrel r\nassume irreflexive [T]\nclaim irreflexive r;[T];r\n"; line = "proved 4\n" }
    -- C9
    ∷ record { allowance = program_allowance; query = "rel r\nassume irreflexive r\nclaim empty r\n"; line = "refuted 0 0 0\n" }
    -- C10
    ∷ record { allowance = program_allowance; query = "claim irreflexive [true]\n"; line = "refuted 0\n" }
    -- C11: C10 after `never true`
    ∷ record { allowance = program_allowance; query = "never true\nclaim irreflexive [true]\n"; line = "proved 0\n" }
    -- C12: no bytes
    ∷ record { allowance = program_allowance; query = ""; line = "refusal 7 line 0\n" }
    ∷ []

-- the sheet of C1: proved, and the standings P = {1}, S = {1, 4}; {2}, {2, 4}; {1}, {3, 4}
abbrev pub sheet_of_c1 : List ℕ
sheet_of_c1 =
    1 ∷ 0 ∷ 1 ∷ 1 ∷
    3 ∷ 0 ∷ 16 ∷ 0 ∷ 0 ∷ 0 ∷ 0 ∷ 0 ∷ 0 ∷ 0 ∷ 1 ∷ 0 ∷ 0 ∷ 0 ∷ 0 ∷ 0 ∷ 0 ∷ 0 ∷ 9 ∷
    3 ∷ 0 ∷ 16 ∷ 0 ∷ 0 ∷ 0 ∷ 0 ∷ 0 ∷ 0 ∷ 0 ∷ 2 ∷ 0 ∷ 0 ∷ 0 ∷ 0 ∷ 0 ∷ 0 ∷ 0 ∷ 10 ∷
    3 ∷ 0 ∷ 16 ∷ 0 ∷ 0 ∷ 0 ∷ 0 ∷ 0 ∷ 0 ∷ 0 ∷ 1 ∷ 0 ∷ 0 ∷ 0 ∷ 0 ∷ 0 ∷ 0 ∷ 0 ∷ 12 ∷ []

abbrev pub C1 : String
C1 = "test R\ntest W\nrel rf\nrel co\nnever R & W\nwithin rf [W] [R]\nwithin co [W] [W]\nclosed co\nlet eco = (rf | co)+\nclaim include eco in rf | co;rf?\n"

pub desk_cases : (map prints desk ≡ map says desk) × (leaves 61 C1 ≡ sheet_of_c1) × (length sheet_of_c1 ≡ 61)
unfolding prints leaves everything
desk_cases = (refl, refl, refl)

-- rows that tell apart what the table does not
abbrev pub beside : List Case
beside =
    -- assumed emptiness over more than one turn of a ring: r;r lies in the ring of one r, twice round
    record { allowance = program_allowance; query = "rel r\nassume empty r;r\nclaim irreflexive r\n"; line = "proved 1\n" }
    -- the allowance is tested before the refuting word of the same length
    ∷ record { allowance = λ k. 1; query = "rel a\nrel b\nclaim empty a|b\n"; line = "refusal 10 line 0\n" }
    ∷ []

pub cases_beside : map prints beside ≡ map says beside
unfolding prints everything
cases_beside = refl
