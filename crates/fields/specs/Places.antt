-- What stands at a place of the bytes: a field, as the reader answers it, and a number of four bytes. (Document 01, "Sheet and graph bytes".)
-- Assumes nothing.
use Rattle.std.specs.Prelude.{ℕ, ◌+◌, ◌*◌, ◌-◌, ◌≤◌, ◌≡◌, cond, Option, Some, None, List, leb, length, take, drop}
use Rattle.claims.specs.Fields.{Field as FieldRead, whole, cut, from_bytes}
use Rattle.memory.specs.Memory.{words}
use Rattle.fields.specs.declared.Field.{Field}

-- the number that the four bytes from place i are, big-endian; 0 where there are fewer ("Sheet and graph bytes")
unfoldable pub cell_at : List ℕ → ℕ → ℕ
cell_at bs i = cond (leb (i + 4) (length bs)) (from_bytes 0 (take 4 (drop i bs))) 0

-- n such numbers, one behind the other, from place i on ("Sheet and graph bytes")
unfoldable pub cells_at : List ℕ → ℕ → ℕ → List ℕ
cells_at bs i n = words n (λ j. cell_at bs (i + 4 * j))

-- of a field that is read from place at of the bytes the answer says its tag, where its contents stand, and where they end; there is none
-- where it is cut ("Sheet and graph bytes")
abbrev pub Stands : List ℕ → ℕ → FieldRead → Option Field → Type 0
Stands bs at cut None = Unit {0}
Stands bs at cut (Some f) = ⊥
Stands bs at (whole tag contents rest) None = ⊥
Stands bs at (whole tag contents rest) (Some f) =
    (f.tag ≡ tag) × (f.from ≡ at + 3) × (f.from ≤ f.to) × (f.to ≤ length bs) × (contents ≡ take (f.to - f.from) (drop f.from bs)) × (rest ≡ drop f.to bs)
