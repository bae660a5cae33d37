-- Numbers of four bytes: the sum of the bytes by their weights, below 2 to the 32; and several of them, one behind the other.
-- Assumes nothing.
use Prim.Native.Nat.{ℕ, zero, suc, ◌+◌, ◌*◌, ◌≤◌, ◌<◌, ◌^◌}
use native.Mathlib.Omega.{arith}
use mathlib.Core.Path.{◌≡◌, refl, ◌∙◌, ap}
use mathlib.Core.Logic.{⊎_elim}
use mathlib.Core.Bool.{cond}
use mathlib.Core.List.{List, [], ◌∷◌}
use lib.Dec.{leb}
use lib.ListN.{length, take, drop, get_or, get_or-eq_default}
use borrow.Author.Tests.{le-leb, lt-leb}
use Rattle.kat.specs.Lists.{here, there}
use Rattle.kat.proofs.Bools.{le_or_lt, lt_or_le}
use Rattle.claims.specs.Fields.{from_bytes}
use Rattle.claims.specs.SheetWriting.{AllBytes}
use Rattle.memory.specs.Memory.{words}
use Rattle.memory.proofs.Words.{words_length, words_at_lem}
use Rattle.fields.specs.Places.{cell_at, cells_at}
use Rattle.fields.proofs.Fields.{byte_first, header_first}

-- every number in a list of bytes is below 256, also past its end
pub byte_small : (bs : List ℕ) → AllBytes bs → (i : ℕ) → get_or bs i 0 < 256
byte_small [] b i = omega arith
byte_small (x ∷ xs) b zero = b x (here refl)
byte_small (x ∷ xs) b (suc i) = byte_small xs (λ y h. b y (there h)) i

-- the four bytes from a place on
pub four_bytes : (bs : List ℕ) (at : ℕ) → at + 4 ≤ length bs
    → take 4 (drop at bs) ≡ get_or bs at 0 ∷ get_or bs (at + 1) 0 ∷ get_or bs (at + 2) 0 ∷ get_or bs (at + 3) 0 ∷ []
four_bytes bs at h =
    ap (take 4) (header_first bs at (omega arith))
    ∙ ap (λ l. get_or bs at 0 ∷ get_or bs (at + 1) 0 ∷ get_or bs (at + 2) 0 ∷ take 1 l)
    (byte_first bs (at + 3) (at + 4) (omega arith) (omega arith))

-- where there are four bytes, the number that they are
pub cell_read : (bs : List ℕ) (at : ℕ) → at + 4 ≤ length bs → cell_at bs at ≡ from_bytes 0 (take 4 (drop at bs))
unfolding cell_at
cell_read bs at h = ap (λ b. cond b (from_bytes 0 (take 4 (drop at bs))) 0) (le-leb (at + 4) (length bs) h)

-- the bytes by their weights
pub cell_four : (bs : List ℕ) (at : ℕ) → at + 4 ≤ length bs
    → cell_at bs at ≡ get_or bs at 0 * 16777216 + get_or bs (at + 1) 0 * 65536 + get_or bs (at + 2) 0 * 256 + get_or bs (at + 3) 0
unfolding from_bytes
cell_four bs at h = cell_read bs at h ∙ ap (from_bytes 0) (four_bytes bs at h) ∙ omega arith

pub cell_past : (bs : List ℕ) (at : ℕ) → length bs < at + 4 → cell_at bs at ≡ 0
unfolding cell_at
cell_past bs at h = ap (λ b. cond b (from_bytes 0 (take 4 (drop at bs))) 0) (lt-leb (at + 4) (length bs) h)

-- below 2 to the 32
pub cell_small : (bs : List ℕ) → AllBytes bs → (at : ℕ) → cell_at bs at < 2 ^ 32
cell_small bs b at =
    ⊎_elim
    (λ h.
    omega (arith, cell_four bs at h, byte_small bs b at, byte_small bs b (at + 1), byte_small bs b (at + 2), byte_small bs b (at + 3)))
    (λ h. omega (arith, cell_past bs at h))
    (le_or_lt (at + 4) (length bs))

-- several, one behind the other
pub cells_length : (bs : List ℕ) (at n : ℕ) → length (cells_at bs at n) ≡ n
unfolding cells_at
cells_length bs at n = words_length n (λ j. cell_at bs (at + 4 * j))

pub cells_at_lem : (bs : List ℕ) (at n j : ℕ) → j < n → get_or (cells_at bs at n) j 0 ≡ cell_at bs (at + 4 * j)
unfolding cells_at
cells_at_lem bs at n j h = words_at_lem n (λ k. cell_at bs (at + 4 * k)) j h

pub cells_small : (bs : List ℕ) → AllBytes bs → (at n j : ℕ) → get_or (cells_at bs at n) j 0 < 2 ^ 32
cells_small bs b at n j =
    ⊎_elim (λ h. omega (arith, cells_at_lem bs at n j h, cell_small bs b (at + 4 * j)))
    (λ h. omega (arith, get_or-eq_default (cells_at bs at n) 0 {n = j} (omega (arith, cells_length bs at n))))
    (lt_or_le j n)
