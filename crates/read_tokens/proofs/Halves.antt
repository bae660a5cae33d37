-- Half of a key, as the code makes it from eight bytes of a name.
-- Assumes nothing.
use Prim.Native.Nat.{ℕ, ◌+◌, ◌*◌, ◌≤◌, ◌<◌}
use native.Mathlib.Omega.{arith}
use native.Mathlib.Numerals.{add-one, add-two, add-three, add-four, add_five, add_six, add_seven}
use mathlib.Core.Path.{◌≡◌, sym, ap}
use mathlib.Core.List.{List}
use lib.ListN.{length, take, drop, get_or, length-take, get_or-eq_default}
use lib.Seq.{get_or-take, get_or-drop}
use Rattle.claims.specs.Fields.{from_bytes}
use Rattle.read_tokens.specs.Scan.{half_of}

-- a byte of the n bytes at i, and a place behind them
pub byte_there : (s : List ℕ) (i n j : ℕ) → j < n → get_or s (i + j) 0 ≡ get_or (take n (drop i s)) j 0
byte_there s i n j h = rw (get_or-take n (drop i s) j 0 h, get_or-drop i s j 0)

pub byte_behind : (s : List ℕ) (i n j : ℕ) → n ≤ j → 0 ≡ get_or (take n (drop i s)) j 0
byte_behind s i n j h =
    let f : length (take n (drop i s)) ≤ j = omega (arith, length-take n (drop i s)) in
    sym (get_or-eq_default (take n (drop i s)) 0 f)

-- eight bytes, four and four, are half of a key
pub half_made : (w : List ℕ) (p a b c d e f g h : ℕ) → a ≡ get_or w p 0 → b ≡ get_or w (p + 1) 0 → c ≡ get_or w (p + 2) 0
    → d ≡ get_or w (p + 3) 0 → e ≡ get_or w (p + 4) 0 → f ≡ get_or w (p + 5) 0 → g ≡ get_or w (p + 6) 0 → h ≡ get_or w (p + 7) 0
    → (((a * 256 + b) * 256 + c) * 256 + d) * 4294967296 + (((e * 256 + f) * 256 + g) * 256 + h) ≡ half_of w p
unfolding half_of from_bytes
half_made w p a b c d e f g h ea eb ec ed ee ef eg eh =
    let byte : ℕ → ℕ = λ j. get_or w j 0 in
    omega (
      arith,
      ap byte (add-one p),
      ap byte (add-two p),
      ap byte (add-three p),
      ap byte (add-four p),
      ap byte (add_five p),
      ap byte (add_six p),
      ap byte (add_seven p),
    )
