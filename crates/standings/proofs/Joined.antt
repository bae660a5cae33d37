-- The union of what some numbers have from which an occurrence is read, bit by bit: bit i is set where one of them has it.
-- Assumes nothing.
use Prim.Native.Nat.{ℕ, ◌^◌, ◌<◌}
use mathlib.Core.Path.{◌≡◌, refl, ◌∙◌, ap₂}
use mathlib.Core.Bool.{Bool, true, false, cond, ◌&&◌, ◌||◌}
use mathlib.Core.List.{List, [], ◌∷◌}
use lib.Bits.{bit_or, or_lt}
use lib.Pow.{pow_pos}
use Rattle.kat.specs.Lists.{In, here, there, some}
use Rattle.claims.specs.Query.{bit}
use Rattle.claims.specs.Standings.{Letter}
use Rattle.bits.proofs.Bit.{bit_none, bit-bit_or}
use Rattle.standings.specs.Steps.{leads, joined}

-- a word or nothing, by a test
pub bit_cond : (b : Bool) (i w : ℕ) → bit i (cond b w 0) ≡ (b && bit i w)
bit_cond true i w = refl
bit_cond false i w = bit_none i

pub cond_small : (b : Bool) (n w : ℕ) → w < 2 ^ n → cond b w 0 < 2 ^ n
cond_small true n w h = h
cond_small false n w h = pow_pos n

module _ (right : List ℕ) (l : Letter) where
  pub joined_bit : (w : ℕ → ℕ) (q i : ℕ) (os : List ℕ) → bit i (joined right l w q os) ≡ some (λ o. leads right l o q && bit i (w o)) os
  unfolding joined
  joined_bit w q i [] = bit_none i
  joined_bit w q i (o ∷ os) =
      bit-bit_or i (cond (leads right l o q) (w o) 0) (joined right l w q os)
      ∙ ap₂ ◌||◌ (bit_cond (leads right l o q) i (w o)) (joined_bit w q i os)

  pub joined_small : (w : ℕ → ℕ) (q n : ℕ) (os : List ℕ) → ((o : ℕ) → In o os → w o < 2 ^ n) → joined right l w q os < 2 ^ n
  unfolding joined
  joined_small w q n [] h = pow_pos n
  joined_small w q n (o ∷ os) h =
      or_lt n (cond (leads right l o q) (w o) 0) (joined right l w q os) (cond_small (leads right l o q) n (w o) (h o (here refl)))
      (joined_small w q n os (λ k j. h k (there j)))

  -- a column that is read from nowhere
  pub joined_none : (w : ℕ → ℕ) (q : ℕ) (os : List ℕ) → ((o : ℕ) → leads right l o q ≡ false) → joined right l w q os ≡ 0
  unfolding joined
  joined_none w q [] h = refl
  joined_none w q (o ∷ os) h = ap₂ (λ b m. bit_or (cond b (w o) 0) m) (h o) (joined_none w q os h)
