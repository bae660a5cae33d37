-- Words that are all 0, as a loop clears them from the first on.
-- Assumes nothing.
use Prim.Native.Nat.{ℕ, zero, suc, ◌+◌, ◌-◌, ◌≤◌, ◌<◌}
use native.Mathlib.Omega.{arith}
use mathlib.Core.Path.{◌≡◌, refl, ◌∙◌, ap}
use mathlib.Core.List.{List, ◌++◌, append-nil}
use lib.ListN.{length, drop, set, drop_of_length-le, length-replicate, get_or-replicate}
use borrow.Author.Fill.{fill_more}
use Rattle.memory.specs.Memory.{zeros, words}
use Rattle.memory.proofs.Words.{words_ext}

-- zeros so far, and behind them what stood there
pub zeros_none : (d : List ℕ) → d ≡ zeros 0 ++ drop 0 d
unfolding zeros
zeros_none d = refl

pub zeros_more : (i : ℕ) (d : List ℕ) → i < length d → set (zeros i ++ drop i d) i 0 ≡ zeros (i + 1) ++ drop (i + 1) d
unfolding zeros
zeros_more i d h = fill_more i 0 d h

pub zeros_all : (i : ℕ) (d : List ℕ) → i ≡ length d → zeros i ++ drop i d ≡ zeros (length d)
zeros_all i d e =
    let h : length d ≤ i = omega arith in
    ap (λ l. zeros i ++ l) (drop_of_length-le d h) ∙ append-nil (zeros i) ∙ ap zeros e

pub drop_zeros : (k n : ℕ) → drop k (zeros n) ≡ zeros (n - k)
unfolding zeros
drop_zeros zero n = let e : n - 0 ≡ n = omega arith in rw e
drop_zeros (suc k) zero = let e : 0 - suc k ≡ 0 = omega arith in rw e
drop_zeros (suc k) (suc n) = let e : suc n - suc k ≡ n - k = omega arith in rw e (drop_zeros k n)

-- a memory with 0 at each place
pub zeros_words : (n : ℕ) → zeros n ≡ words n (λ k. 0)
unfolding zeros
zeros_words n = words_ext (zeros n) n (λ k. 0) (length-replicate n 0) (λ k h. get_or-replicate n k 0 0 h)
