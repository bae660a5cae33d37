-- A stack in the first words of a memory, and the stack as a list: what is stored above a stack does not change it, a store at its
-- height puts a set on top, and a stack that is less high has lost its top.
-- Assumes nothing.
use Prim.Native.Nat.{ℕ, zero, suc, ◌+◌, ◌-◌, ◌≤◌, ◌<◌}
use native.Mathlib.Numerals.{add-one}
use native.Mathlib.Omega.{arith}
use mathlib.Core.Path.{◌≡◌, refl, sym, ◌∙◌, ap, ap₂}
use mathlib.Core.Bool.{cond}
use mathlib.Core.List.{List, ◌∷◌}
use lib.ListN.{length, get_or, set}
use lib.Seq.{get_or-set_same, get_or-set_other}
use borrow.Author.Tests.{lt-ltb, le-ltb}
use Rattle.side_atoms.specs.Tests.{top, under, push, stacked}

pub stacked_length : (mem : List ℕ) (n : ℕ) → length (stacked mem n) ≡ n
unfolding stacked
stacked_length mem zero = refl
stacked_length mem (suc n) = ap suc (stacked_length mem n)

-- a store at the height of the stack or above
pub stacked_set : (mem : List ℕ) (n i v : ℕ) → n ≤ i → stacked (set mem i v) n ≡ stacked mem n
unfolding stacked
stacked_set mem zero i v h = refl
stacked_set mem (suc n) i v h =
    ap₂ ◌∷◌ (get_or-set_other mem i n v 0 (λ e. omega arith)) (stacked_set mem n i v (omega arith))

-- what is pushed
pub push_stored : (mem : List ℕ) (n v : ℕ) → n < length mem → stacked (set mem n v) (n + 1) ≡ push (length mem) v (stacked mem n)
unfolding stacked push
push_stored mem n v h =
    ap (stacked (set mem n v)) (add-one n)
    ∙ ap₂ ◌∷◌ (get_or-set_same mem n v 0 h) (stacked_set mem n n v (omega arith))
    ∙ sym (ap (λ b. cond b (v ∷ stacked mem n) (stacked mem n)) (lt-ltb (length (stacked mem n)) (length mem) (omega (arith, stacked_length mem n))))

pub push_full : (mem : List ℕ) (n v : ℕ) → length mem ≤ n → stacked mem n ≡ push (length mem) v (stacked mem n)
unfolding push
push_full mem n v h =
    sym (ap (λ b. cond b (v ∷ stacked mem n) (stacked mem n)) (le-ltb (length (stacked mem n)) (length mem) (omega (arith, stacked_length mem n))))

-- one less high
pub under_stacked : (mem : List ℕ) (n : ℕ) → under (stacked mem n) ≡ stacked mem (n - 1)
unfolding under stacked
under_stacked mem zero = refl
under_stacked mem (suc n) = let e : n ≡ suc n - 1 = omega arith in ap (stacked mem) e

pub top_stacked : (mem : List ℕ) (n : ℕ) → 0 < n → top (stacked mem n) ≡ get_or mem (n - 1) 0
unfolding top stacked
top_stacked mem zero h = absurd (omega arith)
top_stacked mem (suc n) h = let e : n ≡ suc n - 1 = omega arith in ap (λ i. get_or mem i 0) e

pub top_empty : (mem : List ℕ) (n : ℕ) → n ≡ 0 → top (stacked mem n) ≡ 0
unfolding top stacked
top_empty mem n e = ap (λ k. top (stacked mem k)) e
