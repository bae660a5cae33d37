-- A table whose rows are each changed by a function of the row's number and the row: the turns of a loop that does so from the first row on,
-- in place. What the operations on tables put at a row, and that a table of 64 rows so changed is what each of them stands for.
-- Assumes nothing.
use Prim.Native.Nat.{ℕ, ◌+◌, ◌^◌, ◌≤◌, ◌<◌}
use native.Mathlib.Omega.{arith}
use mathlib.Core.Path.{◌≡◌, refl, sym, ◌∙◌, ap}
use mathlib.Core.Bool.{Bool, cond}
use mathlib.Core.List.{List}
use lib.Bits.{bit_or, or_zero_l}
use lib.Dec.{ltb}
use lib.ListN.{length, get_or, set, length-set}
use Rattle.claims.specs.Query.{bit}
use Rattle.memory.specs.Memory.{words, changed}
use Rattle.memory.proofs.Words.{changed_all, changed_more, changed_end}
use Rattle.bits.specs.Sets.{including, union_rows}
use Rattle.bits.proofs.Rows.{including_in}
use Rattle.rows.specs.Rows.{joined, composed, reflexive, diagonal}

-- each row of t, put through f
abbrev pub each_row : (ℕ → ℕ → ℕ) → List ℕ → List ℕ
each_row f t = words (length t) (λ x. f x (get_or t x 0))

-- the rows from x on are left, of a loop that began with the table t₀ and has t now: these put through f give all of t₀ put through f
abbrev pub Left : (ℕ → ℕ → ℕ) → List ℕ → List ℕ → ℕ → Type 0
Left f t₀ t x = (length t ≡ length t₀) × (x ≤ length t₀) × (changed f t x (length t₀) ≡ each_row f t₀)

module _ (f : ℕ → ℕ → ℕ) where
  pub each_begin : (t : List ℕ) → Left f t t 0
  each_begin t = (refl, omega arith, changed_all f (λ x. f x (get_or t x 0)) t (λ k h. refl))

  module _ (t₀ t : List ℕ) (x : ℕ) where
    pub each_more : (v : ℕ) → Left f t₀ t x → x < length t → v ≡ f x (get_or t x 0) → Left f t₀ (set t x v) (x + 1)
    each_more v (l, h, e) i z =
        (length-set t x v ∙ l, omega arith, changed_more f t (length t₀) x v (omega arith) i z ∙ e)

    pub each_end : Left f t₀ t x → length t ≤ x → t ≡ each_row f t₀
    each_end (l, h, e) i = sym (changed_end f t (length t₀) x (omega arith)) ∙ e

-- `|`
abbrev pub join_row : List ℕ → ℕ → ℕ → ℕ
join_row u x w = bit_or w (get_or u x 0)

pub rows_joined : (t u r : List ℕ) → length t ≡ 64 → r ≡ each_row (join_row u) t → r ≡ joined t u
unfolding joined
rows_joined t u r l e = e ∙ ap (λ n. words n (λ x. bit_or (get_or t x 0) (get_or u x 0))) l

-- `;`, whatever stood in the table
abbrev pub compose_row : List ℕ → List ℕ → ℕ → ℕ → ℕ
compose_row t u x w = union_rows u (get_or t x 0)

pub row_composed : (t u : List ℕ) (x w v : ℕ) → w ≡ get_or t x 0 → v ≡ union_rows u w → v ≡ union_rows u (get_or t x 0)
row_composed t u x w v e z = z ∙ ap (union_rows u) e

pub rows_composed : (t u : List ℕ) (n : ℕ) (r : List ℕ) → n ≡ 64 → r ≡ words n (λ x. union_rows u (get_or t x 0)) → r ≡ composed t u
unfolding composed
rows_composed t u n r l e = e ∙ ap (λ k. words k (λ x. union_rows u (get_or t x 0))) l

-- `?`
abbrev pub self_row : ℕ → ℕ → ℕ → ℕ
self_row n x w = cond (ltb x n) (including 64 w x) w

pub rows_reflexive : (t : List ℕ) (n : ℕ) (r : List ℕ) → length t ≡ 64 → r ≡ each_row (self_row n) t → r ≡ reflexive t n
unfolding reflexive
rows_reflexive t n r l e = e ∙ ap (λ k. words k (λ x. self_row n x (get_or t x 0))) l

-- `[T]`, whatever stood in the table
abbrev pub test_row : ℕ → ℕ → ℕ → ℕ
test_row s x w = cond (bit x s) (2 ^ x) 0

pub self_put : (s x v : ℕ) (b : Bool) → x < 64 → b ≡ bit x s → v ≡ cond b (including 64 0 x) 0 → v ≡ cond (bit x s) (2 ^ x) 0
self_put s x v b h e z =
    z ∙ ap (λ c. cond c (including 64 0 x) 0) e
    ∙ ap (λ k. cond (bit x s) k 0) (including_in 64 0 x h ∙ or_zero_l (2 ^ x))

pub rows_diagonal : (s n : ℕ) (r : List ℕ) → n ≡ 64 → r ≡ words n (λ x. cond (bit x s) (2 ^ x) 0) → r ≡ diagonal s
unfolding diagonal
rows_diagonal s n r l e = e ∙ ap (λ k. words k (λ x. cond (bit x s) (2 ^ x) 0)) l
