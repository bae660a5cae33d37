-- A table at a place of the memory, and a graph's rows: laws for each way that the functions go.
-- Assumes nothing.
use Prim.Native.Nat.{ℕ, zero, suc, ◌+◌, ◌*◌, ◌≤◌, ◌<◌}
use native.Mathlib.Omega.{arith}
use mathlib.Core.Path.{◌≡◌, refl, sym, ◌∙◌, ap}
use mathlib.Core.Bool.{cond}
use mathlib.Core.List.{List, [], ◌∷◌}
use lib.ListN.{length, get_or, replicate, get_or-eq_default}
use borrow.Author.Tests.{lt-ltb, le-ltb}
use Rattle.memory.specs.Memory.{words, zeros}
use Rattle.rows.specs.Rows.{blank}
use Rattle.graph_tables.specs.Listed.{relation_rows}

-- inside a list what would stand past it does not matter
pub inside_same : {A : Type 0} (l : List A) (i : ℕ) (d e : A) → i < length l → get_or l i d ≡ get_or l i e
inside_same [] i d e h = absurd (omega arith)
inside_same (x ∷ l) zero d e h = refl
inside_same (x ∷ l) (suc i) d e h = inside_same l i d e (omega arith)

pub past_blank : (m : List (List ℕ)) (i : ℕ) → length m ≤ i → replicate 64 0 ≡ get_or m i blank
unfolding blank zeros
past_blank m i h = sym (get_or-eq_default m (replicate 64 0) {n = i} h)

-- the rows of a relation, and of none
pub relation_read : (L : List ℕ) (r base k : ℕ) (t : List ℕ) → r < 16 → base ≡ 64 * r → k ≡ 64 → t ≡ words k (λ x. get_or L (base + x) 0)
    → t ≡ relation_rows L r
unfolding relation_rows
relation_read L r base k t h e l s =
    s ∙ ap (λ n. words n (λ x. get_or L (base + x) 0)) l ∙ ap (λ b. words 64 (λ x. get_or L (b + x) 0)) e
    ∙ sym (ap (λ c. cond c (words 64 (λ x. get_or L (64 * r + x) 0)) blank) (lt-ltb r 16 h))

pub relation_none : (L : List ℕ) (r : ℕ) → 16 ≤ r → replicate 64 0 ≡ relation_rows L r
unfolding relation_rows blank zeros
relation_none L r h = sym (ap (λ c. cond c (words 64 (λ x. get_or L (64 * r + x) 0)) (replicate 64 0)) (le-ltb r 16 h))
