-- What a code counts, by the range that it is in.
-- Assumes nothing.
use Prim.Native.Nat.{ℕ, ◌+◌, ◌-◌, ◌≤◌, ◌<◌}
use native.Mathlib.Omega.{arith}
use mathlib.Core.Path.{◌≡◌, refl, ◌∙◌, ap}
use mathlib.Core.Bool.{Bool, true, false, cond}
use mathlib.Core.List.{List}
use lib.Dec.{eqb, ltb}
use lib.ListN.{get_or}
use borrow.Author.Tests.{lt-ltb, le-ltb, ltb-true, ltb-false}
use Rattle.side_limits.specs.Tally.{weight}

module _ (t : ℕ) (w : ℕ → ℕ) (ls : List ℕ) (k : ℕ) where
  pub weight_test : k < 32 → weight t w ls k ≡ cond (eqb k 6) t 0
  unfolding weight
  weight_test h = rw (weight, lt-ltb k 32 h)

  pub weight_relation : 32 ≤ k → k < 48 → weight t w ls k ≡ w (k - 32)
  unfolding weight
  weight_relation h l = rw (weight, le-ltb k 32 h, lt-ltb k 48 l)

  pub weight_between : 48 ≤ k → k < 64 → weight t w ls k ≡ 0
  unfolding weight
  weight_between h l = rw (weight, le-ltb k 32 (omega arith), le-ltb k 48 h, lt-ltb k 64 l)

  pub weight_let : 64 ≤ k → k < 96 → weight t w ls k ≡ get_or ls (k - 64) 0
  unfolding weight
  weight_let h l = rw (weight, le-ltb k 32 (omega arith), le-ltb k 48 (omega arith), le-ltb k 64 h, lt-ltb k 96 l)

  pub weight_past : 96 ≤ k → weight t w ls k ≡ 0
  unfolding weight
  weight_past h = rw (weight, le-ltb k 32 (omega arith), le-ltb k 48 (omega arith), le-ltb k 64 (omega arith), le-ltb k 96 h)

-- relation r, and let j
module _ (t : ℕ) (w : ℕ → ℕ) (ls : List ℕ) where
  pub relation_weight : (r : ℕ) → r < 16 → weight t w ls (32 + r) ≡ w r
  relation_weight r h = weight_relation t w ls (32 + r) (omega arith) (omega arith) ∙ ap w (omega arith)

  pub let_weight : (j : ℕ) → j < 32 → weight t w ls (64 + j) ≡ get_or ls j 0
  let_weight j h = weight_let t w ls (64 + j) (omega arith) (omega arith) ∙ ap (λ x. get_or ls x 0) (omega arith)

-- a code counts the same where its relation and its let do
pub weight_same : (t : ℕ) (w v : ℕ → ℕ) (ls ms : List ℕ) (k : ℕ) → ((r : ℕ) → r < 16 → k ≡ 32 + r → w r ≡ v r)
    → ((j : ℕ) → j < 32 → k ≡ 64 + j → get_or ls j 0 ≡ get_or ms j 0) → weight t w ls k ≡ weight t v ms k
unfolding weight
weight_same t w v ls ms k h l = go (ltb k 32) refl (ltb k 48) refl (ltb k 64) refl (ltb k 96) refl
  where
    go : (a : Bool) → ltb k 32 ≡ a → (b : Bool) → ltb k 48 ≡ b → (c : Bool) → ltb k 64 ≡ c → (d : Bool) → ltb k 96 ≡ d
        → cond a (cond (eqb k 6) t 0) (cond b (w (k - 32)) (cond c 0 (cond d (get_or ls (k - 64) 0) 0)))
        ≡ cond a (cond (eqb k 6) t 0) (cond b (v (k - 32)) (cond c 0 (cond d (get_or ms (k - 64) 0) 0)))
    go true e b f c g d i = refl
    go false e true f c g d i = h (k - 32) (omega (arith, ltb-false k 32 e, ltb-true k 48 f)) (omega (arith, ltb-false k 32 e))
    go false e false f true g d i = refl
    go false e false f false g true i = l (k - 64) (omega (arith, ltb-false k 64 g, ltb-true k 96 i)) (omega (arith, ltb-false k 64 g))
    go false e false f false g false i = refl
