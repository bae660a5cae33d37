-- The walk over a list of codes: in two parts, one code more, and how many codes pass a test.
-- Assumes nothing.
use Prim.Native.Nat.{ℕ, ◌+◌, ◌<◌}
use native.Mathlib.Nat.{add-zero}
use native.Mathlib.Numerals.{add-one}
use native.Mathlib.Omega.{arith}
use mathlib.Core.Path.{◌≡◌, refl, ◌∙◌, ap}
use mathlib.Core.Bool.{Bool, cond}
use mathlib.Core.List.{List, [], ◌∷◌, ◌++◌}
use lib.ListN.{length, get_or, take}
use lib.Seq.{take-suc}
use Rattle.side_limits.specs.Tally.{Tally, step, run, nothing, tally, how_many}

module _ (t : ℕ) (w : ℕ → ℕ) where
  pub run_append : (d : Tally) (xs ys : List ℕ) → run t w d (xs ++ ys) ≡ run t w (run t w d xs) ys
  unfolding run
  run_append d [] ys = refl
  run_append d (k ∷ xs) ys = run_append (step t w d k) xs ys

  -- one code more
  pub tally_more : (ks : List ℕ) (i : ℕ) → i < length ks → tally t w (take (i + 1) ks) ≡ step t w (tally t w (take i ks)) (get_or ks i 0)
  unfolding tally run
  tally_more ks i h =
      ap (λ n. run t w nothing (take n ks)) (add-one i) ∙ ap (run t w nothing) (take-suc ks i 0 h)
      ∙ run_append nothing (take i ks) (get_or ks i 0 ∷ [])

module _ (test : ℕ → Bool) where
  pub how_many_append : (xs ys : List ℕ) → how_many test (xs ++ ys) ≡ how_many test xs + how_many test ys
  how_many_append [] ys = omega arith
  how_many_append (x ∷ xs) ys = omega (arith, how_many_append xs ys)

  -- one code more, which passes or not
  pub how_many_more : (b : Bool) (ks : List ℕ) (i : ℕ) → i < length ks → test (get_or ks i 0) ≡ b
      → how_many test (take (i + 1) ks) ≡ how_many test (take i ks) + cond b 1 0
  how_many_more b ks i h e =
      ap (λ n. how_many test (take n ks)) (add-one i) ∙ ap (how_many test) (take-suc ks i 0 h)
      ∙ how_many_append (take i ks) (get_or ks i 0 ∷ []) ∙ ap (λ n. how_many test (take i ks) + n) (add-zero _ ∙ ap (λ x. cond x 1 0) e)
