-- One turn of each kind of loop: a test of every number of a range, from its lower end up; a test of every member of a set, lowest member
-- first; and the members of a set that pass a test put into another set.
-- Assumes nothing.
use Prim.Native.Nat.{ℕ, ◌+◌, ◌-◌, ◌≤◌, ◌<◌}
use mathlib.Core.Path.{◌≡◌, sym, ◌∙◌, ap}
use mathlib.Core.Bool.{Bool, true, false, cond, not, ◌&&◌}
use lib.Bits.{bit_and}
use lib.Count.{count_trailing_zeros}
use Rattle.kat.specs.Lists.{upto, every}
use Rattle.kat.proofs.Bools.{not_true_false}
use Rattle.claims.specs.Fields.{number_set}
use Rattle.bits.specs.Sets.{including}
use Rattle.bits.proofs.Members.{number_none}
use Rattle.bits.proofs.Lowest.{Lowest}
use Rattle.standings.proofs.Upto.{upto_more, upto_none}
use Rattle.standings.specs.Alike.{gathered}
use Rattle.standings.proofs.Tests.{not_false_true}

module _ (p : ℕ → Bool) where
  -- nothing left
  pub every_end : (i e : ℕ) → e ≤ i → every p (upto i e) ≡ true
  every_end i e h = ap (every p) (upto_none i e h)

  -- the code's test of the lowest fails, or the rest decides
  pub every_fails : (i e : ℕ) → i < e → (x : Bool) → x ≡ p i → not x ≡ true → every p (upto i e) ≡ false
  every_fails i e h x f k =
      ap (every p) (upto_more i e h) ∙ ap (λ b. b && every p (upto (i + 1) e)) (sym f ∙ not_true_false x k)

  pub every_passes : (i e : ℕ) → i < e → (x : Bool) → x ≡ p i → not x ≡ false → every p (upto (i + 1) e) ≡ every p (upto i e)
  every_passes i e h x f k =
      sym (ap (every p) (upto_more i e h) ∙ ap (λ b. b && every p (upto (i + 1) e)) (sym f ∙ not_false_true x k))

module _ (p : ℕ → Bool) (w : ℕ) where
  -- nothing left
  pub all_end : (s : ℕ) → s ≡ 0 → every p (number_set 0 w s) ≡ true
  all_end s e = ap (λ k. every p (number_set 0 w k)) e ∙ ap (every p) (number_none 0 w)

  -- the code's test of the lowest member fails, or the rest decides
  pub all_fails : {s : ℕ} → Lowest w s → (x : Bool) → x ≡ p (count_trailing_zeros w s) → not x ≡ true → every p (number_set 0 w s) ≡ false
  all_fails {s} l x f k =
      ap (every p) l.members ∙ ap (λ b. b && every p (number_set 0 w (bit_and s (s - 1)))) (sym f ∙ not_true_false x k)

  pub all_passes : {s : ℕ} → Lowest w s → (x : Bool) → x ≡ p (count_trailing_zeros w s) → not x ≡ false
      → every p (number_set 0 w (bit_and s (s - 1))) ≡ every p (number_set 0 w s)
  all_passes {s} l x f k =
      sym (ap (every p) l.members ∙ ap (λ b. b && every p (number_set 0 w (bit_and s (s - 1)))) (sym f ∙ not_false_true x k))

module _ (p : ℕ → Bool) (w : ℕ) where
  -- nothing left
  pub gathered_end : (s m : ℕ) → s ≡ 0 → gathered p (number_set 0 w s) m ≡ m
  unfolding gathered
  gathered_end s m e = ap (λ k. gathered p (number_set 0 w k) m) e ∙ ap (λ l. gathered p l m) (number_none 0 w)

  -- the lowest member, and then the rest
  pub gathered_more : {s : ℕ} → Lowest w s → (m : ℕ) (b : Bool) → b ≡ p (count_trailing_zeros w s)
      → gathered p (number_set 0 w (bit_and s (s - 1))) (cond b (including 64 m (count_trailing_zeros w s)) m) ≡ gathered p (number_set 0 w s) m
  unfolding gathered
  gathered_more {s} l m b e =
      ap (λ c. gathered p (number_set 0 w (bit_and s (s - 1))) (cond c (including 64 m (count_trailing_zeros w s)) m)) e
      ∙ sym (ap (λ as'. gathered p as' m) l.members)
