-- A change for each number of a range, where each number has places of its own and its change leaves all others as they are: what stands at
-- a place of number a in the end is what the change for a makes of a memory that has at a's places what stood there at the start.
-- Assumes nothing.
use Prim.Native.Nat.{ℕ, zero, suc, ◌+◌, ◌≤◌, ◌<◌}
use native.Mathlib.Omega.{arith}
use mathlib.Core.Path.{◌≡◌, refl, sym, ◌∙◌, ap}
use mathlib.Core.Logic.{⊎_elim}
use mathlib.Core.List.{List}
use lib.ListN.{length, get_or}
use Rattle.kat.specs.Lists.{counted}
use Rattle.memory.specs.Memory.{for_each}
use Rattle.side_tables.specs.Layout.{TABLE}
use Rattle.memory.proofs.Words.{same_or_not}

-- the changes g of the numbers below `most` in a memory of 4,241 words
module _ (g : ℕ → List ℕ → List ℕ) (size : (a : ℕ) (t : List ℕ) → length (g a t) ≡ length t) (Own : ℕ → ℕ → Type 0)
    (apart : (a b i : ℕ) → Own a i → Own b i → a ≡ b) (most : ℕ)
    (others : (a : ℕ) (t : List ℕ) (i : ℕ) → a < most → length t ≡ TABLE → (Own a i → ⊥) → get_or (g a t) i 0 ≡ get_or t i 0) where
  -- a place of none of the numbers
  pub each_others : (b n : ℕ) (t : List ℕ) (i : ℕ) → b + n ≤ most → length t ≡ TABLE → ((a : ℕ) → b ≤ a → a < b + n → Own a i → ⊥)
      → get_or (for_each g (counted b n) t) i 0 ≡ get_or t i 0
  unfolding for_each
  each_others b zero t i m l h = refl
  each_others b (suc n) t i m l h =
      each_others (suc b) n (g b t) i (omega arith) (size b t ∙ l) (λ a x y. h a (omega arith) (omega arith))
      ∙ others b t i (omega arith) l (h b (omega arith) (omega arith))

  -- what the change for a was done on
  pub record Reached (t u : List ℕ) (a : ℕ) : Type 0 where
    pub before : List ℕ
    pub long : length before ≡ TABLE
    pub same : (j : ℕ) → Own a j → get_or before j 0 ≡ get_or t j 0
    pub after : (i : ℕ) → Own a i → get_or u i 0 ≡ get_or (g a before) i 0

  -- the change for a is the first, or a later one
  first_change : (b n a : ℕ) (t : List ℕ) → suc b + n ≤ most → length t ≡ TABLE → a ≡ b → Reached t (for_each g (counted (suc b) n) (g b t)) a
  first_change b n a t m l e =
      record {
        before = t;
        long = l;
        same = λ j o. refl;
        after = λ i o.
            each_others (suc b) n (g b t) i m (size b t ∙ l) (λ c x y z. let d : c ≡ a = apart c a i z o in omega arith)
            ∙ ap (λ c. get_or (g c t) i 0) (sym e);
      }

  later_change : (b a : ℕ) (t u : List ℕ) → b < most → length t ≡ TABLE → (a ≡ b → ⊥) → Reached (g b t) u a → Reached t u a
  later_change b a t u m l e r =
      record {
        before = r.before;
        long = r.long;
        same = λ j o. r.same j o ∙ others b t j m l (λ z. e (apart a b j o z));
        after = r.after;
      }

  pub each_own : (b n a : ℕ) (t : List ℕ) → b + n ≤ most → length t ≡ TABLE → b ≤ a → a < b + n → Reached t (for_each g (counted b n) t) a
  unfolding for_each
  each_own b zero a t m l h i = absurd (omega arith)
  each_own b (suc n) a t m l h i =
      ⊎_elim (first_change b n a t (omega arith) l)
      (λ e. later_change b a t (for_each g (counted (suc b) n) (g b t)) (omega arith) l e
      (each_own (suc b) n a (g b t) (omega arith) (size b t ∙ l) (omega arith) (omega arith)))
      (same_or_not a b)
