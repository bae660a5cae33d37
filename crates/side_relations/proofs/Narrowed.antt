-- The sets of the relations and atoms by loops over the codes: what one code does, and what is left to do from a place on.
-- Assumes nothing.
use Prim.Native.Nat.{ℕ, zero, suc, ◌+◌, ◌-◌, ◌^◌, ◌≤◌, ◌<◌, min}
use native.Mathlib.Nat.{pow-le-pow_right}
use native.Mathlib.Numerals.{add-one}
use native.Mathlib.Omega.{arith}
use mathlib.Core.Path.{◌≡◌, refl, sym, ◌∙◌, ap, ap₂}
use mathlib.Core.Logic.{⊎_elim}
use mathlib.Core.Bool.{Bool, true, false, cond, not, ◌&&◌, ◌||◌}
use mathlib.Core.List.{List, [], ◌∷◌}
use lib.Bits.{bit_and, and_le_r}
use lib.Dec.{eqb, leb, ltb}
use lib.ListN.{length, get_or, set, take, drop, replicate, length-set, length-replicate, get_or-replicate}
use borrow.Author.Tests.{lt-ltb, le-ltb, le-leb, lt-leb}
use Rattle.kat.specs.Lists.{some}
use Rattle.kat.proofs.Bools.{le_or_lt}
use Rattle.claims.specs.Query.{bit}
use Rattle.bits.specs.Sets.{all_below}
use Rattle.bits.proofs.Bit.{bit-bit_and}
use Rattle.bits.proofs.Rows.{bit_all}
use Rattle.side_atoms.specs.Atoms.{all_atoms}
use Rattle.memory.specs.Memory.{words}
use Rattle.side_atoms.proofs.Atoms.{bit_not, atoms_ext}
use Rattle.memory.proofs.Words.{words_ext, words_same}
use Rattle.side_items.specs.Items.{Item, paired}
use Rattle.side_relations.specs.Relations.{narrowed, limits_from, limit_sets, closed_set, closed_in, relation_at, relation_sets, live_set}
use Rattle.side_relations.proofs.ClosedSets.{closed_bit}

-- codes and what they need, from a place on
pub paired_more : (ks xs : List ℕ) (i : ℕ) → i < min (length ks) (length xs)
    → drop i (paired ks xs) ≡ record { code = get_or ks i 0; arg = get_or xs i 0 } ∷ drop (i + 1) (paired ks xs)
unfolding paired
paired_more ks xs i h = go ks xs i h ∙ ap (λ j. record { code = get_or ks i 0; arg = get_or xs i 0 } ∷ drop j (paired ks xs)) (sym (add-one i))
  where
    go : (ks xs : List ℕ) (i : ℕ) → i < min (length ks) (length xs)
        → drop i (paired ks xs) ≡ record { code = get_or ks i 0; arg = get_or xs i 0 } ∷ drop (suc i) (paired ks xs)
    go [] xs i h = absurd (omega arith)
    go (k ∷ ks) [] i h = absurd (omega arith)
    go (k ∷ ks) (x ∷ xs) zero h = refl
    go (k ∷ ks) (x ∷ xs) (suc i) h = go ks xs i (omega arith)

pub paired_end : (ks xs : List ℕ) (i : ℕ) → min (length ks) (length xs) ≤ i → drop i (paired ks xs) ≡ []
unfolding paired
paired_end [] xs zero h = refl
paired_end [] xs (suc i) h = refl
paired_end (k ∷ ks) [] zero h = refl
paired_end (k ∷ ks) [] (suc i) h = refl
paired_end (k ∷ ks) (x ∷ xs) zero h = absurd (omega arith)
paired_end (k ∷ ks) (x ∷ xs) (suc i) h = paired_end ks xs i (omega arith)

-- what one code does
module _ (k x y : ℕ) (ws : List ℕ) where
  pub narrow_below : k < 144 → ws ≡ narrowed k x y ws
  unfolding narrowed
  narrow_below h = sym (rw (lt-leb 144 k h))

  pub narrow_above : 160 ≤ k → ws ≡ narrowed k x y ws
  unfolding narrowed
  narrow_above h = sym (rw (le-leb 144 k (omega arith), le-ltb k 160 h))

  pub narrow_line : 144 ≤ k → k < 160 → (r s u v : ℕ) → r ≡ k - 144 → s ≡ k - 128 → u ≡ bit_and (get_or ws (k - 144) 0) x
      → v ≡ bit_and (get_or ws (k - 128) 0) y → set (set ws r u) s v ≡ narrowed k x y ws
  unfolding narrowed
  narrow_line h l r s u v a b d e = sym (rw (le-leb 144 k h, lt-ltb k 160 l, a, b, d, e))

  narrow_length : length (narrowed k x y ws) ≡ length ws
  unfolding narrowed
  narrow_length = go (leb 144 k && ltb k 160)
    where
      go : (b : Bool) → length (cond b (set (set ws (k - 144) (bit_and (get_or ws (k - 144) 0) x)) (k - 128) (bit_and (get_or ws (k - 128) 0) y)) ws)
          ≡ length ws
      go true = length-set (set ws (k - 144) (bit_and (get_or ws (k - 144) 0) x)) (k - 128) (bit_and (get_or ws (k - 128) 0) y)
          ∙ length-set ws (k - 144) (bit_and (get_or ws (k - 144) 0) x)
      go false = refl

-- one code with what it needs, and then the others; and the end of either
pub limits_more : (k a x y z w : ℕ) (ws vs ks xs : List ℕ) → vs ≡ narrowed k x y ws → z ≡ cond (eqb k 6) y x → w ≡ cond (eqb k 6) a y
    → limits_from z w (paired ks xs) vs ≡ limits_from x y (paired (k ∷ ks) (a ∷ xs)) ws
unfolding limits_from paired
limits_more k a x y z w ws vs ks xs e f g = rw (e, f, g) refl

pub limits_codes_end : (x y : ℕ) (ws ks xs : List ℕ) → length ks ≡ 0 → limits_from x y (paired ks xs) ws ≡ ws
unfolding limits_from paired
limits_codes_end x y ws [] xs h = refl
limits_codes_end x y ws (k ∷ ks) xs h = absurd (omega arith)

pub limits_args_end : (x y : ℕ) (ws ks xs : List ℕ) → length xs ≡ 0 → limits_from x y (paired ks xs) ws ≡ ws
unfolding limits_from paired
limits_args_end x y ws [] xs h = refl
limits_args_end x y ws (k ∷ ks) [] h = refl
limits_args_end x y ws (k ∷ ks) (a ∷ xs) h = absurd (omega arith)

module _ (ks xs : List ℕ) where
  -- a code is among them
  pub closed_codes : (r : ℕ) → closed_in (paired ks xs) r ≡ some (λ k. eqb k (160 + r)) (take (min (length ks) (length xs)) ks)
  unfolding closed_in paired
  closed_codes r = go ks xs
    where
      go : (ks xs : List ℕ)
          → some (λ (i : Item). eqb i.code (160 + r)) (paired ks xs) ≡ some (λ k. eqb k (160 + r)) (take (min (length ks) (length xs)) ks)
      go [] xs = sym (ap (λ n. some (λ k. eqb k (160 + r)) (take n [])) (none_of (length xs)))
        where
          none_of : (n : ℕ) → min 0 n ≡ 0
          none_of n = omega arith
      go (k ∷ ks) [] = let z : min (suc (length ks)) 0 ≡ 0 = omega arith in sym (ap (λ n. some (λ k. eqb k (160 + r)) (take n (k ∷ ks))) z)
      go (k ∷ ks) (x ∷ xs) =
          let z : min (suc (length ks)) (suc (length xs)) ≡ suc (min (length ks) (length xs)) = omega arith in
          ap (λ b. eqb k (160 + r) || b) (go ks xs) ∙ sym (ap (λ n. some (λ k. eqb k (160 + r)) (take n (k ∷ ks))) z)

-- one of the 48 sets
module _ (is_closed : ℕ → Bool) (ws : List ℕ) (i : ℕ) where
  pub relation_limit : i < 32 → get_or ws i 0 ≡ relation_at is_closed ws i
  unfolding relation_at
  relation_limit h = sym (rw (lt-ltb i 32 h))

  pub relation_closed : 32 ≤ i → is_closed (i - 32) ≡ true → bit_and (get_or ws (i - 32) 0) (get_or ws (i - 16) 0) ≡ relation_at is_closed ws i
  unfolding relation_at
  relation_closed h e = sym (rw (le-ltb i 32 h, e))

  pub relation_open : 32 ≤ i → is_closed (i - 32) ≡ false → 0 ≡ relation_at is_closed ws i
  unfolding relation_at
  relation_open h e = sym (rw (le-ltb i 32 h, e))

same_tests : (f g : ℕ → Bool) (ws : List ℕ) (i : ℕ) → f (i - 32) ≡ g (i - 32) → relation_at f ws i ≡ relation_at g ws i
unfolding relation_at
same_tests f g ws i e = ap (λ b. cond (ltb i 32) (get_or ws i 0) (cond b (bit_and (get_or ws (i - 32) 0) (get_or ws (i - 16) 0)) 0)) e

-- all of them, where the closed relations are those of the codes
pub relation_words : (ks xs ws us : List ℕ) (closed n : ℕ) → us ≡ take (min (length ks) (length xs)) ks → closed ≡ closed_set 0 us → n ≡ 48
    → ws ≡ limits_from 0 0 (paired ks xs) (replicate 32 all_atoms)
    → words n (relation_at (λ k. bit k closed) ws) ≡ relation_sets (paired ks xs)
unfolding relation_sets limit_sets
relation_words ks xs ws us closed n t c z h =
    words_same n 48 (relation_at (λ k. bit k closed) ws) (relation_at (closed_in (paired ks xs)) (limit_sets (paired ks xs))) z
    (λ i l. same_tests (λ k. bit k closed) (closed_in (paired ks xs)) ws i
    (ap (bit (i - 32)) c ∙ closed_bit us (i - 32) (omega arith) ∙ ap (some (λ k. eqb k (160 + (i - 32)))) t ∙ sym (closed_codes ks xs (i - 32)))
    ∙ ap (λ v. relation_at (closed_in (paired ks xs)) v i) (h ∙ ap (limits_from 0 0 (paired ks xs)) start))
  where
    start : replicate 32 all_atoms ≡ words 32 (λ i. all_atoms)
    start = words_ext (replicate 32 all_atoms) 32 (λ i. all_atoms) (length-replicate 32 all_atoms) (λ k l. get_or-replicate 32 k all_atoms 0 l)

-- the atoms that are left: of those that the tests make, the others than the removed
pub live_atoms_left : (t m n x : ℕ) → m < 2 ^ 64 → n ≡ min (2 ^ t) 64 → x ≡ all_below 64 n → bit_and x (all_atoms - m) ≡ live_set t m
unfolding live_set
live_atoms_left t m n x s e h =
    atoms_ext (λ a. ltb a (2 ^ t) && not (bit a m)) (bit_and x (all_atoms - m)) (omega (arith, and_le_r x (all_atoms - m)))
    (λ a l. bit-bit_and a x (all_atoms - m)
    ∙ ap₂ ◌&&◌ (ap (bit a) h ∙ bit_all 64 n a ∙ ap (λ k. ltb a (min k 64)) e ∙ cut_test a (2 ^ t) l) (bit_not 64 a m s l))
  where
    cut_test : (a k : ℕ) → a < 64 → ltb a (min (min k 64) 64) ≡ ltb a k
    cut_test a k l =
        ⊎_elim (λ g. le-ltb a (min (min k 64) 64) (omega arith) ∙ sym (le-ltb a k g))
        (λ g. lt-ltb a (min (min k 64) 64) (omega arith) ∙ sym (lt-ltb a k g)) (le_or_lt k a)

-- 6 tests and more make 64 atoms and more
pub many_atoms : (t : ℕ) → 6 ≤ t → 64 ≡ min (2 ^ t) 64
many_atoms t h = let z : 2 ^ 6 ≤ 2 ^ t = pow-le-pow_right {n = 2} (omega arith) h in omega arith
