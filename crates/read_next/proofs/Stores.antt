-- Runs of stores, one behind the other; and codes written where there is room for them.
-- Assumes nothing.
use Prim.Native.Nat.{ℕ, suc, ◌+◌, ◌-◌, ◌≤◌, ◌<◌}
use native.Mathlib.Omega.{arith}
use native.Mathlib.Nat.{add-zero}
use mathlib.Core.Path.{◌≡◌, refl, sym, ap, ap₂, ◌∙◌}
use mathlib.Core.List.{List, [], ◌∷◌, ◌++◌, append_assoc}
use lib.ListN.{length, take, drop, set, replicate, length-replicate}
use lib.Seq.{sets, sets-eq}
use borrow.Rule.Slice.PartMut.{put_mid, mid_of, post_of, mid_len, Post-is}
use borrow.Author.Tests.{le-leb, lt-leb}
use Rattle.read_next.specs.Written.{used_after, written_after}

sets_append : (xs ys b : List ℕ) (i : ℕ) → sets b i (xs ++ ys) ≡ sets (sets b i xs) (i + length xs) ys
sets_append [] ys b i = ap (λ j. sets b j ys) (sym (add-zero i))
sets_append (x ∷ xs) ys b i =
    let e : suc i + length xs ≡ i + suc (length xs) = omega arith in
    sets_append xs ys (set b i x) (suc i) ∙ ap (λ j. sets (sets (set b i x) (suc i) xs) j ys) e

-- a second run begins where the first ends
pub stores_then : (b : List ℕ) (i : ℕ) (xs ys : List ℕ) (n o : List ℕ) (j : ℕ) → n ≡ sets b i xs → j ≡ i + length xs → o ≡ sets n j ys
    → o ≡ sets b i (xs ++ ys)
stores_then b i xs ys n o j e f g =
    g ∙ ap (λ l. sets l j ys) e ∙ ap (λ k. sets (sets b i xs) k ys) f ∙ sym (sets_append xs ys b i)

-- the same number again
pub replicate_more : (n a : ℕ) → replicate n a ++ (a ∷ []) ≡ replicate (suc n) a
replicate_more ℕ.zero a = refl
replicate_more (suc n) a = ap (λ l. a ∷ l) (replicate_more n a)

-- a part that is filled with one number holds as many stores of it
pub filled : (b : List ℕ) (i n a : ℕ) (part : List ℕ) → i + n ≤ length b → part ≡ replicate (length (mid_of i (i + n - i) b)) a
    → put_mid i (i + n - i) b part ≡ sets b i (replicate n a)
filled b i n a part h e =
    let l : length (mid_of i (i + n - i) b) ≡ n = omega (arith, mid_len i (i + n) b h) in
    let p : part ≡ replicate n a = e ∙ ap (λ k. replicate k a) l in
    let r : post_of i (i + n - i) b ≡ drop (i + length (replicate n a)) b =
    Post-is i (i + n) b (omega arith) ∙ ap (λ k. drop (i + k) b) (sym (length-replicate n a)) in
    ap₂ (λ xs ys. take i b ++ (xs ++ ys)) p r
    ∙ sym (append_assoc (take i b) (replicate n a) (drop (i + length (replicate n a)) b))
    ∙ sym (sets-eq (replicate n a) b i (omega (arith, length-replicate n a)))

-- what is written: all codes, or none
abbrev Wrote : List ℕ → ℕ → ℕ → ℕ → ℕ → List ℕ → Type 0
Wrote out used count code r after = (r ≡ used_after used count) × (after ≡ written_after out used count code)

module _ (out : List ℕ) (used count code : ℕ) where
  pub not_written : 4096 < used + count → Wrote out used count code used out
  unfolding used_after written_after
  not_written h = (rw (lt-leb (used + count) 4096 h), rw (lt-leb (used + count) 4096 h))

  module _ (r : ℕ) (after : List ℕ) where
    pub all_written : r ≡ used + count → after ≡ sets out used (replicate count code) → used + count ≤ 4096 → Wrote out used count code r after
    unfolding used_after written_after
    all_written e f room = (rw (le-leb (used + count) 4096 room) e, rw (le-leb (used + count) 4096 room) f)

    -- where there is room, all of them
    pub written_room : Wrote out used count code r after → used + count ≤ 4096 → (r ≡ used + count) × (after ≡ sets out used (replicate count code))
    unfolding used_after written_after
    written_room (e, f) room = (rw (le-leb (used + count) 4096 room) at e, rw (le-leb (used + count) 4096 room) at f)
