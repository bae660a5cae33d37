-- A memory by what stands at each place: lists of one length are equal where they agree at each place. A loop that changes a range of
-- words from its lower end up does at each turn the change of one word, so what is left of the range, on the memory as it is, stays
-- the whole change; and the same for the table of followers, row by row and in a row place by place.
-- Assumes nothing.
use Prim.Native.Nat.{ℕ, ◌+◌, ◌-◌, ◌≤◌, ◌<◌, min}
use native.Mathlib.Omega.{arith}
use mathlib.Core.Path.{◌≡◌, refl, sym, ◌∙◌, ap, ap₂}
use mathlib.Core.Logic.{◌⊎◌, ⊎_elim}
use mathlib.Core.Logic.◌⊎◌.{inl, inr}
use mathlib.Core.Bool.{Bool, true, false, cond, ◌&&◌}
use mathlib.Core.List.{List, [], ◌∷◌, ◌++◌}
use lib.Dec.{eqb, leb, ltb}
use lib.ListN.{length, get_or, set, length-append, length-map, length-set, get_or-append}
use lib.Seq.{ext_get_or, get_or-append-add, get_or-set_same, get_or-set_other}
use borrow.Author.Tests.{eqb-true, eqb-false, ltb-true, leb-true, lt-ltb, le-ltb, le-leb, lt-leb}
use Rattle.kat.specs.Lists.{upto}
use Rattle.kat.proofs.Bools.{bool_cases, le_or_lt, and_left, and_right, and_both, bool_ext}
use Rattle.kat.proofs.Sets.{at_upto, upto_length}
use Rattle.memory.specs.Memory.{words, between, changed, copied}

pub words_length : (n : ℕ) (f : ℕ → ℕ) → length (words n f) ≡ n
unfolding words
words_length n f = length-map (upto 0 n) f ∙ upto_length n

pub words_at_lem : (n : ℕ) (f : ℕ → ℕ) (k : ℕ) → k < n → get_or (words n f) k 0 ≡ f k
unfolding words
words_at_lem n f k h = at_upto f 0 n k h

-- a memory with these words
pub words_ext : (l : List ℕ) (n : ℕ) (f : ℕ → ℕ) → length l ≡ n → ((k : ℕ) → k < n → get_or l k 0 ≡ f k) → l ≡ words n f
words_ext l n f e h =
    ext_get_or 0 l (words n f) (e ∙ sym (words_length n f)) (λ k i. h k (omega arith) ∙ sym (words_at_lem n f k (omega arith)))

pub words_same : (n m : ℕ) (f g : ℕ → ℕ) → n ≡ m → ((k : ℕ) → k < n → f k ≡ g k) → words n f ≡ words m g
words_same n m f g e h =
    words_ext (words n f) m g (words_length n f ∙ e) (λ k i. words_at_lem n f k (omega arith) ∙ h k (omega arith))

pub words_one : (f : ℕ → ℕ) → words 1 f ≡ f 0 ∷ []
unfolding words
words_one f = refl

-- a memory in two parts, one behind the other
pub words_append : (m n : ℕ) (f g : ℕ → ℕ) → ((k : ℕ) → k < n → f (m + k) ≡ g k) → words (m + n) f ≡ words m f ++ words n g
words_append m n f g h =
    sym (words_ext (words m f ++ words n g) (m + n) f
    (length-append (words m f) (words n g) ∙ ap₂ ◌+◌ (words_length m f) (words_length n g))
    (λ k i. ⊎_elim (λ l. second k (k - m) (omega arith) (omega arith)) (λ l. first k l) (le_or_lt m k)))
  where
    first : (k : ℕ) → k < m → get_or (words m f ++ words n g) k 0 ≡ f k
    first k l = get_or-append (words m f) (words n g) 0 k (omega (arith, words_length m f)) ∙ words_at_lem m f k l

    second : (k j : ℕ) → k ≡ m + j → j < n → get_or (words m f ++ words n g) k 0 ≡ f k
    second k j e l =
        ap (λ i. get_or (words m f ++ words n g) i 0) (e ∙ ap (λ i. i + j) (sym (words_length m f)))
        ∙ get_or-append-add (words m f) (words n g) j 0 ∙ words_at_lem n g j l ∙ sym (h j l) ∙ ap f (sym e)

-- two numbers are equal or not
pub same_or_not : (m n : ℕ) → (m ≡ n) ⊎ (m ≡ n → ⊥)
same_or_not m n = ⊎_elim (λ e. inl (eqb-true m n e)) (λ e. inr (eqb-false m n e)) (bool_cases (eqb m n))

-- in a range, and outside it
module _ (lo hi k : ℕ) where
  pub inside : lo ≤ k → k < hi → between lo hi k ≡ true
  unfolding between
  inside h i = and_both (le-leb lo k h) (lt-ltb k hi i)

  pub below : k < lo → between lo hi k ≡ false
  unfolding between
  below h = ap (λ b. b && ltb k hi) (lt-leb lo k h)

  pub above : hi ≤ k → between lo hi k ≡ false
  unfolding between
  above h = go (leb lo k) (le-ltb k hi h)
    where
      go : (b : Bool) → ltb k hi ≡ false → (b && ltb k hi) ≡ false
      go true e = e
      go false e = refl

  pub inside_out : between lo hi k ≡ true → (lo ≤ k) × (k < hi)
  unfolding between
  inside_out e = (leb-true lo k (and_left (leb lo k) (ltb k hi) e), ltb-true k hi (and_right (leb lo k) (ltb k hi) e))

-- another number than the lower end
pub between_other : (lo hi k : ℕ) → (k ≡ lo → ⊥) → between (lo + 1) hi k ≡ between lo hi k
between_other lo hi k n =
    bool_ext (between (lo + 1) hi k) (between lo hi k)
    (λ e. let (a, b) = inside_out (lo + 1) hi k e in inside lo hi k (omega arith) b)
    (λ e. let (a, b) = inside_out lo hi k e in inside (lo + 1) hi k (omega arith) b)

-- one word of a range changed, and then the rest of it
module _ (f : ℕ → ℕ → ℕ) (ws : List ℕ) (hi : ℕ) where
  pub changed_length : (lo : ℕ) → length (changed f ws lo hi) ≡ length ws
  unfolding changed
  changed_length lo = words_length (length ws) (λ k. cond (between lo hi k) (f k (get_or ws k 0)) (get_or ws k 0))

  pub changed_at : (lo k : ℕ) → k < length ws → get_or (changed f ws lo hi) k 0 ≡ cond (between lo hi k) (f k (get_or ws k 0)) (get_or ws k 0)
  unfolding changed
  changed_at lo k h = words_at_lem (length ws) (λ j. cond (between lo hi j) (f j (get_or ws j 0)) (get_or ws j 0)) k h

  pub changed_in : (lo k : ℕ) → k < length ws → lo ≤ k → k < hi → get_or (changed f ws lo hi) k 0 ≡ f k (get_or ws k 0)
  changed_in lo k h a b = changed_at lo k h ∙ ap (λ c. cond c (f k (get_or ws k 0)) (get_or ws k 0)) (inside lo hi k a b)

  pub changed_out : (lo k : ℕ) → k < length ws → between lo hi k ≡ false → get_or (changed f ws lo hi) k 0 ≡ get_or ws k 0
  changed_out lo k h e = changed_at lo k h ∙ ap (λ c. cond c (f k (get_or ws k 0)) (get_or ws k 0)) e

  -- nothing of the range is left in the memory
  pub changed_end : (lo : ℕ) → min hi (length ws) ≤ lo → changed f ws lo hi ≡ ws
  unfolding changed
  changed_end lo h =
      sym (words_ext ws (length ws) (λ k. cond (between lo hi k) (f k (get_or ws k 0)) (get_or ws k 0)) refl
      (λ k i. sym (ap (λ c. cond c (f k (get_or ws k 0)) (get_or ws k 0)) (out k i))))
    where
      out : (k : ℕ) → k < length ws → between lo hi k ≡ false
      out k i = ⊎_elim (λ a. above lo hi k (omega arith)) (λ a. below lo hi k (omega arith)) (le_or_lt lo k)

  -- the word at the lower end
  pub changed_more : (i v : ℕ) → i < hi → i < length ws → v ≡ f i (get_or ws i 0) → changed f (set ws i v) (i + 1) hi ≡ changed f ws i hi
  unfolding changed
  changed_more i v h l e =
      words_same (length (set ws i v)) (length ws) _ _ (length-set ws i v)
      (λ k n. ⊎_elim (at_place k) (elsewhere k) (same_or_not k i))
    where
      at_place : (k : ℕ) → k ≡ i
          → cond (between (i + 1) hi k) (f k (get_or (set ws i v) k 0)) (get_or (set ws i v) k 0) ≡ cond (between i hi k) (f k (get_or ws k 0)) (get_or ws k 0)
      at_place k z =
          ap (λ c. cond c (f k (get_or (set ws i v) k 0)) (get_or (set ws i v) k 0)) (below (i + 1) hi k (omega arith))
          ∙ ap (λ j. get_or (set ws i v) j 0) z ∙ get_or-set_same ws i v 0 l ∙ e ∙ ap (λ j. f j (get_or ws j 0)) (sym z)
          ∙ sym (ap (λ c. cond c (f k (get_or ws k 0)) (get_or ws k 0)) (inside i hi k (omega arith) (omega arith)))

      elsewhere : (k : ℕ) → (k ≡ i → ⊥)
          → cond (between (i + 1) hi k) (f k (get_or (set ws i v) k 0)) (get_or (set ws i v) k 0) ≡ cond (between i hi k) (f k (get_or ws k 0)) (get_or ws k 0)
      elsewhere k z =
          ap (λ c. cond c (f k (get_or (set ws i v) k 0)) (get_or (set ws i v) k 0)) (between_other i hi k z)
          ∙ ap (λ w. cond (between i hi k) (f k w) w) (get_or-set_other ws i k v 0 z)

-- every word of a memory
pub changed_all : (f : ℕ → ℕ → ℕ) (g : ℕ → ℕ) (ws : List ℕ) → ((k : ℕ) → k < length ws → f k (get_or ws k 0) ≡ g k)
    → changed f ws 0 (length ws) ≡ words (length ws) g
changed_all f g ws h =
    words_ext (changed f ws 0 (length ws)) (length ws) g (changed_length f ws (length ws) 0)
    (λ k i. changed_in f ws (length ws) 0 k i (omega arith) i ∙ h k i)

-- a memory that is filled from its start, whatever stood there
module _ (g : ℕ → ℕ) (ws : List ℕ) where
  pub fill_begin : changed (λ k w. g k) ws 0 (length ws) ≡ words (length ws) g
  fill_begin = changed_all (λ k w. g k) g ws (λ k h. refl)

  pub fill_more : (e i v : ℕ) → i < e → i < length ws → v ≡ g i → changed (λ k w. g k) (set ws i v) (i + 1) e ≡ changed (λ k w. g k) ws i e
  fill_more e i v h l z = changed_more (λ k w. g k) ws e i v h l z

  pub fill_end : (e i : ℕ) → length ws ≤ i → changed (λ k w. g k) ws i e ≡ ws
  fill_end e i h = changed_end (λ k w. g k) ws e i (omega arith)

-- as many words as there are places
pub copied_all : (from ws : List ℕ) → length from ≡ length ws → copied from ws ≡ from
unfolding copied
copied_all from ws e =
    words_ext (changed (λ k w. get_or from k 0) ws 0 (length from)) (length from) (λ k. get_or from k 0)
    (changed_length (λ k w. get_or from k 0) ws (length from) 0 ∙ sym e)
    (λ k h. changed_in (λ k w. get_or from k 0) ws (length from) 0 k (omega arith) (omega arith) h)
    ∙ sym (words_ext from (length from) (λ k. get_or from k 0) refl (λ k h. refl))
