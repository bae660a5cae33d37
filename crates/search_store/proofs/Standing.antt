-- One standing in the memory, word by word: two standings are equal where their words are; what a search for a place has found.
-- Assumes nothing.
use Prim.Native.Nat.{ℕ, ◌+◌, ◌*◌, ◌-◌, ◌≤◌, ◌<◌}
use native.Mathlib.Omega.{arith}
use mathlib.Core.Path.{◌≡◌, refl, sym, ◌∙◌, ap}
use mathlib.Core.Bool.{Bool, true, false, true≢false}
use mathlib.Core.Logic.{⊎_elim}
use mathlib.Core.List.{List, [], ◌∷◌}
use lib.ListN.{length, get_or, set, take}
use Rattle.std.specs.Prelude.{Option, Some, None}
use Rattle.std.specs.Option.{is_some}
use Rattle.memory.specs.Memory.{words, changed}
use lib.Seq.{length-take-le, get_or-take}
use Rattle.memory.proofs.Words.{words_same, words_at_lem, words_ext, fill_more, changed_length, changed_in, changed_end}
use Rattle.kat.proofs.Bools.{le_or_lt}
use Rattle.search_standings.specs.Systems.{width}
use Rattle.search_store.specs.Store.{field_at, standing_at, parent_at, letter_at, standing_in, Place, Agree, copied, records_after, words_after}

-- the place of an equal standing, or none
module _ (at : ℕ → List ℕ) (n : ℕ) (s : List ℕ) where
  -- what is told of a place by whether one was found
  pub place_some : (p : Option ℕ) → is_some p ≡ true → Place at n s p → (i : ℕ) × Place at n s (Some i)
  place_some (Some i) e h = (i, h)
  place_some None e h = absurd (true≢false (sym e))

  pub place_none : (p : Option ℕ) → is_some p ≡ false → Place at n s p → Place at n s None
  place_none (Some i) e h = absurd (true≢false e)
  place_none None e h = h

  -- one place further down
  pub none_below : (i j : ℕ) → i ≡ j + 1 → ((k : ℕ) → i ≤ k → k < n → at k ≡ s → ⊥) → (at j ≡ s → ⊥)
      → (k : ℕ) → j ≤ k → k < n → at k ≡ s → ⊥
  none_below i j q f d k a l e = ⊎_elim (λ b. d (ap at (omega arith) ∙ e)) (λ b. f k (omega arith) l e) (le_or_lt k j)

module _ (r : List (List ℕ)) (w : List ℕ) (i : ℕ) (s : List ℕ) where
  -- two words are equal
  pub path_equal : get_or (get_or r i []) 0 0 ≡ get_or s 0 0 → get_or (get_or r i []) 1 0 ≡ get_or s 1 0 → standing_at false r w i ≡ standing_in false s
  unfolding standing_at standing_in field_at width words
  path_equal a b = cc

  pub path_first : standing_at false r w i ≡ standing_in false s → get_or (get_or r i []) 0 0 ≡ get_or s 0 0
  unfolding standing_at standing_in field_at width words
  path_first e = cc

  pub path_second : standing_at false r w i ≡ standing_in false s → get_or (get_or r i []) 1 0 ≡ get_or s 1 0
  unfolding standing_at standing_in field_at width words
  path_second e = cc

  -- 34 words are equal
  pub ring_equal : Agree w (40 * i) s → standing_at true r w i ≡ standing_in true s
  unfolding standing_at standing_in field_at width
  ring_equal a = words_same 34 34 _ _ refl a

  pub ring_agree : standing_at true r w i ≡ standing_in true s → Agree w (40 * i) s
  unfolding standing_at standing_in field_at width
  ring_agree e j h = sym (words_at_lem 34 (λ k. get_or w (40 * i + k) 0) j h) ∙ ap (λ l. get_or l j 0) e ∙ words_at_lem 34 (λ k. get_or s k 0) j h

pub copied_length : (to : List ℕ) (at : ℕ) (from : List ℕ) (base j : ℕ) → length (copied to at from base j) ≡ length to
unfolding copied
copied_length to at from base j = changed_length (λ k w. get_or from (base + (k - at)) 0) to (at + 34) (at + j)

-- 34 words copied from one memory to another
module _ (at : ℕ) (from : List ℕ) (base : ℕ) where
  pub copy_at : (to : List ℕ) (j : ℕ) → j < 34 → at + 34 ≤ length to → get_or (copied to at from base 0) (at + j) 0 ≡ get_or from (base + j) 0
  unfolding copied
  copy_at to j h l =
      changed_in (λ k w. get_or from (base + (k - at)) 0) to (at + 34) (at + 0) (at + j) (omega arith) (omega arith) (omega arith)
      ∙ ap (λ k. get_or from (base + k) 0) (omega arith)

-- the words behind a standing
module _ (ring : Bool) (r : List (List ℕ)) (w : List ℕ) (i : ℕ) where
  pub parent_path : ring ≡ false → get_or (get_or r i []) 2 0 ≡ parent_at ring r w i
  unfolding parent_at field_at width
  parent_path e = rw e refl

  pub parent_ring : ring ≡ true → get_or w (40 * i + 34) 0 ≡ parent_at ring r w i
  unfolding parent_at field_at width
  parent_ring e = rw e refl

  pub letter_path : ring ≡ false → get_or (get_or r i []) 3 0 ≡ letter_at ring r w i
  unfolding letter_at field_at width
  letter_path e = rw e refl

  pub letter_ring : ring ≡ true → get_or w (40 * i + 35) 0 ≡ letter_at ring r w i
  unfolding letter_at field_at width
  letter_ring e = rw e refl

-- what `append` leaves, by the kind of the claim
module _ (ring : Bool) (r : List (List ℕ)) (n : ℕ) (s : List ℕ) (parent letter : ℕ) where
  pub records_path : ring ≡ false → set r n (get_or s 0 0 ∷ get_or s 1 0 ∷ parent ∷ letter ∷ []) ≡ records_after ring r n s parent letter
  unfolding records_after
  records_path e = rw e refl

module _ (ring : Bool) (w : List ℕ) (n : ℕ) (s : List ℕ) (parent letter : ℕ) where
  pub words_path : ring ≡ false → w ≡ words_after ring w n s parent letter
  unfolding words_after
  words_path e = rw e refl

  pub words_ring : ring ≡ true → (v : List ℕ) → v ≡ copied w (40 * n) s 0 0
      → set (set v (40 * n + 34) parent) (40 * n + 35) letter ≡ words_after ring w n s parent letter
  unfolding words_after
  words_ring e v h = rw (e, h) refl

-- the first words of a list
pub first_words : (n : ℕ) (xs : List ℕ) → n ≤ length xs → take n xs ≡ words n (λ j. get_or xs j 0)
first_words n xs h =
    words_ext (take n xs) n (λ j. get_or xs j 0) (length-take-le n xs h) (λ j l. get_or-take n xs j 0 l)

-- two words stored at the start
pub two_words : (to : List ℕ) (a b : ℕ) → 2 ≤ length to → take 2 (set (set to 0 a) 1 b) ≡ a ∷ b ∷ []
two_words [] a b h = absurd (omega arith)
two_words (x ∷ []) a b h = absurd (omega arith)
two_words (x ∷ y ∷ xs) a b h = refl

-- what `stand` leaves, by the kind of the claim
module _ (ring : Bool) (r : List (List ℕ)) (w : List ℕ) (i : ℕ) (to : List ℕ) where
  pub load_path : ring ≡ false → take 2 to ≡ get_or (get_or r i []) 0 0 ∷ get_or (get_or r i []) 1 0 ∷ []
      → take (width ring) to ≡ standing_at ring r w i
  unfolding standing_at field_at width words
  load_path e h = rw e h

  ring_loaded : (from : List ℕ) → 34 ≤ length from → to ≡ copied from 0 w (40 * i) 0
      → take 34 to ≡ words 34 (λ j. get_or w (40 * i + j) 0)
  ring_loaded from l h =
      first_words 34 to (omega (arith, ap length h, copied_length from 0 w (40 * i) 0))
      ∙ words_same 34 34 (λ j. get_or to j 0) (λ j. get_or w (40 * i + j) 0) refl
      (λ j k.
      let z : j ≡ 0 + j = omega arith in
      ap (λ t. get_or t j 0) h ∙ ap (λ m. get_or (copied from 0 w (40 * i) 0) m 0) z ∙ copy_at 0 w (40 * i) from j k (omega arith))

  pub load_ring : ring ≡ true → (from : List ℕ) → 34 ≤ length from → to ≡ copied from 0 w (40 * i) 0
      → take (width ring) to ≡ standing_at ring r w i
  unfolding standing_at field_at width
  load_ring e from l h = rw e (ring_loaded from l h)
