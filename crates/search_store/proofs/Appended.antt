-- A standing put at place n: it stands there with its parent and its letter, the ones below stay, and nothing past it changes.
-- Assumes nothing.
use Prim.Native.Nat.{ℕ, ◌+◌, ◌*◌, ◌-◌, ◌≤◌, ◌<◌}
use native.Mathlib.Omega.{arith}
use mathlib.Core.Path.{◌≡◌, refl, sym, ◌∙◌, ap}
use mathlib.Core.Logic.{⊎_elim}
use mathlib.Core.Bool.{Bool, true, false}
use mathlib.Core.List.{List, [], ◌∷◌, ◌++◌}
use lib.ListN.{length, get_or, set, take, drop, length-append, length-set, length-drop, get_or-append, get_or-eq_default}
use lib.Seq.{ext_get_or, length-take-le, get_or-take, get_or-drop, get_or-set_same, get_or-set_other, drop-set-lt}
use Rattle.std.proofs.lemmas.List.{get_or-append_right}
use Rattle.kat.proofs.Bools.{lt_or_le, le_or_lt}
use Rattle.memory.specs.Memory.{words}
use Rattle.memory.proofs.Words.{words_same, changed_in, changed_out, below, above}
use Rattle.search_standings.specs.Systems.{width}
use Rattle.search_store.specs.Store.{field_at, standing_at, parent_at, letter_at, standing_in, Room, Agree, copied, records_after, words_after}
use Rattle.search_store.proofs.Standing.{copy_at, copied_length}

-- 34 words put at a place change nothing else
module _ (to : List ℕ) (at : ℕ) (from : List ℕ) (base : ℕ) where
  pub copy_below : (k : ℕ) → k < at → at + 34 ≤ length to → get_or (copied to at from base 0) k 0 ≡ get_or to k 0
  unfolding copied
  copy_below k h l =
      changed_out (λ i w. get_or from (base + (i - at)) 0) to (at + 34) (at + 0) k (omega arith)
      (below (at + 0) (at + 34) k (omega arith))

  pub copy_above : (k : ℕ) → at + 34 ≤ k → get_or (copied to at from base 0) k 0 ≡ get_or to k 0
  unfolding copied
  copy_above k h =
      ⊎_elim
      (λ l.
      changed_out (λ i w. get_or from (base + (i - at)) 0) to (at + 34) (at + 0) k l (above (at + 0) (at + 34) k h))
      (λ l.
      get_or-eq_default (copied to at from base 0) 0 (omega (arith, copied_length to at from base 0)) ∙ sym (get_or-eq_default to 0 l))
      (lt_or_le k (length to))

-- 34 words of one memory, from base on, in the place of 34 of another
module _ (at base : ℕ) (from to : List ℕ) (fits : at + 34 ≤ length to) (enough : base + 34 ≤ length from) where
  abbrev mid : List ℕ
  mid = take 34 (drop base from)

  abbrev tail : List ℕ
  tail = drop (at + 34) to

  front_length : length (take at to) ≡ at
  front_length = length-take-le at to (omega arith)

  mid_length : length mid ≡ 34
  mid_length = length-take-le 34 (drop base from) (omega (arith, length-drop base from))

  whole_length : length (take at to ++ (mid ++ tail)) ≡ length to
  whole_length =
      omega (arith, length-append (take at to) (mid ++ tail), length-append mid tail, length-drop (at + 34) to, front_length, mid_length)

  in_mid : (k : ℕ) → at ≤ k → k < at + 34 → get_or (take at to ++ (mid ++ tail)) k 0 ≡ get_or from (base + (k - at)) 0
  in_mid k a b =
      get_or-append_right (take at to) (mid ++ tail) at k 0 front_length a ∙ get_or-append mid tail 0 (k - at) (omega (arith, mid_length))
      ∙ get_or-take 34 (drop base from) (k - at) 0 (omega arith) ∙ get_or-drop base from (k - at) 0

  in_tail : (k : ℕ) → at + 34 ≤ k → get_or (take at to ++ (mid ++ tail)) k 0 ≡ get_or to k 0
  in_tail k h =
      get_or-append_right (take at to) (mid ++ tail) at k 0 front_length (omega arith)
      ∙ get_or-append_right mid tail 34 (k - at) 0 mid_length (omega arith) ∙ get_or-drop (at + 34) to (k - at - 34) 0
      ∙ ap (λ i. get_or to i 0) (omega arith)

  pub copied_whole : take at to ++ (mid ++ tail) ≡ copied to at from base 0
  unfolding copied
  copied_whole =
      ext_get_or 0 (take at to ++ (mid ++ tail)) (copied to at from base 0) (whole_length ∙ sym (copied_length to at from base 0))
      (λ k h. ⊎_elim
      (λ b. ⊎_elim
      (λ a. in_mid k a b ∙ sym (changed_in (λ i w. get_or from (base + (i - at)) 0) to (at + 34) (at + 0) k (omega (arith, whole_length)) (omega arith) b))
      (λ a. get_or-append (take at to) (mid ++ tail) 0 k (omega (arith, front_length)) ∙ get_or-take at to k 0 a
      ∙ sym (copy_below to at from base k a fits))
      (le_or_lt at k))
      (λ b. in_tail k b ∙ sym (copy_above to at from base k b))
      (lt_or_le k (at + 34)))

-- the words from base on are those of s exactly where the lists are one
module _ (w s : List ℕ) (base : ℕ) (enough : base + 34 ≤ length w) (full : 34 ≤ length s) where
  pub told_agree : take 34 (drop base w) ≡ take 34 s → Agree w base s
  told_agree e j h =
      sym (get_or-take 34 (drop base w) j 0 h ∙ get_or-drop base w j 0) ∙ ap (λ l. get_or l j 0) e ∙ get_or-take 34 s j 0 h

  pub agree_told : Agree w base s → take 34 (drop base w) ≡ take 34 s
  agree_told f =
      let e : length (take 34 (drop base w)) ≡ 34 = length-take-le 34 (drop base w) (omega (arith, length-drop base w)) in
      ext_get_or 0 (take 34 (drop base w)) (take 34 s) (e ∙ sym (length-take-le 34 s full))
      (λ j i. let h : j < 34 = omega arith in
      get_or-take 34 (drop base w) j 0 h ∙ get_or-drop base w j 0 ∙ f j h ∙ sym (get_or-take 34 s j 0 h))

module _ (r : List (List ℕ)) (w : List ℕ) (n : ℕ) (s : List ℕ) (parent letter : ℕ) where
  -- the words of a ring standing, from its place on
  module _ (l : 40 * (n + 1) ≤ length w) where
    ring_word : (k : ℕ) → (k ≡ 40 * n + 34 → ⊥) → (k ≡ 40 * n + 35 → ⊥)
        → get_or (words_after true w n s parent letter) k 0 ≡ get_or (copied w (40 * n) s 0 0) k 0
    unfolding words_after
    ring_word k a b =
        get_or-set_other (set (copied w (40 * n) s 0 0) (40 * n + 34) parent) (40 * n + 35) k letter 0 b
        ∙ get_or-set_other (copied w (40 * n) s 0 0) (40 * n + 34) k parent 0 a

    ring_parent : get_or (words_after true w n s parent letter) (40 * n + 34) 0 ≡ parent
    unfolding words_after
    ring_parent =
        get_or-set_other (set (copied w (40 * n) s 0 0) (40 * n + 34) parent) (40 * n + 35) (40 * n + 34) letter 0 (λ e. omega arith)
        ∙ get_or-set_same (copied w (40 * n) s 0 0) (40 * n + 34) parent 0 (omega (arith, copied_length w (40 * n) s 0 0))

    ring_letter_lem : get_or (words_after true w n s parent letter) (40 * n + 35) 0 ≡ letter
    unfolding words_after
    ring_letter_lem =
        get_or-set_same (set (copied w (40 * n) s 0 0) (40 * n + 34) parent) (40 * n + 35) letter 0
        (omega (arith, length-set (copied w (40 * n) s 0 0) (40 * n + 34) parent, copied_length w (40 * n) s 0 0))

  pub records_length : (ring : Bool) → length (records_after ring r n s parent letter) ≡ length r
  unfolding records_after
  records_length true = refl
  records_length false = length-set r n (get_or s 0 0 ∷ get_or s 1 0 ∷ parent ∷ letter ∷ [])

  pub words_length : (ring : Bool) → length (words_after ring w n s parent letter) ≡ length w
  unfolding words_after
  words_length false = refl
  words_length true =
      length-set (set (copied w (40 * n) s 0 0) (40 * n + 34) parent) (40 * n + 35) letter
      ∙ length-set (copied w (40 * n) s 0 0) (40 * n + 34) parent ∙ copied_length w (40 * n) s 0 0

  -- nothing past the place changes
  pub records_past : (ring : Bool) (c : ℕ) → n < c → drop c (records_after ring r n s parent letter) ≡ drop c r
  unfolding records_after
  records_past true c h = refl
  records_past false c h = drop-set-lt c r n (get_or s 0 0 ∷ get_or s 1 0 ∷ parent ∷ letter ∷ []) h

  word_past : (ring : Bool) (c i : ℕ) → n < c → get_or (words_after ring w n s parent letter) (40 * c + i) 0 ≡ get_or w (40 * c + i) 0
  unfolding words_after
  word_past false c i h = refl
  word_past true c i h =
      get_or-set_other (set (copied w (40 * n) s 0 0) (40 * n + 34) parent) (40 * n + 35) (40 * c + i) letter 0 (λ e. omega arith)
      ∙ get_or-set_other (copied w (40 * n) s 0 0) (40 * n + 34) (40 * c + i) parent 0 (λ e. omega arith)
      ∙ copy_above w (40 * n) s 0 (40 * c + i) (omega arith)

  pub words_past : (ring : Bool) (c : ℕ) → n < c → drop (40 * c) (words_after ring w n s parent letter) ≡ drop (40 * c) w
  words_past ring c h =
      ext_get_or 0 (drop (40 * c) (words_after ring w n s parent letter)) (drop (40 * c) w)
      (length-drop (40 * c) (words_after ring w n s parent letter) ∙ ap (λ k. k - 40 * c) (words_length ring)
      ∙ sym (length-drop (40 * c) w))
      (λ i _.
      get_or-drop (40 * c) (words_after ring w n s parent letter) i 0 ∙ word_past ring c i h ∙ sym (get_or-drop (40 * c) w i 0))

  -- the memory of the other kind is as it was
  pub other_words : (ring : Bool) → ring ≡ false → words_after ring w n s parent letter ≡ w
  unfolding words_after
  other_words ring e = rw e refl

  pub other_records : (ring : Bool) → ring ≡ true → records_after ring r n s parent letter ≡ r
  unfolding records_after
  other_records ring e = rw e refl

  path_below : (i : ℕ) → i < n → get_or (records_after false r n s parent letter) i [] ≡ get_or r i []
  unfolding records_after
  path_below i h = get_or-set_other r n i (get_or s 0 0 ∷ get_or s 1 0 ∷ parent ∷ letter ∷ []) [] (λ e. omega arith)

  -- the standings below the place stay
  pub field_below : (ring : Bool) → Room ring r w (n + 1) → (i j : ℕ) → i < n → j < 40
      → field_at ring (records_after ring r n s parent letter) (words_after ring w n s parent letter) i j ≡ field_at ring r w i j
  unfolding field_at
  field_below true room i j h k =
      ring_word (room.turn refl) (40 * i + j) (λ e. omega arith) (λ e. omega arith)
      ∙ copy_below w (40 * n) s 0 (40 * i + j) (omega arith) (omega (arith, room.turn refl))
  field_below false room i j h k = ap (λ l. get_or l j 0) (path_below i h)

  -- what stands at the place
  path_here : n + 1 ≤ length r → get_or (records_after false r n s parent letter) n [] ≡ get_or s 0 0 ∷ get_or s 1 0 ∷ parent ∷ letter ∷ []
  unfolding records_after
  path_here l = get_or-set_same r n (get_or s 0 0 ∷ get_or s 1 0 ∷ parent ∷ letter ∷ []) [] (omega arith)

  ring_here : 40 * (n + 1) ≤ length w
      → words 34 (λ j. get_or (words_after true w n s parent letter) (40 * n + j) 0) ≡ words 34 (λ j. get_or s j 0)
  ring_here l =
      words_same 34 34 (λ j. get_or (words_after true w n s parent letter) (40 * n + j) 0) (λ j. get_or s j 0) refl
      (λ j h.
      let z : 0 + j ≡ j = omega arith in
      ring_word l (40 * n + j) (λ e. omega arith) (λ e. omega arith) ∙ copy_at (40 * n) s 0 w j h (omega arith)
      ∙ ap (λ k. get_or s k 0) z)

  pub standing_here : (ring : Bool) → Room ring r w (n + 1)
      → standing_at ring (records_after ring r n s parent letter) (words_after ring w n s parent letter) n ≡ standing_in ring s
  unfolding standing_at standing_in field_at width words
  standing_here false room = ap (λ l. get_or l 0 0 ∷ get_or l 1 0 ∷ []) (path_here (room.path refl))
  standing_here true room = ring_here (room.turn refl)

  pub parent_here : (ring : Bool) → Room ring r w (n + 1)
      → parent_at ring (records_after ring r n s parent letter) (words_after ring w n s parent letter) n ≡ parent
  unfolding parent_at field_at width
  parent_here false room = ap (λ l. get_or l 2 0) (path_here (room.path refl))
  parent_here true room = ring_parent (room.turn refl)

  pub letter_here : (ring : Bool) → Room ring r w (n + 1)
      → letter_at ring (records_after ring r n s parent letter) (words_after ring w n s parent letter) n ≡ letter
  unfolding letter_at field_at width
  letter_here false room = ap (λ l. get_or l 3 0) (path_here (room.path refl))
  letter_here true room = ring_letter_lem (room.turn refl)
