-- The slot of a list of cells as a loop computes it; and lists of cells compared one by one.
-- Assumes nothing.
use Prim.Native.Nat.{ℕ, suc, ◌+◌, ◌%◌, ◌≤◌, ◌<◌}
use native.Mathlib.Numerals.{add-one}
use mathlib.Core.Path.{◌≡◌, sym, ◌∙◌, ap}
use mathlib.Core.Bool.{true, false}
use mathlib.Core.List.{List}
use lib.ListN.{length, get_or, drop, drop_of_length-le}
use lib.Seq.{drop-cons, ext_get_or}
use Rattle.kat.proofs.Bools.{false_of_not}
use Rattle.claims.specs.Bytes.{same}
use Rattle.claims.proofs.Results.{same_is_equal, same_self}
use Rattle.sheet_index.specs.Index.{mixed, hash_from, slot_of}

module _ (l : List ℕ) where
  -- one cell more
  pub hash_more : (h v j c : ℕ) → j < length l → c ≡ get_or l j 0 → v ≡ mixed h c → hash_from v (drop (j + 1) l) ≡ hash_from h (drop j l)
  unfolding hash_from
  hash_more h v j c k e z =
      ap (λ i. hash_from v (drop i l)) (add-one j) ∙ ap (λ w. hash_from w (drop (suc j) l)) (z ∙ ap (mixed h) e)
      ∙ sym (ap (hash_from h) (drop-cons l j 0 k))

  -- no cell is left
  pub hash_end : (h j : ℕ) → length l ≤ j → hash_from h (drop j l) ≡ hash_from 0 l → h % 8192 ≡ slot_of l
  unfolding hash_from slot_of
  hash_end h j k e = ap (λ w. w % 8192) (sym (ap (hash_from h) (drop_of_length-le l k)) ∙ e)

module _ (l m : List ℕ) where
  -- cells that are equal one by one
  pub same_all : length l ≡ length m → ((i : ℕ) → i < length l → get_or l i 0 ≡ get_or m i 0) → same l m ≡ true
  same_all e h = ap (same l) (sym (ext_get_or 0 l m e h)) ∙ same_self l

  -- a cell that is not
  pub same_not : (i : ℕ) → (get_or l i 0 ≡ get_or m i 0 → ⊥) → same l m ≡ false
  same_not i d = false_of_not (same l m) (λ e. d (ap (λ k. get_or k i 0) (same_is_equal l m e)))
