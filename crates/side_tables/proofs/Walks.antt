-- A walk of a set by its trailing zeros that changes the memory for each member; and the words that stores leave, as the changes of a table
-- name them.
-- Assumes nothing.
use Prim.Native.Nat.{ℕ, ◌+◌, ◌-◌, ◌*◌, ◌^◌, ◌<◌}
use mathlib.Core.Path.{◌≡◌, refl, sym, ◌∙◌, ap}
use mathlib.Core.Bool.{Bool, cond}
use mathlib.Core.List.{List, [], ◌∷◌}
use lib.Bits.{bit_and, or_zero_l, or_zero_r, and_zero_r}
use lib.Count.{count_trailing_zeros}
use lib.ListN.{length, get_or, set, length-set}
use lib.Seq.{set-get_or}
use Rattle.kat.specs.Lists.{upto}
use Rattle.claims.specs.Query.{bit}
use Rattle.bits.specs.Sets.{including, members}
use borrow.Author.Tests.{lt-ltb}
use Rattle.bits.proofs.Rows.{including_in}
use Rattle.bits.proofs.Members.{number_none}
use Rattle.bits.proofs.Lowest.{Lowest}
use Rattle.memory.specs.Memory.{for_each}
use Rattle.memory.proofs.Walks.{each_length}
use Rattle.side_tables.specs.InPlace.{put_into, put_at_atom, kept_if, cut_at, marked_at, lettered_at, joined_at, joined, added}
use Rattle.side_tables.specs.Layout.{ENDS, LETTERS, ROW}

module _ (g : ℕ → List ℕ → List ℕ) where
  -- the lowest member's change is done
  pub members_more : {s : ℕ} → Lowest 64 s → (ws : List ℕ)
      → for_each g (members (bit_and s (s - 1))) (g (count_trailing_zeros 64 s) ws) ≡ for_each g (members s) ws
  unfolding for_each
  members_more {s} l ws = sym (ap (λ ns. for_each g ns ws) l.members)

  -- nothing is left
  pub members_end : (s : ℕ) (ws : List ℕ) → s ≡ 0 → for_each g (members s) ws ≡ ws
  unfolding for_each
  members_end s ws e = ap (λ k. for_each g (members k) ws) e ∙ ap (λ ns. for_each g ns ws) (number_none 0 64)

-- no change makes the table longer or shorter
pub set_twice_length : (t : List ℕ) (i j v w : ℕ) → length (set (set t i v) j w) ≡ length t
set_twice_length t i j v w = length-set (set t i v) j w ∙ length-set t i v

pub marked_length : (i k : ℕ) (b : Bool) (t : List ℕ) → length (marked_at i k b t) ≡ length t
unfolding marked_at
marked_length i k b t = length-set t i _

pub put_length : (base f k : ℕ) (t : List ℕ) → length (put_into base f k t) ≡ length t
unfolding put_into
put_length base f k t = length-set t (base + k) _

pub joined_at_length : (from to a : ℕ) (t : List ℕ) → length (joined_at from to a t) ≡ length t
unfolding joined_at
joined_at_length from to a t = each_length _ (put_length (ROW * a + 1) (bit_and (get_or t (ROW * a) 0) to)) (members (bit_and (get_or t (ENDS + a) 0) from)) t

pub cut_length : (from to x y a : ℕ) (t : List ℕ) → length (cut_at from to x y a t) ≡ length t
unfolding cut_at
cut_length from to x y a t =
    let v = kept_if (bit a x) to (get_or t (ROW * a) 0) in
    set_twice_length t (ROW * a) (ENDS + a) v (kept_if (bit a y) from (get_or (set t (ROW * a) v) (ENDS + a) 0))

pub put_atom_length : (base f a : ℕ) (t : List ℕ) → length (put_at_atom base f a t) ≡ length t
unfolding put_at_atom
put_atom_length base f a t = length-set t (ROW * a + base) _

pub lettered_length : (k s r : ℕ) (t : List ℕ) → length (lettered_at k s r t) ≡ length t
unfolding lettered_at
lettered_length k s r t = marked_length (LETTERS + r) k (bit r s) t

-- the word that is stored is the one with the bit
pub mark_made : (t u : List ℕ) (i k w v : ℕ) (b : Bool) → w ≡ get_or t i 0 → v ≡ cond b (including 64 w k) w → u ≡ set t i v → u ≡ marked_at i k b t
unfolding marked_at
mark_made t u i k w v b e f h = h ∙ ap (set t i) (f ∙ ap (λ x. cond b (including 64 x k) x) e)

pub lettered_made : (k s r : ℕ) (t u : List ℕ) (b : Bool) → b ≡ bit r s → u ≡ marked_at (LETTERS + r) k b t → u ≡ lettered_at k s r t
unfolding lettered_at
lettered_made k s r t u b e h = h ∙ ap (λ y. marked_at (LETTERS + r) k y t) e

pub cut_made : (from to x y a : ℕ) (t : List ℕ) (b c : Bool) (v w : ℕ) → b ≡ bit a x → v ≡ kept_if b to (get_or t (ROW * a) 0)
    → c ≡ bit a y → w ≡ kept_if c from (get_or (set t (ROW * a) v) (ENDS + a) 0)
    → set (set t (ROW * a) v) (ENDS + a) w ≡ cut_at from to x y a t
unfolding cut_at
cut_made from to x y a t b c v w e f g h =
    let z : v ≡ kept_if (bit a x) to (get_or t (ROW * a) 0) = f ∙ ap (λ q. kept_if q to (get_or t (ROW * a) 0)) e in
    ap (set (set t (ROW * a) v) (ENDS + a)) (h ∙ ap (λ q. kept_if q from (get_or (set t (ROW * a) v) (ENDS + a) 0)) g)
    ∙ ap (λ u. set (set t (ROW * a) u) (ENDS + a) (kept_if (bit a y) from (get_or (set t (ROW * a) u) (ENDS + a) 0))) z

-- nothing to join: none that may be last, or none that may be first
module _ (base : ℕ) where
  put_none : (ks t : List ℕ) → for_each (put_into base 0) ks t ≡ t
  unfolding for_each put_into
  put_none [] t = refl
  put_none (k ∷ ks) t =
      ap (for_each (put_into base 0) ks) (ap (set t (base + k)) (or_zero_r (get_or t (base + k) 0)) ∙ set-get_or t (base + k) 0) ∙ put_none ks t

each_same : (g : ℕ → List ℕ → List ℕ) → ((a : ℕ) (t : List ℕ) → g a t ≡ t) → (xs t : List ℕ) → for_each g xs t ≡ t
unfolding for_each
each_same g h [] t = refl
each_same g h (a ∷ xs) t = ap (for_each g xs) (h a t) ∙ each_same g h xs t

pub none_last : (from to : ℕ) (t : List ℕ) → from ≡ 0 → t ≡ joined from to t
unfolding joined joined_at
none_last from to t e =
    sym (each_same (joined_at from to)
    (λ a u. members_end (put_into (ROW * a + 1) (bit_and (get_or u (ROW * a) 0) to)) (bit_and (get_or u (ENDS + a) 0) from) u
    (ap (bit_and (get_or u (ENDS + a) 0)) e ∙ and_zero_r (get_or u (ENDS + a) 0)))
    (upto 0 64) t)

pub none_first : (from to : ℕ) (t : List ℕ) → to ≡ 0 → t ≡ joined from to t
unfolding joined joined_at
none_first from to t e =
    sym (each_same (joined_at from to)
    (λ a u. ap (λ f. for_each (put_into (ROW * a + 1) f) (members (bit_and (get_or u (ENDS + a) 0) from)) u)
    (ap (bit_and (get_or u (ROW * a) 0)) e ∙ and_zero_r (get_or u (ROW * a) 0))
    ∙ put_none (ROW * a + 1) (members (bit_and (get_or u (ENDS + a) 0) from)) u)
    (upto 0 64) t)

-- a new occurrence, set by set
pub added_made : (k f l g s : ℕ) → k < 64 → (t u v w x : List ℕ) (own : ℕ) → own ≡ including 64 0 k → u ≡ for_each (put_at_atom 0 own) (members f) t
    → v ≡ for_each (put_into ENDS own) (members l) u → w ≡ for_each (put_at_atom (k + 1) own) (members g) v → x ≡ for_each (lettered_at k s) (upto 0 16) w
    → x ≡ added k f l g s t
unfolding added
added_made k f l g s h t u v w x own e a b c d =
    let z : own ≡ 2 ^ k = e ∙ including_in 64 0 k h ∙ or_zero_l (2 ^ k) in
    d ∙ ap (for_each (lettered_at k s) (upto 0 16))
    (c ∙ ap (for_each (put_at_atom (k + 1) own) (members g)) (b ∙ ap (for_each (put_into ENDS own) (members l)) a)
    ∙ ap (λ o. for_each (put_at_atom (k + 1) o) (members g) (for_each (put_into ENDS o) (members l) (for_each (put_at_atom 0 o) (members f) t))) z)
    ∙ sym (rw (lt-ltb k 64 h) refl)
