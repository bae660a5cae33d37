-- What stands in a table after a cut and after a new occurrence, place by place.
-- Assumes nothing.
use Prim.Native.Nat.{ℕ, ◌+◌, ◌*◌, ◌^◌, ◌≤◌, ◌<◌}
use native.Mathlib.Omega.{arith}
use mathlib.Core.Path.{◌≡◌, refl, sym, ◌∙◌, ap}
use mathlib.Core.Logic.{⊎_elim}
use mathlib.Core.Logic.◌⊎◌.{inl, inr}
use mathlib.Core.Bool.{Bool, true, false, cond, ◌||◌}
use mathlib.Core.List.{List, [], ◌∷◌}
use lib.ListN.{length, get_or, set, length-set}
use lib.Seq.{get_or-set_same, get_or-set_other}
use lib.Bits.{bit_or}
use lib.Dec.{eqb}
use borrow.Author.Tests.{lt-ltb, eq-eqb, ne_eqb}
use Rattle.kat.specs.Lists.{In, here, there, member, upto}
use Rattle.claims.specs.Query.{bit}
use Rattle.bits.specs.Sets.{including, members}
use Rattle.bits.proofs.Members.{number_in, member_number}
use Rattle.bits.proofs.Rows.{including_in}
use Rattle.memory.specs.Memory.{for_each}
use Rattle.memory.proofs.Walks.{each_length}
use Rattle.memory.proofs.Words.{same_or_not}
use Rattle.side_tables.specs.InPlace.{kept_if, cut_at, cut, marked_at, lettered_at, put_into, put_at_atom, added}
use Rattle.side_tables.specs.Layout.{ENDS, LETTERS, NULL, TABLE, ROW}
use Rattle.side_tables.proofs.Walks.{cut_length, put_length, put_atom_length, lettered_length}
use Rattle.side_tables.proofs.Changes.{OfAtom, of_one_atom, of_no_atom, twice, put_member, put_elsewhere}
use Rattle.side_tables.proofs.EachNumber as each

-- a cut
module _ (from to x y : ℕ) where
  cut_others : (a : ℕ) (t : List ℕ) (i : ℕ) → a < 64 → length t ≡ TABLE → (OfAtom a i → ⊥) → get_or (cut_at from to x y a t) i 0 ≡ get_or t i 0
  unfolding cut_at
  cut_others a t i h l o =
      let v = kept_if (bit a x) to (get_or t (ROW * a) 0) in
      get_or-set_other (set t (ROW * a) v) (ENDS + a) i (kept_if (bit a y) from (get_or (set t (ROW * a) v) (ENDS + a) 0)) 0 (λ e. o (inr (e, h)))
      ∙ get_or-set_other t (ROW * a) i v 0 (λ e. o (inl (omega arith, omega arith, omega arith)))

  module _ (t : List ℕ) (long : length t ≡ TABLE) where
    cut_at_lem : (a : ℕ) → a < 64 → each.Reached (cut_at from to x y) (cut_length from to x y) OfAtom of_one_atom 64 cut_others t (cut from to x y t) a
    unfolding cut
    cut_at_lem a h = each.each_own (cut_at from to x y) (cut_length from to x y) OfAtom of_one_atom 64 cut_others 0 64 a t (omega arith) long (omega arith) (omega arith)

    -- those that may be first, those that may be last, and the steps after an occurrence
    pub cut_first : (a : ℕ) → a < 64 → get_or (cut from to x y t) (ROW * a) 0 ≡ kept_if (bit a x) to (get_or t (ROW * a) 0)
    unfolding cut_at
    cut_first a h =
        let r = cut_at_lem a h in
        let u = r.before in
        let v = kept_if (bit a x) to (get_or u (ROW * a) 0) in
        let o : OfAtom a (ROW * a) = inl (omega arith, omega arith, omega arith) in
        r.after (ROW * a) o
        ∙ get_or-set_other (set u (ROW * a) v) (ENDS + a) (ROW * a) (kept_if (bit a y) from (get_or (set u (ROW * a) v) (ENDS + a) 0)) 0 (λ e. omega arith)
        ∙ get_or-set_same u (ROW * a) v 0 (omega (arith, r.long))
        ∙ ap (kept_if (bit a x) to) (r.same (ROW * a) o)

    pub cut_end : (a : ℕ) → a < 64 → get_or (cut from to x y t) (ENDS + a) 0 ≡ kept_if (bit a y) from (get_or t (ENDS + a) 0)
    unfolding cut_at
    cut_end a h =
        let r = cut_at_lem a h in
        let u = r.before in
        let v = kept_if (bit a x) to (get_or u (ROW * a) 0) in
        let o : OfAtom a (ENDS + a) = inr (refl, h) in
        r.after (ENDS + a) o
        ∙ get_or-set_same (set u (ROW * a) v) (ENDS + a) (kept_if (bit a y) from (get_or (set u (ROW * a) v) (ENDS + a) 0)) 0
        (omega (arith, r.long, length-set u (ROW * a) v))
        ∙ ap (kept_if (bit a y) from) (get_or-set_other u (ROW * a) (ENDS + a) v 0 (λ e. omega arith) ∙ r.same (ENDS + a) o)

    pub cut_step : (a p : ℕ) → a < 64 → p < 64 → get_or (cut from to x y t) (ROW * a + 1 + p) 0 ≡ get_or t (ROW * a + 1 + p) 0
    unfolding cut_at
    cut_step a p h i =
        let r = cut_at_lem a h in
        let u = r.before in
        let v = kept_if (bit a x) to (get_or u (ROW * a) 0) in
        let o : OfAtom a (ROW * a + 1 + p) = inl (omega arith, omega arith, omega arith) in
        r.after (ROW * a + 1 + p) o
        ∙ get_or-set_other (set u (ROW * a) v) (ENDS + a) (ROW * a + 1 + p) (kept_if (bit a y) from (get_or (set u (ROW * a) v) (ENDS + a) 0)) 0 (λ e. omega arith)
        ∙ get_or-set_other u (ROW * a) (ROW * a + 1 + p) v 0 (λ e. omega arith)
        ∙ r.same (ROW * a + 1 + p) o

    pub cut_above : (i : ℕ) → LETTERS ≤ i → get_or (cut from to x y t) i 0 ≡ get_or t i 0
    unfolding cut
    cut_above i h =
        each.each_others (cut_at from to x y) (cut_length from to x y) OfAtom of_one_atom 64 cut_others 0 64 t i (omega arith) long
        (λ a x y. of_no_atom a i h)

    pub cut_long : length (cut from to x y t) ≡ TABLE
    unfolding cut
    cut_long = each_length (cut_at from to x y) (cut_length from to x y) (upto 0 64) t ∙ long

-- one word marked
marked_in : (i k : ℕ) (b : Bool) (t : List ℕ) → i < length t → get_or (marked_at i k b t) i 0 ≡ cond b (including 64 (get_or t i 0) k) (get_or t i 0)
unfolding marked_at
marked_in i k b t h = get_or-set_same t i (cond b (including 64 (get_or t i 0) k) (get_or t i 0)) 0 h

marked_out : (i k j : ℕ) (b : Bool) (t : List ℕ) → (j ≡ i → ⊥) → get_or (marked_at i k b t) j 0 ≡ get_or t j 0
unfolding marked_at
marked_out i k j b t h = get_or-set_other t i j (cond b (including 64 (get_or t i 0) k) (get_or t i 0)) 0 h

-- a word with the bit in it, where the test holds
abbrev pub with_bit : Bool → ℕ → ℕ → ℕ
with_bit b k w = cond b (including 64 w k) w

-- a set put into a word of the steps at each atom of a set
module _ (base f : ℕ) where
  atom_beside : (a i : ℕ) (t : List ℕ) → (i ≡ ROW * a + base → ⊥) → get_or (put_at_atom base f a t) i 0 ≡ get_or t i 0
  unfolding put_at_atom
  atom_beside a i t o = get_or-set_other t (ROW * a + base) i (bit_or (get_or t (ROW * a + base) 0) f) 0 o

  atom_at : (a : ℕ) (t : List ℕ) → ROW * a + base < length t → get_or (put_at_atom base f a t) (ROW * a + base) 0 ≡ bit_or (get_or t (ROW * a + base) 0) f
  unfolding put_at_atom
  atom_at a t h = get_or-set_same t (ROW * a + base) (bit_or (get_or t (ROW * a + base) 0) f) 0 h

  listed_beside : (xs t : List ℕ) (i : ℕ) → ((a : ℕ) → In a xs → i ≡ ROW * a + base → ⊥) → get_or (for_each (put_at_atom base f) xs t) i 0 ≡ get_or t i 0
  unfolding for_each
  listed_beside [] t i o = refl
  listed_beside (a ∷ xs) t i o = listed_beside xs (put_at_atom base f a t) i (λ b m. o b (there m)) ∙ atom_beside a i t (o a (here refl))

  each_beside : (s i : ℕ) (t : List ℕ) → ((a : ℕ) → a < 64 → i ≡ ROW * a + base → ⊥) → get_or (for_each (put_at_atom base f) (members s) t) i 0 ≡ get_or t i 0
  each_beside s i t o = listed_beside (members s) t i (λ a m e. let (x, y, z) = number_in 0 64 s a m in o a y e)

  each_at : (xs t : List ℕ) (b : ℕ) → ROW * b + base < length t
      → get_or (for_each (put_at_atom base f) xs t) (ROW * b + base) 0 ≡ cond (member b xs) (bit_or (get_or t (ROW * b + base) 0) f) (get_or t (ROW * b + base) 0)
  unfolding for_each
  each_at [] t b h = refl
  each_at (a ∷ xs) t b h =
      each_at xs (put_at_atom base f a t) b (omega (arith, put_atom_length base f a t)) ∙ ⊎_elim hit miss (same_or_not b a)
    where
      w : ℕ
      w = get_or t (ROW * b + base) 0

      hit : b ≡ a → cond (member b xs) (bit_or (get_or (put_at_atom base f a t) (ROW * b + base) 0) f) (get_or (put_at_atom base f a t) (ROW * b + base) 0)
          ≡ cond (eqb b a || member b xs) (bit_or w f) w
      hit e =
          let z : get_or (put_at_atom base f a t) (ROW * b + base) 0 ≡ bit_or w f =
          ap (λ c. get_or (put_at_atom base f c t) (ROW * b + base) 0) (sym e) ∙ atom_at b t h in
          ap (λ x. cond (member b xs) (bit_or x f) x) z ∙ twice base f (member b xs) w
          ∙ sym (ap (λ c. cond (c || member b xs) (bit_or w f) w) (eq-eqb b a e))

      miss : (b ≡ a → ⊥) → cond (member b xs) (bit_or (get_or (put_at_atom base f a t) (ROW * b + base) 0) f) (get_or (put_at_atom base f a t) (ROW * b + base) 0)
          ≡ cond (eqb b a || member b xs) (bit_or w f) w
      miss e =
          ap (λ x. cond (member b xs) (bit_or x f) x) (atom_beside a (ROW * b + base) t (λ z. e (omega arith)))
          ∙ sym (ap (λ c. cond (c || member b xs) (bit_or w f) w) (ne_eqb b a e))

-- a new occurrence
module _ (k f l g s : ℕ) (room : k < 64) where
  letter_others : (r : ℕ) (t : List ℕ) (i : ℕ) → r < 16 → length t ≡ TABLE → (i ≡ LETTERS + r → ⊥) → get_or (lettered_at k s r t) i 0 ≡ get_or t i 0
  unfolding lettered_at
  letter_others r t i h z o = marked_out (LETTERS + r) k i (bit r s) t o

  letters_apart : (q r i : ℕ) → i ≡ LETTERS + q → i ≡ LETTERS + r → q ≡ r
  letters_apart q r i x y = omega arith

  -- a bit where a test holds
  as_bit : (b : Bool) (w : ℕ) → cond b (bit_or w (2 ^ k)) w ≡ with_bit b k w
  as_bit true w = sym (including_in 64 w k room)
  as_bit false w = refl

  module _ (t : List ℕ) (long : length t ≡ TABLE) where
    abbrev own : ℕ
    own = 2 ^ k

    abbrev t1 : List ℕ
    t1 = for_each (put_at_atom 0 own) (members f) t

    abbrev t2 : List ℕ
    t2 = for_each (put_into ENDS own) (members l) t1

    abbrev atoms : List ℕ
    atoms = for_each (put_at_atom (k + 1) own) (members g) t2

    long1 : length t1 ≡ TABLE
    long1 = each_length (put_at_atom 0 own) (put_atom_length 0 own) (members f) t ∙ long

    long2 : length t2 ≡ TABLE
    long2 = each_length (put_into ENDS own) (put_length ENDS own) (members l) t1 ∙ long1

    atoms_long : length atoms ≡ TABLE
    atoms_long = each_length (put_at_atom (k + 1) own) (put_atom_length (k + 1) own) (members g) t2 ∙ long2

    both : added k f l g s t ≡ for_each (lettered_at k s) (upto 0 16) atoms
    unfolding added
    both = rw (lt-ltb k 64 room) refl

    letters_beside : (i : ℕ) → i < LETTERS → get_or (added k f l g s t) i 0 ≡ get_or atoms i 0
    letters_beside i h =
        ap (λ u. get_or u i 0) both
        ∙ each.each_others (lettered_at k s) (lettered_length k s) (λ r j. j ≡ LETTERS + r) letters_apart 16 letter_others 0 16 atoms i (omega arith) atoms_long
        (λ r x y e. omega arith)

    -- an atom below 64 is in a set where its bit is set
    atom_in : (x a : ℕ) → a < 64 → member a (members x) ≡ bit a x
    atom_in x a h = member_number 0 64 x a (omega arith) h ∙ ap (λ n. bit n x) (omega arith)

    -- the steps after an occurrence, before it is let follow itself
    step_beside : (a p : ℕ) → a < 64 → p < 64 → get_or t2 (ROW * a + 1 + p) 0 ≡ get_or t (ROW * a + 1 + p) 0
    step_beside a p h i =
        put_elsewhere ENDS own l (ROW * a + 1 + p) t1 (omega (arith, long1)) (inl (omega arith))
        ∙ each_beside 0 own f (ROW * a + 1 + p) t (λ b j e. omega arith)

    pub added_first : (a : ℕ) → a < 64 → get_or (added k f l g s t) (ROW * a) 0 ≡ with_bit (bit a f) k (get_or t (ROW * a) 0)
    added_first a h =
        letters_beside (ROW * a) (omega arith)
        ∙ each_beside (k + 1) own g (ROW * a) t2 (λ b i e. omega arith)
        ∙ put_elsewhere ENDS own l (ROW * a) t1 (omega (arith, long1)) (inl (omega arith))
        ∙ ap (λ i. get_or t1 i 0) (omega arith)
        ∙ each_at 0 own (members f) t a (omega (arith, long))
        ∙ ap (λ b. cond b (bit_or (get_or t (ROW * a + 0) 0) own) (get_or t (ROW * a + 0) 0)) (atom_in f a h)
        ∙ as_bit (bit a f) (get_or t (ROW * a + 0) 0) ∙ ap (λ i. with_bit (bit a f) k (get_or t i 0)) (omega arith)

    pub added_end : (a : ℕ) → a < 64 → get_or (added k f l g s t) (ENDS + a) 0 ≡ with_bit (bit a l) k (get_or t (ENDS + a) 0)
    added_end a h =
        letters_beside (ENDS + a) (omega arith)
        ∙ each_beside (k + 1) own g (ENDS + a) t2 (λ b i e. omega arith)
        ∙ put_member ENDS own l a t1 h (omega (arith, long1)) ∙ as_bit (bit a l) (get_or t1 (ENDS + a) 0)
        ∙ ap (with_bit (bit a l) k) (each_beside 0 own f (ENDS + a) t (λ b i e. omega arith))

    pub added_own : (a : ℕ) → a < 64 → get_or (added k f l g s t) (ROW * a + 1 + k) 0 ≡ with_bit (bit a g) k (get_or t (ROW * a + 1 + k) 0)
    added_own a h =
        let z : ROW * a + 1 + k ≡ ROW * a + (k + 1) = omega arith in
        letters_beside (ROW * a + 1 + k) (omega arith) ∙ ap (λ i. get_or atoms i 0) z
        ∙ each_at (k + 1) own (members g) t2 a (omega (arith, long2))
        ∙ ap (λ b. cond b (bit_or (get_or t2 (ROW * a + (k + 1)) 0) own) (get_or t2 (ROW * a + (k + 1)) 0)) (atom_in g a h)
        ∙ as_bit (bit a g) (get_or t2 (ROW * a + (k + 1)) 0)
        ∙ ap (with_bit (bit a g) k) (ap (λ i. get_or t2 i 0) (sym z) ∙ step_beside a k h room)

    pub added_step : (a p : ℕ) → a < 64 → p < 64 → (p ≡ k → ⊥) → get_or (added k f l g s t) (ROW * a + 1 + p) 0 ≡ get_or t (ROW * a + 1 + p) 0
    added_step a p h i n =
        letters_beside (ROW * a + 1 + p) (omega arith)
        ∙ each_beside (k + 1) own g (ROW * a + 1 + p) t2 (λ b j e. n (omega arith))
        ∙ step_beside a p h i

    -- past the ends, nothing was done atom by atom
    atoms_above : (i : ℕ) → LETTERS ≤ i → i < TABLE → get_or atoms i 0 ≡ get_or t i 0
    atoms_above i h j =
        each_beside (k + 1) own g i t2 (λ b x e. omega arith)
        ∙ put_elsewhere ENDS own l i t1 (omega (arith, long1)) (inr (omega arith))
        ∙ each_beside 0 own f i t (λ b x e. omega arith)

    pub added_letter : (r : ℕ) → r < 16 → get_or (added k f l g s t) (LETTERS + r) 0 ≡ with_bit (bit r s) k (get_or t (LETTERS + r) 0)
    unfolding lettered_at
    added_letter r h =
        let z = each.each_own (lettered_at k s) (lettered_length k s) (λ r j. j ≡ LETTERS + r) letters_apart 16 letter_others 0 16 r atoms (omega arith) atoms_long (omega arith) (omega arith) in
        ap (λ u. get_or u (LETTERS + r) 0) both ∙ z.after (LETTERS + r) refl
        ∙ marked_in (LETTERS + r) k (bit r s) z.before (omega (arith, z.long))
        ∙ ap (with_bit (bit r s) k) (z.same (LETTERS + r) refl ∙ atoms_above (LETTERS + r) (omega arith) (omega arith))

    pub added_above : get_or (added k f l g s t) NULL 0 ≡ get_or t NULL 0
    added_above =
        ap (λ u. get_or u NULL 0) both
        ∙ each.each_others (lettered_at k s) (lettered_length k s) (λ r j. j ≡ LETTERS + r) letters_apart 16 letter_others 0 16 atoms NULL (omega arith) atoms_long
        (λ r x y e. omega arith)
        ∙ atoms_above NULL (omega arith) (omega arith)

    pub added_long : length (added k f l g s t) ≡ TABLE
    added_long = ap length both ∙ each_length (lettered_at k s) (lettered_length k s) (upto 0 16) atoms ∙ atoms_long
