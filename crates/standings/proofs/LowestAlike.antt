-- The set of the live atoms such that no lower live atom is alike is the set of the atoms that `claims` keeps. (Document 01, "Standings".) Lower
-- live atoms are the members of the live set cut to those below; a set gathered from a list has a bit for each number of the list that passes.
-- Assumes nothing.
use Prim.Native.Nat.{ℕ, ◌-◌, ◌≤◌, ◌<◌, min}
use native.Mathlib.Omega.{arith}
use mathlib.Core.Path.{◌≡◌, refl, sym, ◌∙◌, ap, ap₂}
use mathlib.Core.Bool.{Bool, true, false, cond, not, ◌&&◌, ◌||◌}
use mathlib.Core.List.{List, [], ◌∷◌}
use lib.Bits.{bit_and}
use lib.Dec.{eqb, ltb}
use borrow.Author.Tests.{eqb-true, lt-ltb, ltb-true}
use Rattle.kat.specs.Lists.{In, here, there, upto, some, member}
use Rattle.kat.specs.Tables.{occurrences}
use Rattle.kat.proofs.Bools.{bool_ext, and_left, and_right, and_both}
use Rattle.kat.proofs.Sets.{some_in, in_some, in_upto, upto_in}
use Rattle.claims.specs.Query.{bit}
use Rattle.claims.specs.Fields.{set_number}
use Rattle.claims.specs.Sides.{Decision}
use Rattle.claims.specs.Alike.{lowest_alike, alike_path, alike_ring, kept_path, kept_ring}
use Rattle.claims.proofs.SetBytes.{RisingWithin, set_read_back}
use Rattle.bits.specs.Sets.{including, all_below, members}
use Rattle.bits.proofs.Bit.{bit_none, bit-bit_and}
use Rattle.bits.proofs.Members.{number_in, in_number, bit_number}
use Rattle.bits.proofs.Rows.{bit_all, bit_including}
use Rattle.side_tables.specs.SideTable.{side_table}
use Rattle.standings.specs.Alike.{gathered, alike_at, no_lower}
use Rattle.standings.proofs.AlikeRows.{alike_path_lem, alike_ring_lem}

-- one number more
one_more : (x c y d : Bool) → ((x || (c && d)) || (y && d)) ≡ (x || ((c || y) && d))
one_more true c y d = refl
one_more false true true true = refl
one_more false true true false = refl
one_more false true false true = refl
one_more false true false false = refl
one_more false false y d = refl

module _ (p : ℕ → Bool) (i : ℕ) where
  put_bit : (m a : ℕ) → a < 64 → (c : Bool) → bit i (cond c (including 64 m a) m) ≡ (bit i m || (eqb i a && c))
  put_bit m a h true = bit_including 64 m a i h ∙ ap (λ b. bit i m || b) (and_one (eqb i a))
    where
      and_one : (b : Bool) → b ≡ (b && true)
      and_one true = refl
      and_one false = refl
  put_bit m a h false = or_none (bit i m) (eqb i a)
    where
      or_none : (x b : Bool) → x ≡ (x || (b && false))
      or_none true b = refl
      or_none false true = refl
      or_none false false = refl

  passed : (a : ℕ) → (eqb i a && p a) ≡ (eqb i a && p i)
  passed a = go (eqb i a) refl
    where
      go : (c : Bool) → eqb i a ≡ c → (c && p a) ≡ (c && p i)
      go true e = ap p (sym (eqb-true i a e))
      go false e = refl

  -- the bits of a set gathered from a list
  pub gathered_bit : (ks : List ℕ) → ((a : ℕ) → In a ks → a < 64) → (m : ℕ) → bit i (gathered p ks m) ≡ (bit i m || (member i ks && p i))
  unfolding gathered
  gathered_bit [] h m = or-false (bit i m)
    where
      or-false : (x : Bool) → x ≡ (x || false)
      or-false true = refl
      or-false false = refl
  gathered_bit (a ∷ ks) h m =
      gathered_bit ks (λ b j. h b (there j)) (cond (p a) (including 64 m a) m)
      ∙ ap (λ x. x || (member i ks && p i)) (put_bit m a (h a (here refl)) (p a) ∙ ap (λ x. bit i m || x) (passed a))
      ∙ one_more (bit i m) (eqb i a) (member i ks) (p i)

-- the live atoms as a set
module _ (live : List ℕ) (rising : RisingWithin 0 64 live) where
  pub live_bit : (b : ℕ) → b < 64 → bit b (set_number 0 live) ≡ member b live
  live_bit b h = let z : b ≡ b - 0 = omega arith in ap (λ j. bit j (set_number 0 live)) z ∙ bit_number 0 64 live rising b (omega arith) h

  -- some live atom below a passes
  module _ (p q : ℕ → Bool) (agree : (b : ℕ) → b < 64 → p b ≡ q b) (a : ℕ) (low : a < 64) where
    abbrev cut : ℕ
    cut = bit_and (set_number 0 live) (all_below 64 a)

    cut_bit : (b : ℕ) → b < 64 → bit (b - 0) cut ≡ (member b live && ltb b a)
    cut_bit b h =
        let z : b - 0 ≡ b = omega arith in
        let w : min a 64 ≡ a = omega arith in
        ap (λ j. bit j cut) z ∙ bit-bit_and b (set_number 0 live) (all_below 64 a)
        ∙ ap₂ ◌&&◌ (live_bit b h) (bit_all 64 a b ∙ ap (ltb b) w)

    pub some_lower : some p (members cut) ≡ some (λ b. member b live && q b) (upto 0 a)
    some_lower =
        bool_ext (some p (members cut)) (some (λ b. member b live && q b) (upto 0 a))
        (λ e. let (b, i, h) = some_in p (members cut) e in
        let (u, v, w) = number_in 0 64 cut b i in
        let m : (member b live && ltb b a) ≡ true = sym (cut_bit b v) ∙ w in
        in_some (λ b. member b live && q b) (in_upto b 0 a u (ltb-true b a (and_right (member b live) (ltb b a) m)))
        (and_both (and_left (member b live) (ltb b a) m) (sym (agree b v) ∙ h)))
        (λ e. let (b, i, h) = some_in (λ b. member b live && q b) (upto 0 a) e in
        let (u, v) = upto_in b 0 a i in
        let l : b < 64 = omega arith in
        in_some p
        (in_number 0 64 cut b u l (cut_bit b l ∙ and_both (and_left (member b live) (q b) h) (lt-ltb b a v)))
        (agree b l ∙ and_right (member b live) (q b) h))

-- those of a set of which no lower one is alike
abbrev pub lowest_set : (ℕ → ℕ → Bool) → ℕ → ℕ
lowest_set alike s = gathered (no_lower alike s) (members s) 0

module _ (live : List ℕ) (rising : RisingWithin 0 64 live) (words alike : ℕ → ℕ → Bool) (a : ℕ) (low : a < 64)
    (agree : (b : ℕ) → b < 64 → words a b ≡ alike a b) where
  -- an atom is in the set where it is live and the lowest of those that are alike
  lowest_bit : bit a (lowest_set words (set_number 0 live)) ≡ (member a live && not (some (λ b. member b live && alike a b) (upto 0 a)))
  lowest_bit =
      gathered_bit (no_lower words (set_number 0 live)) a (members (set_number 0 live)) (λ b i. (number_in 0 64 (set_number 0 live) b i).1) 0
      ∙ ap (λ b. b || (member a (members (set_number 0 live)) && no_lower words (set_number 0 live) a)) (bit_none a)
      ∙ ap₂ ◌&&◌ (ap (member a) (set_read_back 0 64 live rising)) (ap not (some_lower live rising (words a) (alike a) agree a low))

module _ (D : Decision) (few_left : occurrences D.left ≤ 64) (few_right : occurrences D.right ≤ 64) (rising : RisingWithin 0 64 D.live)
    (r a : ℕ) (letter : r < 16) (low : a < 64) where
  abbrev tried : Bool → ℕ
  tried ring =
      lowest_set (alike_at ring (occurrences D.left) (occurrences D.right) (side_table D.left) (side_table D.right) r) (set_number 0 D.live)

  -- the atoms that a path claim keeps
  pub lowest_path : bit a (tried false) ≡ kept_path D r a
  unfolding kept_path lowest_alike
  lowest_path = lowest_bit D.live rising _ (alike_path D r) a low (λ b h. alike_path_lem D few_left few_right r a b letter low h)

  -- the atoms that a ring claim keeps
  pub lowest_ring : bit a (tried true) ≡ kept_ring D r a
  unfolding kept_ring lowest_alike
  lowest_ring = lowest_bit D.live rising _ (alike_ring D r) a low (λ b h. alike_ring_lem D few_left few_right r a b letter low h)
