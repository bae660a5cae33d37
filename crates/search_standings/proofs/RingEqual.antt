-- Good words and the ring standings that they show: a left occurrence is possible where word 0 is not 0, and two standings are equal
-- exactly where their words are. (Document 01, "Standings".) Words are the same where they have the same bits, and every bit is a member
-- of a row.
-- Assumes nothing.
use Prim.Native.Nat.{ℕ, zero, suc, ◌+◌, ◌-◌, ◌^◌, ◌≤◌, ◌<◌}
use native.Mathlib.Omega.{arith}
use mathlib.Core.Path.{◌≡◌, refl, sym, ◌∙◌, ap, subst}
use mathlib.Core.Logic.{⊎_elim}
use mathlib.Core.Bool.{true, not, true≢false}
use mathlib.Core.List.{List, []}
use lib.Dec.{eqb}
use lib.ListN.{get_or}
use borrow.Author.Tests.{ne_eqb}
use Rattle.kat.specs.Lists.{member}
use Rattle.kat.specs.Tables.{occurrences}
use Rattle.kat.proofs.Bools.{bool_ext, le_or_lt}
use Rattle.kat.proofs.Sets.{at_upto}
use Rattle.claims.specs.Query.{bit}
use Rattle.claims.specs.Bytes.{same}
use Rattle.claims.specs.Sides.{Decision}
use Rattle.claims.specs.Standings.{Ring, row, ring_system}
use Rattle.claims.specs.Lawful.{Lawful}
use Rattle.claims.proofs.Results.{same_is_equal, same_self}
use Rattle.bits.proofs.Bit.{bit_ext}
use Rattle.bits.proofs.Members.{numbers_equal, empty_test}
use Rattle.side_atoms.proofs.Atoms.{member_filter}
use Rattle.search_standings.specs.RingWords.{in_n}
use Rattle.search_standings.proofs.RingLayout.{ring_ext}
use Rattle.search_standings.proofs.RingShown.{row_m, row_n, ring_shown, GoodRing, in_n_some}

module _ (D : Decision) where
  abbrev l : ℕ
  l = occurrences D.left

  abbrev n : ℕ
  n = occurrences D.right

  abbrev shown : List ℕ → Ring
  shown = ring_shown l n

  -- a left occurrence is possible where P is not empty
  pub ring_possible_shown : (u : List ℕ) → GoodRing l n u → (ring_system D).possible (shown u) ≡ not (eqb (get_or u 0 0) 0)
  unfolding ring_shown
  ring_possible_shown u good =
      let z : l ≡ suc l - 1 = omega arith in
      ap not (empty_test 1 (suc l) (get_or u 0 0) (subst (λ w. get_or u 0 0 < 2 ^ w) z good.P-small))

  -- a bit of a column is a member of a row
  shown_m_bit : (u : List ℕ) (p q : ℕ) → p ≤ n → 1 ≤ q → q ≤ n → member q (row (shown u).M p) ≡ bit p (get_or u q 0)
  unfolding ring_shown row_m
  shown_m_bit u p q h i k =
      ap (member q) (at_upto (row_m n u) [] (suc n) p (omega arith))
      ∙ member_filter (λ q. bit p (get_or u q 0)) 1 (suc n) q i (omega arith)

  shown_n_bit : (u : List ℕ) (p q : ℕ) → p ≤ n → 1 ≤ q → q ≤ n → member p (row (shown u).N q) ≡ bit (32 + p) (get_or u q 0)
  unfolding ring_shown row_n
  shown_n_bit u p q h i k =
      ap (member p) (at_upto (row_n n u) [] (suc n) q (omega arith))
      ∙ member_filter (in_n u q) 0 (suc n) p (omega arith) (omega arith) ∙ in_n_some u q p i

  -- a flag by its test
  flags : (x y : ℕ) → x < 2 → y < 2 → not (eqb x 0) ≡ not (eqb y 0) → x ≡ y
  flags zero zero h k e = refl
  flags zero (suc y) h k e = absurd (true≢false (sym (e ∙ ap not (ne_eqb (suc y) 0 (λ z. omega arith)))))
  flags (suc x) zero h k e = absurd (true≢false (sym (ap not (ne_eqb (suc x) 0 (λ z. omega arith))) ∙ e))
  flags (suc x) (suc y) h k e = omega arith

  module _ (u v : List ℕ) (f : GoodRing l n u) (g : GoodRing l n v) (e : shown u ≡ shown v) where
    P-same : get_or u 0 0 ≡ get_or v 0 0
    unfolding ring_shown
    P-same =
        let z : l ≡ suc l - 1 = omega arith in
        numbers_equal 1 (suc l) (get_or u 0 0) (get_or v 0 0) (subst (λ w. get_or u 0 0 < 2 ^ w) z f.P-small)
        (subst (λ w. get_or v 0 0 < 2 ^ w) z g.P-small) (ap (λ r. r.P) e)

    low_same : (q i : ℕ) → 1 ≤ q → q ≤ n → q < 32 → i < 32 → bit i (get_or u q 0) ≡ bit i (get_or v q 0)
    low_same q i a b c d =
        ⊎_elim (λ h. sym (shown_m_bit u i q h a b) ∙ ap (λ r. member q (row r.M i)) e ∙ shown_m_bit v i q h a b)
        (λ h. (f.rows_past q i a c h d).0 ∙ sym (g.rows_past q i a c h d).0) (le_or_lt i n)

    high_same : (q i : ℕ) → 1 ≤ q → q ≤ n → q < 32 → i < 32 → bit (32 + i) (get_or u q 0) ≡ bit (32 + i) (get_or v q 0)
    high_same q i a b c d =
        ⊎_elim (λ h. sym (shown_n_bit u i q h a b) ∙ ap (λ r. member i (row r.N q)) e ∙ shown_n_bit v i q h a b)
        (λ h. (f.rows_past q i a c h d).1 ∙ sym (g.rows_past q i a c h d).1) (le_or_lt i n)

    column_same : (q : ℕ) → 1 ≤ q → q < 32 → get_or u q 0 ≡ get_or v q 0
    column_same q a c =
        ⊎_elim
        (λ b. bit_ext 64 (get_or u q 0) (get_or v q 0) (f.column_small q a c) (g.column_small q a c)
        (λ i h. ⊎_elim
        (λ k. let z : i ≡ 32 + (i - 32) = omega arith in
        ap (λ j. bit j (get_or u q 0)) z ∙ high_same q (i - 32) a b c (omega arith) ∙ ap (λ j. bit j (get_or v q 0)) (sym z))
        (λ k. low_same q i a b c k) (le_or_lt 32 i)))
        (λ b. f.column_past q b c ∙ sym (g.column_past q b c)) (le_or_lt q n)

    pub words_same : u ≡ v
    unfolding ring_shown
    words_same =
        ring_ext u v f.size g.size P-same column_same (ap (λ r. r.first) e)
        (flags (get_or u 33 0) (get_or v 33 0) f.flag_small g.flag_small (ap (λ r. r.Z) e))

  -- equal standings are equal words
  pub ring_equal_shown : Lawful (ring_system D) → (u v : List ℕ) → GoodRing l n u → GoodRing l n v
      → (ring_system D).equal (shown u) (shown v) ≡ same u v
  ring_equal_shown law u v f g =
      bool_ext ((ring_system D).equal (shown u) (shown v)) (same u v)
      (λ e. subst (λ w. same u w ≡ true) (words_same u v f g (law.equal_sound (shown u) (shown v) e)) (same_self u))
      (λ e. subst (λ w. (ring_system D).equal (shown u) (shown w) ≡ true) (same_is_equal u v e) (law.equal_self (shown u)))
