-- The four cells of a path standing show P and S: begin, one letter on, the tests and the completing atoms are those of the definition, for
-- at most 64 occurrences a side. (Document 01, "Standings".)
-- Assumes nothing.
use Prim.Native.Nat.{ℕ, ◌^◌, ◌≤◌, ◌<◌}
use native.Mathlib.Nat.{lt_of_lt_of_le, pow-le-pow_right}
use native.Mathlib.Omega.{arith}
use mathlib.Core.Path.{◌≡◌, refl, sym, ◌∙◌, ap, ap₂, subst}
use mathlib.Core.Bool.{Bool, true, false, true≢false, not, ◌&&◌, and-true}
use mathlib.Core.List.{List, [], ◌∷◌}
use lib.Dec.{eqb, ltb}
use lib.ListN.{length, get_or}
use borrow.Author.Tests.{lt-ltb, ltb-true}
use Rattle.kat.specs.Lists.{filter}
use Rattle.kat.specs.Tables.{occurrences, ends}
use Rattle.kat.proofs.Bools.{and_left, and_right, and_both}
use Rattle.kat.proofs.Sets.{filter_same}
use Rattle.claims.specs.Bytes.{same}
use Rattle.claims.specs.Sides.{Decision}
use Rattle.claims.specs.Standings.{System, Letter, path_step, path_system, path_finals as path_finals_of}
use Rattle.side_tables.specs.SideTable.{side_table}
use Rattle.standings.specs.Steps.{step_from, step_set}
use Rattle.standings.proofs.OccurrenceWords.{occurrences_of, word_empty, word_same}
use Rattle.standings.proofs.Tables.{from_small, from_shown, set_step_small, set_step_shown, ends_shown}
use Rattle.standings.proofs.LettersOf.{LettersOf, live_members, live_below, letter_atom, letter_relation, alone_shown}
use Rattle.standings.proofs.Shows.{Shows}
use Rattle.sheet_standings.specs.Layout.{halves, wide, cell_count}
use Rattle.sheet_standings.specs.PathCells.{path_cells, path_begin, path_onward, path_ends, path_finals, path_fits, path_shown}
use Rattle.sheet_standings.specs.CellSystem.{left_set, cells_fit, begin_cells, onward_cells, finals_cells, cell_system}
use Rattle.sheet_standings.specs.Good.{GoodCells}
use Rattle.sheet_standings.proofs.Halves.{wide_halves, halves_small, wide_equal}

-- P and S of cells
pub path_p : (P S : ℕ) → wide (path_cells P S) 0 ≡ P
unfolding path_cells
path_p P S = wide_halves P (halves S)

pub path_s : (P S : ℕ) → wide (path_cells P S) 2 ≡ S
unfolding path_cells halves wide
path_s P S = omega arith

pub path_small : (P S : ℕ) → P < 2 ^ 64 → S < 2 ^ 64 → (i : ℕ) → get_or (path_cells P S) i 0 < 2 ^ 32
unfolding path_cells halves
path_small P S h k = halves_small P (halves S) h (halves_small S [] k (λ i. omega arith))

pub path_length : (P S : ℕ) → length (path_cells P S) ≡ 4
unfolding path_cells halves
path_length P S = refl

-- four cells, and when two lists of four are equal
four_cells : (s : List ℕ) → length s ≡ 4 → s ≡ get_or s 0 0 ∷ get_or s 1 0 ∷ get_or s 2 0 ∷ get_or s 3 0 ∷ []
four_cells [] h = absurd (omega arith)
four_cells (a ∷ []) h = absurd (omega arith)
four_cells (a ∷ b ∷ []) h = absurd (omega arith)
four_cells (a ∷ b ∷ c ∷ []) h = absurd (omega arith)
four_cells (a ∷ b ∷ c ∷ d ∷ []) h = refl
four_cells (a ∷ b ∷ c ∷ d ∷ e ∷ s) h = absurd (omega arith)

in_pairs : (a b c d : Bool) → ((a && b) && (c && d)) ≡ (a && (b && (c && (d && true))))
in_pairs true true c d = ap (λ e. c && e) (sym (and-true d))
in_pairs true false c d = refl
in_pairs false b c d = refl

four_same : (s t : List ℕ) → length s ≡ 4 → length t ≡ 4
    → ((eqb (get_or s 0 0) (get_or t 0 0) && eqb (get_or s 1 0) (get_or t 1 0)) && (eqb (get_or s 2 0) (get_or t 2 0) && eqb (get_or s 3 0) (get_or t 3 0)))
    ≡ same s t
four_same s t m n =
    in_pairs (eqb (get_or s 0 0) (get_or t 0 0)) (eqb (get_or s 1 0) (get_or t 1 0)) (eqb (get_or s 2 0) (get_or t 2 0)) (eqb (get_or s 3 0) (get_or t 3 0))
    ∙ sym (ap₂ same (four_cells s m) (four_cells t n))

-- a word that holds at most 64 occurrences
word_below : (n w : ℕ) → n ≤ 64 → w < 2 ^ n → w < 2 ^ 64
word_below n w h k = lt_of_lt_of_le k (pow-le-pow_right {n = 2} (omega arith) {i = n} {j = 64} h)

-- cells fit exactly where P and S are words of their sides
pub fits_path : (atoms l r : ℕ) (s : List ℕ) → cells_fit false atoms l r s ≡ true → (wide s 0 < 2 ^ l) × (wide s 2 < 2 ^ r)
unfolding cells_fit path_fits
fits_path atoms l r s e = (
  ltb-true (wide s 0) (2 ^ l) (and_left (ltb (wide s 0) (2 ^ l)) (ltb (wide s 2) (2 ^ r)) e),
  ltb-true (wide s 2) (2 ^ r) (and_right (ltb (wide s 0) (2 ^ l)) (ltb (wide s 2) (2 ^ r)) e),
)

pub path_fits_lem : (atoms l r : ℕ) (s : List ℕ) → wide s 0 < 2 ^ l → wide s 2 < 2 ^ r → cells_fit false atoms l r s ≡ true
unfolding cells_fit path_fits
path_fits_lem atoms l r s h k = and_both (lt-ltb (wide s 0) (2 ^ l) h) (lt-ltb (wide s 2) (2 ^ r) k)

-- four cells that fit are good
pub good_path : (D : Decision) (s : List ℕ) → length s ≡ 4 → ((i : ℕ) → get_or s i 0 < 2 ^ 32)
    → cells_fit false D.atoms (occurrences D.left) (occurrences D.right) s ≡ true → GoodCells false D s
unfolding cell_count
good_path D s size small fits = record { size = size; small = small; head = λ e. absurd (true≢false (sym e)); fits = fits }

module _ {live relations : ℕ} {D : Decision} (n : ℕ) (h : LettersOf live relations D)
    (few_left : occurrences D.left ≤ 64) (few_right : occurrences D.right ≤ 64) where
  abbrev Good : List ℕ → Type 0
  Good s = GoodCells false D s

  abbrev left : List ℕ
  left = side_table D.left

  abbrev right : List ℕ
  right = side_table D.right

  four : (s : List ℕ) → Good s → length s ≡ 4
  unfolding cell_count
  four s g = g.size

  P-small : (s : List ℕ) → Good s → wide s 0 < 2 ^ occurrences D.left
  P-small s g = (fits_path D.atoms (occurrences D.left) (occurrences D.right) s g.fits).0

  S-small : (s : List ℕ) → Good s → wide s 2 < 2 ^ occurrences D.right
  S-small s g = (fits_path D.atoms (occurrences D.left) (occurrences D.right) s g.fits).1

  -- two words that fit their sides, as cells, are good, and show the two sets
  pair_good : (P S : ℕ) → P < 2 ^ occurrences D.left → S < 2 ^ occurrences D.right → Good (path_cells P S)
  pair_good P S p q =
      good_path D (path_cells P S) (path_length P S)
      (path_small P S (word_below (occurrences D.left) P few_left p) (word_below (occurrences D.right) S few_right q))
      (path_fits_lem D.atoms (occurrences D.left) (occurrences D.right) (path_cells P S)
      (subst (λ w. w < 2 ^ occurrences D.left) (sym (path_p P S)) p) (subst (λ w. w < 2 ^ occurrences D.right) (sym (path_s P S)) q))

  pair_shown : (P S : ℕ)
      → path_shown D (path_cells P S) ≡ record { P = occurrences_of (occurrences D.left) P; S = occurrences_of (occurrences D.right) S }
  pair_shown P S =
      ap₂ (λ p q. record { P = occurrences_of (occurrences D.left) p; S = occurrences_of (occurrences D.right) q })
      (path_p P S) (path_s P S)

  module _ (l : Letter) (low : l.atom < 64) (letter : l.relation < 16) where
    begin_good : Good (path_begin left right l)
    unfolding path_begin
    begin_good =
        pair_good (step_from left 0 l.atom l.relation) (step_from right 0 l.atom l.relation)
        (from_small D.left l.atom l.relation low letter 0) (from_small D.right l.atom l.relation low letter 0)

    begin_shown : path_shown D (path_begin left right l) ≡ path_step D (record { P = 0 ∷ []; S = 0 ∷ [] }) l
    unfolding path_begin path_step
    begin_shown =
        pair_shown (step_from left 0 l.atom l.relation) (step_from right 0 l.atom l.relation)
        ∙ ap₂ (λ p q. record { P = p; S = q }) (from_shown D.left l.atom l.relation low letter 0 (omega arith))
        (from_shown D.right l.atom l.relation low letter 0 (omega arith))

    module _ (s : List ℕ) (g : Good s) where
      onward_good : Good (path_onward left right s l)
      unfolding path_onward
      onward_good =
          pair_good (step_set left (wide s 0) l.atom l.relation) (step_set right (wide s 2) l.atom l.relation)
          (set_step_small D.left l.atom l.relation low letter (wide s 0))
          (set_step_small D.right l.atom l.relation low letter (wide s 2))

      onward_shown : path_shown D (path_onward left right s l) ≡ path_step D (path_shown D s) l
      unfolding path_onward path_step
      onward_shown =
          pair_shown (step_set left (wide s 0) l.atom l.relation) (step_set right (wide s 2) l.atom l.relation)
          ∙ ap₂ (λ p q. record { P = p; S = q })
          (set_step_shown D.left l.atom l.relation low letter few_left (wide s 0) (P-small s g))
          (set_step_shown D.right l.atom l.relation low letter few_right (wide s 2) (S-small s g))

  finals_shown : (s : List ℕ) → Good s → path_finals_of D (path_shown D s) ≡ path_finals left right live s
  unfolding path_finals path_finals_of path_ends
  finals_shown s g =
      filter_same (λ a. ends D.left (path_shown D s).P a && not (ends D.right (path_shown D s).S a)) (path_ends left right s) D.live
      (λ a i. sym (ap₂ (λ b c. b && not c) (ends_shown D.left a (wide s 0) (live_below h a i) (P-small s g))
      (ends_shown D.right a (wide s 2) (live_below h a i) (S-small s g))))
      ∙ ap (filter (path_ends left right s)) (sym (live_members h))

  equal_shown : (s t : List ℕ) → Good s → Good t
      → (same (path_shown D s).P (path_shown D t).P && same (path_shown D s).S (path_shown D t).S) ≡ same s t
  equal_shown s t g m =
      ap₂ ◌&&◌
      (word_same (occurrences D.left) (wide s 0) (wide t 0) (P-small s g) (P-small t m) ∙ wide_equal s t 0 (g.small 1) (m.small 1))
      (word_same (occurrences D.right) (wide s 2) (wide t 2) (S-small s g) (S-small t m) ∙ wide_equal s t 2 (g.small 3) (m.small 3))
      ∙ four_same s t (four s g) (four t m)

  -- the cells of a path claim show its standings ("Standings")
  pub path_cells_show : Shows (path_system D) (cell_system false n live relations left right) (path_shown D) Good
  unfolding begin_cells onward_cells finals_cells left_set
  path_cells_show =
      record {
        begins = λ l f. begin_good l (letter_atom h W refl l f) (letter_relation h W refl l f);
        begins_shown = λ l f. begin_shown l (letter_atom h W refl l f) (letter_relation h W refl l f);
        goes_on = λ s l g f. onward_good l (letter_atom h W refl l f) (letter_relation h W refl l f) s g;
        goes_on_shown = λ s l g f. onward_shown l (letter_atom h W refl l f) (letter_relation h W refl l f) s g;
        same_possible = λ s g. ap not (word_empty (occurrences D.left) (wide s 0) (P-small s g));
        same_finals = finals_shown;
        same_equal = equal_shown;
        same_alone = alone_shown h;
        same_live = sym (live_members h);
        same_relations = sym h.relation_count_lem;
      }
    where
      W : System
      W = cell_system false n live relations left right
