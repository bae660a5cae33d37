-- The cells of a ring claim show its standings, with the cells read as first atom, Z, P, M and N: for at most 64 left and 31 right
-- occurrences and 64 atoms. (Document 01, "Standings".)
-- Assumes nothing.
use Prim.Native.Nat.{ℕ, ◌-◌, ◌≤◌, ◌<◌}
use mathlib.Core.Path.{◌≡◌, refl, sym, ◌∙◌, ap, subst}
use mathlib.Core.Bool.{true}
use mathlib.Core.List.{List}
use Rattle.kat.specs.Lists.{In, upto}
use Rattle.kat.specs.Tables.{occurrences}
use Rattle.kat.proofs.Sets.{member_in}
use Rattle.claims.specs.Query.{bit}
use Rattle.claims.specs.Fields.{number_set, set_number}
use Rattle.claims.specs.Orders.{Rising}
use Rattle.claims.specs.Sides.{Decision}
use Rattle.claims.specs.Standings.{Letter, System, ring_system}
use Rattle.claims.proofs.Lawful.{ring_lawful}
use Rattle.claims.proofs.Letters.{Fits}
use Rattle.claims.proofs.Pairwise.{pairwise_filter, rising_upto}
use Rattle.claims.proofs.SetBytes.{RisingWithin, set_read_back}
use Rattle.bits.proofs.Members.{number_in}
use Rattle.side_tables.specs.SideTable.{side_table}
use Rattle.standings.proofs.LettersOf.{LettersOf, live_members, letter_atom, letter_relation, alone_shown}
use Rattle.standings.proofs.Shows.{Shows}
use Rattle.sheet_standings.specs.RingCells.{ring_finals, ring_shown}
use Rattle.sheet_standings.specs.CellSystem.{left_set, begin_cells, onward_cells, finals_cells, cell_system}
use Rattle.sheet_standings.specs.Good.{GoodCells}
use Rattle.sheet_standings.proofs.RingSteps.{ring_good_begin, ring_begin_shown, ring_good_onward, ring_onward_shown}
use Rattle.sheet_standings.proofs.RingEqual.{ring_possible_shown, ring_equal_shown}
use Rattle.sheet_standings.proofs.RingFinals.{ring_finals_shown}

module _ {live relations : ℕ} {D : Decision} (h : LettersOf live relations D) (atoms : D.atoms ≤ 64)
    (within : RisingWithin 0 D.atoms D.live) (fits : occurrences D.left ≤ 64) (few : occurrences D.right ≤ 31) where
  abbrev left : List ℕ
  left = side_table D.left

  abbrev right : List ℕ
  right = side_table D.right

  abbrev W : System
  W = cell_system true (occurrences D.right) live relations left right

  low : (l : Letter) → Fits W l → l.atom < 64
  low = letter_atom h W refl

  letter : (l : Letter) → Fits W l → l.relation < 16
  letter = letter_relation h W refl

  live_rises : Rising D.live
  unfolding number_set
  live_rises =
      subst Rising (live_members h) (pairwise_filter ◌<◌ (λ j. bit (j - 0) live) (upto 0 64) (rising_upto 0 64))

  -- a letter's atom is one of the atoms
  atom_low : (l : Letter) → Fits W l → l.atom < D.atoms
  atom_low l f =
      (number_in 0 D.atoms (set_number 0 D.live) l.atom
      (subst (In l.atom) (live_members h ∙ sym (set_read_back 0 D.atoms D.live within)) (member_in l.atom W.live f.0))).1

  shows : Shows (ring_system D) W (ring_shown D) (GoodCells true D)
  unfolding begin_cells onward_cells finals_cells left_set
  shows =
      record {
        begins = λ l f. ring_good_begin D l (low l f) (letter l f) few fits (atom_low l f);
        begins_shown = λ l f. ring_begin_shown D l (low l f) (letter l f) few;
        goes_on = λ s l g f. ring_good_onward D l (low l f) (letter l f) few fits s g atoms;
        goes_on_shown = λ s l g f. ring_onward_shown D l (low l f) (letter l f) few fits s g atoms;
        same_possible = ring_possible_shown D;
        same_finals = λ s g.
            sym (ap (λ v. ring_finals left right (occurrences D.right) v s) h.live_set_lem
            ∙ ring_finals_shown D few atoms s g h.live_rising);
        same_equal = ring_equal_shown D few (ring_lawful D live_rises);
        same_alone = alone_shown h;
        same_live = sym (live_members h);
        same_relations = sym h.relation_count_lem;
      }

  -- the cells of a ring claim show its standings ("Standings")
  pub ring_cells_show : (n : ℕ) → n ≡ occurrences D.right
      → Shows (ring_system D) (cell_system true n live relations left right) (ring_shown D) (GoodCells true D)
  ring_cells_show n e =
      subst (λ m. Shows (ring_system D) (cell_system true m live relations left right) (ring_shown D) (GoodCells true D)) (sym e) shows
