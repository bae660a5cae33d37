-- A refuted sheet's word passes exactly where it refutes on cells: the cells of a decided claim show its standings, and the word that is
-- read is
-- the word that the bytes are.
-- Assumes nothing.
use Prim.Native.Nat.{ℕ, suc, ◌≤◌}
use native.Mathlib.Omega.{arith}
use mathlib.Core.Path.{◌≡◌, refl, sym, ◌∙◌, ap, subst⁻¹}
use mathlib.Core.List.{List, [], ◌∷◌}
use mathlib.Core.Option.{some}
use Rattle.kat.specs.Tables.{occurrences}
use Rattle.kat.specs.Word.{Word}
use Rattle.claims.specs.Fields.{set_number}
use Rattle.claims.specs.Passing.{refuting, passes}
use Rattle.claims.specs.SheetReading.{word_of, says_refuted}
use Rattle.claims.specs.SheetWriting.{RisingWithin}
use Rattle.claims.specs.Sides.{Decision}
use Rattle.claims.specs.Standings.{claim_system}
use Rattle.claims.proofs.Provided.{provided_some}
use Rattle.claims.proofs.WordBytes.{word_in_range}
use Rattle.side_tables.specs.SideTable.{side_table}
use Rattle.standings.proofs.LettersOf.{LettersOf}
use Rattle.standings.proofs.Shows.{Shows}
use Rattle.sheet_standings.specs.CellSystem.{cells_show, cell_system}
use Rattle.sheet_standings.specs.Good.{GoodCells}
use Rattle.sheet_standings.proofs.ByKind.{cells_show_lem}
use Rattle.sheet_standings.proofs.PassingShown.{refuting_shown}
use Rattle.query.specs.Answer.{facts_of}
use Rattle.query.specs.Decided.{Decided}
use Rattle.query.specs.declared.Facts.{Facts}
use Rattle.sheet_word.specs.ByteWords.{word_fits, word_read}
use Rattle.sheet_word.proofs.WordsRead.{word_of_lem}

-- numbers below m are below any larger number
rising_wider : (lo m n : ℕ) (ks : List ℕ) → m ≤ n → RisingWithin lo m ks → RisingWithin lo n ks
rising_wider lo m n [] h r = tt
rising_wider lo m n (k ∷ ks) h (a, b, r) = (a, omega arith, rising_wider (suc k) m n ks h r)

module _ {f : Facts} {left right : List ℕ} {D : Decision} (d : Decided f left right D) where
  letters_of_lem : LettersOf (set_number 0 D.live) D.relations D
  letters_of_lem =
      record {
        live_set_lem = refl;
        live_rising = rising_wider 0 D.atoms 64 D.live d.few_atoms d.live_rising;
        relation_count_lem = refl;
        few_relations_lem = d.few_relations_lem;
      }

  -- the cells by the facts and tables of a claim show its standings ("Standings")
  pub decided_shows : Shows (claim_system D) (cell_system f.ring f.right f.live f.relations left right) (cells_show D.ring D)
      (GoodCells D.ring D)
  unfolding facts_of
  decided_shows =
      subst⁻¹
      (λ g. Shows (claim_system D) (cell_system g.ring g.right g.live g.relations left right) (cells_show D.ring D)
      (GoodCells D.ring D))
      d.facts
      (subst⁻¹
      (λ l. Shows (claim_system D) (cell_system D.ring (occurrences D.right) (set_number 0 D.live) D.relations l right)
      (cells_show D.ring D) (GoodCells D.ring D))
      d.left_table_lem
      (subst⁻¹
      (λ r. Shows (claim_system D) (cell_system D.ring (occurrences D.right) (set_number 0 D.live) D.relations (side_table D.left) r)
      (cells_show D.ring D) (GoodCells D.ring D))
      d.right_table_lem
      (cells_show_lem letters_of_lem d.few_atoms d.live_rising d.few_left d.few_right d.few_right_of_rings
      (occurrences D.right) refl)))

  -- the word that is read is the word that the bytes are
  pub word_is_read : (ns : List ℕ) (w : Word) → word_of D ns ≡ some w → word_read ns ≡ w
  word_is_read ns w e = (provided_some (word_fits D.atoms D.relations ns) (word_read ns) w (sym (word_of_lem D ns) ∙ e)).1

  -- what the bytes say passes where they refute on cells ("Sheet and graph bytes")
  pub refutes_passes : (ns : List ℕ) (w : Word) → word_of D ns ≡ some w
      → refuting (cell_system f.ring f.right f.live f.relations left right) (word_read ns) ≡ passes D (says_refuted w)
  unfolding passes facts_of
  refutes_passes ns w e =
      ap (refuting (cell_system f.ring f.right f.live f.relations left right)) (word_is_read ns w e)
      ∙ sym (refuting_shown decided_shows D (sym (ap (λ g. g.relations) d.facts)) w (word_in_range D ns w e))
