-- The two words of a path standing show P and S: for a path claim with at most 64 occurrences a side, the verdict on words is the verdict
-- of the definition, with each pair of words read as the two sets; and the words are the numbers that the sheet writes for the sets.
-- Assumes nothing.
use Prim.Native.Nat.{ℕ, ◌^◌, ◌≤◌, ◌<◌}
use native.Mathlib.Omega.{arith}
use mathlib.Core.Path.{◌≡◌, refl, sym, ◌∙◌, ap, ap₂, subst}
use mathlib.Core.Bool.{false, not, ◌&&◌, and-true}
use mathlib.Core.List.{List, [], ◌∷◌, ◌++◌}
use lib.Dec.{eqb}
use lib.ListN.{get_or}
use Rattle.kat.specs.Lists.{filter}
use Rattle.kat.specs.Tables.{occurrences, ends}
use Rattle.kat.proofs.Sets.{filter_same}
use Rattle.claims.specs.Bytes.{same}
use Rattle.claims.specs.Sides.{Decision}
use Rattle.claims.specs.Standings.{Letter, Path, path_step, path_system, path_finals as path_finals_of}
use Rattle.claims.specs.Search.{verdict}
use Rattle.claims.specs.Fields.{big_endian}
use Rattle.claims.specs.SheetBytes.{path_bytes}
use Rattle.side_tables.specs.SideTable.{side_table}
use Rattle.search_standings.specs.declared.Shape.{Shape}
use Rattle.standings.specs.Steps.{step_from, step_set}
use Rattle.search_standings.specs.PathWords.{path_begin, path_onward, path_ends, path_finals}
use Rattle.search_standings.specs.Systems.{begin_words, onward_words, finals_words, word_system}
use Rattle.search_standings.specs.Over.{shown}
use Rattle.standings.proofs.OccurrenceWords.{occurrences_of, word_empty, word_same, word_bytes}
use Rattle.standings.proofs.Tables.{from_small, from_shown, set_step_small, set_step_shown, ends_shown}
use Rattle.standings.proofs.LettersOf.{LettersOf, live_members, live_below, letter_atom, letter_relation, alone_shown}
use Rattle.standings.proofs.Shows.{Shows}
use Rattle.search_standings.proofs.VerdictShown.{verdict_shown}

-- two words, one below 2 ^ l and one below 2 ^ r
pub record TwoWords (l r : ℕ) (s : List ℕ) : Type 0 where
  pub fst : ℕ
  pub snd : ℕ
  pub both : s ≡ fst ∷ snd ∷ []
  pub fst_small : fst < 2 ^ l
  pub snd_small : snd < 2 ^ r

-- the standing that they show ("Standings")
abbrev pub path_of : Decision → List ℕ → Path
path_of D s = record { P = occurrences_of (occurrences D.left) (get_or s 0 0); S = occurrences_of (occurrences D.right) (get_or s 1 0) }

module _ (k : Shape) {D : Decision} (path : k.ring ≡ false) (h : LettersOf k.live k.relations D)
    (few_left : occurrences D.left ≤ 64) (few_right : occurrences D.right ≤ 64) where
  abbrev Good : List ℕ → Type 0
  Good s = TwoWords (occurrences D.left) (occurrences D.right) s

  abbrev left : List ℕ
  left = side_table D.left

  abbrev right : List ℕ
  right = side_table D.right

  begin_is : (l : Letter) → begin_words k left right l ≡ path_begin left right l
  unfolding begin_words
  begin_is l = rw (path, begin_words)

  onward_is : (s : List ℕ) (l : Letter) → onward_words k left right s l ≡ path_onward left right s l
  unfolding onward_words
  onward_is s l = rw (path, onward_words)

  finals_is : (s : List ℕ) → finals_words k left right s ≡ path_finals left right k.live s
  unfolding finals_words
  finals_is s = rw (path, finals_words)

  P-small : (s : List ℕ) → Good s → get_or s 0 0 < 2 ^ occurrences D.left
  P-small s g = subst (λ t. get_or t 0 0 < 2 ^ occurrences D.left) (sym g.both) g.fst_small

  S-small : (s : List ℕ) → Good s → get_or s 1 0 < 2 ^ occurrences D.right
  S-small s g = subst (λ t. get_or t 1 0 < 2 ^ occurrences D.right) (sym g.both) g.snd_small

  module _ (l : Letter) (low : l.atom < 64) (letter : l.relation < 16) where
    begin_good : Good (path_begin left right l)
    unfolding path_begin
    begin_good =
        record {
          fst = step_from left 0 l.atom l.relation;
          snd = step_from right 0 l.atom l.relation;
          both = refl;
          fst_small = from_small D.left l.atom l.relation low letter 0;
          snd_small = from_small D.right l.atom l.relation low letter 0;
        }

    begin_shown : path_of D (path_begin left right l) ≡ path_step D (record { P = 0 ∷ []; S = 0 ∷ [] }) l
    unfolding path_begin path_step
    begin_shown =
        ap₂ (λ p q. record { P = p; S = q }) (from_shown D.left l.atom l.relation low letter 0 (omega arith))
        (from_shown D.right l.atom l.relation low letter 0 (omega arith))

    module _ (s : List ℕ) (g : Good s) where
      onward_good : Good (path_onward left right s l)
      unfolding path_onward
      onward_good =
          record {
            fst = step_set left (get_or s 0 0) l.atom l.relation;
            snd = step_set right (get_or s 1 0) l.atom l.relation;
            both = refl;
            fst_small = set_step_small D.left l.atom l.relation low letter (get_or s 0 0);
            snd_small = set_step_small D.right l.atom l.relation low letter (get_or s 1 0);
          }

      onward_shown : path_of D (path_onward left right s l) ≡ path_step D (path_of D s) l
      unfolding path_onward path_step
      onward_shown =
          ap₂ (λ p q. record { P = p; S = q })
          (set_step_shown D.left l.atom l.relation low letter few_left (get_or s 0 0) (P-small s g))
          (set_step_shown D.right l.atom l.relation low letter few_right (get_or s 1 0) (S-small s g))

  finals_shown : (s : List ℕ) → Good s → path_finals_of D (path_of D s) ≡ path_finals left right k.live s
  unfolding path_finals path_finals_of path_ends
  finals_shown s g =
      filter_same (λ a. ends D.left (path_of D s).P a && not (ends D.right (path_of D s).S a)) (path_ends left right s) D.live
      (λ a i. sym (ap₂ (λ b c. b && not c) (ends_shown D.left a (get_or s 0 0) (live_below h a i) (P-small s g))
      (ends_shown D.right a (get_or s 1 0) (live_below h a i) (S-small s g))))
      ∙ ap (filter (path_ends left right s)) (sym (live_members h))

  equal_shown : (s t : List ℕ) → Good s → Good t
      → (same (path_of D s).P (path_of D t).P && same (path_of D s).S (path_of D t).S) ≡ same s t
  equal_shown s t g m =
      ap₂ ◌&&◌ (word_same (occurrences D.left) (get_or s 0 0) (get_or t 0 0) (P-small s g) (P-small t m))
      (word_same (occurrences D.right) (get_or s 1 0) (get_or t 1 0) (S-small s g) (S-small t m))
      ∙ subst (λ x. (eqb (get_or x 0 0) (get_or t 0 0) && eqb (get_or x 1 0) (get_or t 1 0)) ≡ same x t) (sym g.both)
      (subst (λ y. (eqb g.fst (get_or y 0 0) && eqb g.snd (get_or y 1 0)) ≡ same (g.fst ∷ g.snd ∷ []) y) (sym m.both)
      (ap (λ b. eqb g.fst m.fst && b) (sym (and-true (eqb g.snd m.snd)))))

  -- the words of a path claim show its standings ("Standings")
  pub path_shows : Shows (path_system D) (word_system k left right) (path_of D) Good
  path_shows =
      record {
        begins = λ l f. subst Good (sym (begin_is l)) (begin_good l (letter_atom h (word_system k left right) refl l f) (letter_relation h (word_system k left right) refl l f));
        begins_shown = λ l f.
            ap (path_of D) (begin_is l) ∙ begin_shown l (letter_atom h (word_system k left right) refl l f) (letter_relation h (word_system k left right) refl l f);
        goes_on = λ s l g f.
            subst Good (sym (onward_is s l)) (onward_good l (letter_atom h (word_system k left right) refl l f) (letter_relation h (word_system k left right) refl l f) s g);
        goes_on_shown = λ s l g f.
            ap (path_of D) (onward_is s l) ∙ onward_shown l (letter_atom h (word_system k left right) refl l f) (letter_relation h (word_system k left right) refl l f) s g;
        same_possible = λ s g. ap not (word_empty (occurrences D.left) (get_or s 0 0) (P-small s g));
        same_finals = λ s g. finals_shown s g ∙ sym (finals_is s);
        same_equal = equal_shown;
        same_alone = alone_shown h;
        same_live = sym (live_members h);
        same_relations = sym h.relation_count_lem;
      }

  -- the verdict of a path claim is that on words ("Standings")
  pub path_verdict : (allowance : ℕ) → verdict (path_system D) allowance ≡ shown (path_of D) (verdict (word_system k left right) allowance)
  path_verdict allowance = verdict_shown path_shows allowance

  -- the bytes of a standing are those of the two words ("Sheet and graph bytes")
  pub path_bytes_lem : (s : List ℕ) → Good s → path_bytes (path_of D s) ≡ big_endian 8 (get_or s 0 0) ++ big_endian 8 (get_or s 1 0)
  unfolding path_bytes
  path_bytes_lem s g =
      ap₂ ◌++◌ (word_bytes (occurrences D.left) (get_or s 0 0) (P-small s g)) (word_bytes (occurrences D.right) (get_or s 1 0) (S-small s g))
