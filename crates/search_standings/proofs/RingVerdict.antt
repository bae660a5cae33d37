-- The words of a ring claim show its standings, so that the verdict on words is the verdict of the definition, with its words read as first
-- atom, Z, P, M and N: for at most 64 left and 31 right occurrences. (Document 01, "Standings".)
-- Assumes nothing.
use Prim.Native.Nat.{ℕ, ◌-◌, ◌≤◌, ◌<◌}
use mathlib.Core.Path.{◌≡◌, refl, sym, ◌∙◌, ap, subst}
use mathlib.Core.Bool.{true}
use mathlib.Core.List.{List}
use Rattle.kat.specs.Lists.{upto}
use Rattle.kat.specs.Tables.{occurrences}
use Rattle.claims.specs.Query.{bit}
use Rattle.claims.specs.Fields.{number_set}
use Rattle.claims.specs.Sides.{Decision}
use Rattle.claims.specs.Standings.{Letter, Ring, ring_system}
use Rattle.claims.specs.Search.{verdict}
use Rattle.claims.specs.Orders.{Rising}
use Rattle.claims.proofs.Lawful.{ring_lawful}
use Rattle.claims.proofs.Pairwise.{pairwise_filter, rising_upto}
use Rattle.side_tables.specs.SideTable.{side_table}
use Rattle.search_standings.specs.declared.Shape.{Shape}
use Rattle.search_standings.specs.RingWords.{ring_begin, ring_onward, ring_finals}
use Rattle.search_standings.specs.Systems.{begin_words, onward_words, finals_words, word_system}
use Rattle.search_standings.specs.Over.{shown}
use Rattle.standings.proofs.LettersOf.{LettersOf, live_members, letter_atom, letter_relation, alone_shown}
use Rattle.standings.proofs.Shows.{Shows}
use Rattle.search_standings.proofs.VerdictShown.{verdict_shown}
use Rattle.search_standings.proofs.RingShown.{ring_shown, GoodRing, ring_good_begin, ring_begin_shown, ring_good_onward, ring_onward_shown}
use Rattle.search_standings.proofs.RingEqual.{ring_possible_shown, ring_equal_shown}
use Rattle.search_standings.proofs.RingFinals.{ring_finals_shown}

module _ (k : Shape) {D : Decision} (ring : k.ring ≡ true) (h : LettersOf k.live k.relations D) (size : k.right ≡ occurrences D.right)
    (fits : occurrences D.left ≤ 64) (few : occurrences D.right ≤ 31) where
  abbrev left : List ℕ
  left = side_table D.left

  abbrev right : List ℕ
  right = side_table D.right

  abbrev Good : List ℕ → Type 0
  Good s = GoodRing (occurrences D.left) (occurrences D.right) s

  -- the standing that the words show ("Standings")
  abbrev pub ring_of : List ℕ → Ring
  ring_of = ring_shown (occurrences D.left) (occurrences D.right)

  begin_is : (l : Letter) → begin_words k left right l ≡ ring_begin left right (occurrences D.right) l
  unfolding begin_words
  begin_is l = rw (ring, begin_words) (ap (λ n. ring_begin left right n l) size)

  onward_is : (s : List ℕ) (l : Letter) → onward_words k left right s l ≡ ring_onward left right s l
  unfolding onward_words
  onward_is s l = rw (ring, onward_words)

  finals_is : (s : List ℕ) → finals_words k left right s ≡ ring_finals left right (occurrences D.right) k.live s
  unfolding finals_words
  finals_is s = rw (ring, finals_words) (ap (λ n. ring_finals left right n k.live s) size)

  live_rises : Rising D.live
  unfolding number_set
  live_rises =
      subst Rising (live_members h) (pairwise_filter ◌<◌ (λ j. bit (j - 0) k.live) (upto 0 64) (rising_upto 0 64))

  -- the words of a ring claim show its standings ("Standings")
  pub ring_shows : Shows (ring_system D) (word_system k left right) ring_of Good
  ring_shows =
      record {
        begins = λ l f.
            subst Good (sym (begin_is l)) (ring_good_begin D l (letter_atom h (word_system k left right) refl l f) (letter_relation h (word_system k left right) refl l f) few);
        begins_shown = λ l f.
            ap ring_of (begin_is l) ∙ ring_begin_shown D l (letter_atom h (word_system k left right) refl l f) (letter_relation h (word_system k left right) refl l f) few;
        goes_on = λ s l g f.
            subst Good (sym (onward_is s l))
            (ring_good_onward D l (letter_atom h (word_system k left right) refl l f) (letter_relation h (word_system k left right) refl l f) few fits s g);
        goes_on_shown = λ s l g f.
            ap ring_of (onward_is s l)
            ∙ ring_onward_shown D l (letter_atom h (word_system k left right) refl l f) (letter_relation h (word_system k left right) refl l f) few fits s g;
        same_possible = ring_possible_shown D;
        same_finals = λ s g.
            sym (finals_is s ∙ ap (λ v. ring_finals left right (occurrences D.right) v s) h.live_set_lem
            ∙ ring_finals_shown D few s g h.live_rising);
        same_equal = ring_equal_shown D (ring_lawful D live_rises);
        same_alone = alone_shown h;
        same_live = sym (live_members h);
        same_relations = sym h.relation_count_lem;
      }

  -- the verdict of a ring claim is that on words ("Standings")
  pub ring_verdict : (allowance : ℕ) → verdict (ring_system D) allowance ≡ shown ring_of (verdict (word_system k left right) allowance)
  ring_verdict allowance = verdict_shown ring_shows allowance
