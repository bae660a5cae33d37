-- The kind of standing that the search runs on: lists of machine words, by the shape of the decision and the tables of its two sides.
-- (Document 01, "Standings".) `proofs/` shows that it is the kind of standing of the decision, so that verdict, words and counts are the same.
-- Assumes nothing.
use Rattle.std.specs.Prelude.{ℕ, Bool, true, false, not, cond, List, eqb, get_or}
use Rattle.claims.specs.Bytes.{same}
use Rattle.claims.specs.Standings.{System, Letter}
use Rattle.bits.specs.Sets.{members}
use Rattle.search_standings.specs.Layout.{TOLD, PATH-TOLD}
use Rattle.search_standings.specs.declared.Shape.{Shape}
use Rattle.standings.specs.Steps.{alone_words}
use Rattle.search_standings.specs.PathWords.{path_begin, path_onward, path_finals}
use Rattle.search_standings.specs.RingWords.{ring_begin, ring_onward, ring_finals}

-- how many words a standing is: P and S; or P, the columns, the first atom and Z
unfoldable pub width : Bool → ℕ
width ring = cond ring TOLD PATH-TOLD

module _ (k : Shape) (left right : List ℕ) where
  -- the standing of a prefix of one relation
  unfoldable pub begin_words : Letter → List ℕ
  begin_words l = elim k.ring [ false ↦ path_begin left right l | true ↦ ring_begin left right k.right l ]

  -- the standing of a prefix one relation longer
  unfoldable pub onward_words : List ℕ → Letter → List ℕ
  onward_words s l = elim k.ring [ false ↦ path_onward left right s l | true ↦ ring_onward left right s l ]

  -- the atoms with which it completes a refuting word, rising
  unfoldable pub finals_words : List ℕ → List ℕ
  finals_words s =
      elim k.ring [ false ↦ path_finals left right k.live s | true ↦ ring_finals left right k.right k.live s ]

  -- the kind of standing; a left occurrence is possible where word 0, which is P, is not empty
  abbrev pub word_system : System
  word_system =
      record {
        Standing = List ℕ;
        equal = same;
        begin = begin_words;
        onward = onward_words;
        possible = λ s. not (eqb (get_or s 0 0) 0);
        finals = finals_words;
        alone = alone_words left right k.live;
        live = members k.live;
        relations = k.relations;
      }
