-- The shape of a decision by its facts, and the letters that the search tries: at level 1 of a ring claim all, and else those whose atom is the
-- lowest of those that are alike. (Document 01, "Standings".)
-- Assumes nothing.
use Rattle.std.specs.Prelude.{ℕ, suc, true, false, List}
use Rattle.claims.specs.Standings.{Letter}
use Rattle.claims.specs.Search.{Verdict}
use Rattle.memory.specs.Memory.{words}
use Rattle.query.specs.declared.Facts.{Facts}
use Rattle.search_standings.specs.declared.Shape.{Shape}
use Rattle.search_standings.specs.Systems.{word_system}
use Rattle.search_standings.specs.Over.{verdict_over}
use Rattle.search_alike.specs.Masks.{masks_of}
use Rattle.search_grow.specs.Masks.{letters_in}

-- the shape of a decision, by its facts
abbrev pub shape_of : Facts → Shape
shape_of f = record { ring = f.ring; right = f.right; live = f.live; relations = f.relations }

module _ (f : Facts) (left right : List ℕ) where
  -- the atoms tried with each relation at level 1
  unfoldable pub first_masks : List ℕ
  first_masks = elim f.ring [ false ↦ masks_of (shape_of f) f.left left right | true ↦ words 16 (λ r. f.live) ]

  -- the letters of level 1
  unfoldable pub first_letters : List Letter
  first_letters = letters_in first_masks f.live f.relations

  -- the letters of the later levels
  unfoldable pub later_letters : List Letter
  later_letters = letters_in (masks_of (shape_of f) f.left left right) f.live f.relations

  -- the verdict on words
  unfoldable pub words_verdict : ℕ → Verdict (word_system (shape_of f) left right)
  words_verdict allowance =
      verdict_over (word_system (shape_of f) left right) first_letters later_letters (suc (suc allowance)) allowance
