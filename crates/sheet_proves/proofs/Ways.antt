-- What each way through the functions says of their definitions: atoms that refute by themselves, and a standing that completes or leads to
-- listed ones.
-- Assumes nothing.
use Prim.Native.Nat.{ℕ}
use mathlib.Core.Path.{◌≡◌, refl, sym, ◌∙◌, ap}
use mathlib.Core.Bool.{Bool, true, false, not, ◌&&◌}
use mathlib.Core.List.{List}
use Rattle.kat.specs.Lists.{is_empty, some, filter}
use Rattle.kat.proofs.Bools.{not_true_false}
use Rattle.bits.specs.Sets.{members}
use Rattle.bits.proofs.Lists.{some_filled}
use Rattle.standings.specs.Steps.{null_at, alone_words}
use Rattle.query.specs.declared.Facts.{Facts}
use Rattle.sheet_standings.specs.Layout.{listed_cells}
use Rattle.sheet_standings.specs.CellSystem.{finals_cells}
use Rattle.standings.proofs.Tests.{not_false_true}
use Rattle.sheet_listed.specs.Listed.{letters_listed, part_cells}
use Rattle.sheet_proves.specs.inner.Standings.{standing_passes, place_passes}

-- the single atom a is a left word and no right word
abbrev pub alone_refutes : List ℕ → List ℕ → ℕ → Bool
alone_refutes left right a = null_at left a && not (null_at right a)

not_not : (b : Bool) → not (not b) ≡ b
not_not true = refl
not_not false = refl

-- no live atom refutes by itself
pub none_refutes : (left right : List ℕ) (live : ℕ) → not (some (alone_refutes left right) (members live)) ≡ is_empty (alone_words left right live)
unfolding alone_words
none_refutes left right live =
    ap not (some_filled (alone_refutes left right) (members live)) ∙ not_not (is_empty (filter (alone_refutes left right) (members live)))

module _ (f : Facts) (left right bs : List ℕ) (base n : ℕ) (masks : List ℕ) (i : ℕ) (s : List ℕ) (e : s ≡ listed_cells f.ring bs base i)
    (x : Bool) (d : x ≡ not (is_empty (finals_cells f.ring f.right f.live 0 left right s))) where
  -- it completes a refuting word
  pub place_completes : x ≡ true → false ≡ place_passes f left right bs base n masks i
  unfolding place_passes standing_passes
  place_completes h =
      sym
      (ap (λ b. b && letters_listed f left right (part_cells f.ring bs base n) false (listed_cells f.ring bs base i) masks)
      (ap (λ t. is_empty (finals_cells f.ring f.right f.live 0 left right t)) (sym e)
      ∙ not_true_false (is_empty (finals_cells f.ring f.right f.live 0 left right s)) (sym d ∙ h)))

  -- it completes none: its letters decide
  pub place_leads : x ≡ false → (first : Bool) → first ≡ false → (y : Bool)
      → y ≡ letters_listed f left right (part_cells f.ring bs base n) first s masks
      → y ≡ place_passes f left right bs base n masks i
  unfolding place_passes standing_passes
  place_leads h first k y g =
      g ∙ ap (λ b. letters_listed f left right (part_cells f.ring bs base n) b s masks) k
      ∙ ap (λ t. letters_listed f left right (part_cells f.ring bs base n) false t masks) e
      ∙ sym
      (ap (λ b. b && letters_listed f left right (part_cells f.ring bs base n) false (listed_cells f.ring bs base i) masks)
      (ap (λ t. is_empty (finals_cells f.ring f.right f.live 0 left right t)) (sym e)
      ∙ not_false_true (is_empty (finals_cells f.ring f.right f.live 0 left right s)) (sym d ∙ h)))
