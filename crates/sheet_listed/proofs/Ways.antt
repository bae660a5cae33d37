-- What each way through the functions says of their definitions: a standing that is not possible or that the index finds, a letter that is
-- the first or a later one, the atoms to try, and the letters of a relation.
-- Assumes nothing.
use Prim.Native.Nat.{ℕ}
use mathlib.Core.Path.{◌≡◌, sym, ◌∙◌, ap, ap₂, subst}
use mathlib.Core.Bool.{Bool, true, false, cond, not, ◌&&◌, ◌||◌}
use mathlib.Core.List.{List}
use lib.Dec.{eqb}
use lib.ListN.{get_or, take}
use Rattle.std.specs.Prelude.{Option}
use Rattle.std.specs.Option.{is_some}
use Rattle.kat.specs.Lists.{some}
use Rattle.claims.specs.Bytes.{same}
use Rattle.claims.specs.Standings.{Letter}
use Rattle.query.specs.declared.Facts.{Facts}
use Rattle.sheet_standings.specs.Layout.{cell_count, listed_cells}
use Rattle.sheet_standings.specs.CellSystem.{left_set, begin_cells, onward_cells}
use Rattle.sheet_index.specs.Index.{last_where, numbered}
use Rattle.sheet_index.proofs.Kept.{listed_found, some_numbered}
use Rattle.sheet_listed.specs.declared.Trial.{Trial}
use Rattle.sheet_listed.specs.declared.Letters.{Letters}
use Rattle.sheet_listed.specs.Listed.{Ready, Small, part_cells, listed_among, atoms_tried, stepped, letter_listed, atoms_listed, relation_listed}
use Rattle.sheet_listed.specs.inner.Letters.{letters_of}

module _ (ring : Bool) (bs : List ℕ) (base n : ℕ) (s : List ℕ) (x : Bool) (e : x ≡ not (eqb (left_set ring s) 0)) where
  -- no left occurrence is possible
  pub none_to_list : not x ≡ true → true ≡ listed_among ring (part_cells ring bs base n) s
  unfolding listed_among
  none_to_list h = sym (ap (λ b. b || some (same s) (part_cells ring bs base n)) (ap not (sym e) ∙ h))

  -- the index says whether it is listed
  pub found_or_not : not x ≡ false → (found : Option ℕ) (b : Bool) → b ≡ is_some found
      → found ≡ numbered (last_where (λ i. same (listed_cells ring bs base i) s) n)
      → b ≡ listed_among ring (part_cells ring bs base n) s
  unfolding listed_among part_cells
  found_or_not h found b z f =
      z ∙ ap is_some f ∙ some_numbered (last_where (λ i. same (listed_cells ring bs base i) s) n)
      ∙ listed_found (listed_cells ring bs base) s n
      ∙ sym (ap (λ b. b || some (same s) (part_cells ring bs base n)) (ap not (sym e) ∙ h))

module _ (ring : Bool) (left right : List ℕ) (first : Bool) (s : List ℕ) (l : Letter) (t : List ℕ) where
  -- of a prefix of one relation
  pub first_step : first ≡ true → t ≡ begin_cells ring 0 0 0 left right l → t ≡ stepped ring left right first s l
  unfolding stepped
  first_step h e =
      e ∙ sym (ap (λ b. elim b [ true ↦ begin_cells ring 0 0 0 left right l | false ↦ onward_cells ring 0 0 0 left right s l ]) h)

  -- behind a standing
  pub later_step : first ≡ false → t ≡ onward_cells ring 0 0 0 left right s l → t ≡ stepped ring left right first s l
  unfolding stepped
  later_step h e =
      e ∙ sym (ap (λ b. elim b [ true ↦ begin_cells ring 0 0 0 left right l | false ↦ onward_cells ring 0 0 0 left right s l ]) h)

module _ (f : Facts) (first : Bool) (masks : List ℕ) (r : ℕ) where
  -- all live atoms at level 1 of a ring claim
  pub all_tried : first ≡ true → f.ring ≡ true → f.live ≡ atoms_tried f first masks r
  unfolding atoms_tried
  all_tried h k = sym (ap₂ (λ b c. cond (b && c) f.live (get_or masks r 0)) h k)

  -- those of the mask at level 1 of a path claim, and later
  pub first_tried_lem : first ≡ true → f.ring ≡ false → (m : ℕ) → m ≡ get_or masks r 0 → m ≡ atoms_tried f first masks r
  unfolding atoms_tried
  first_tried_lem h k m e = e ∙ sym (ap₂ (λ b c. cond (b && c) f.live (get_or masks r 0)) h k)

  pub later_tried_lem : first ≡ false → (m : ℕ) → m ≡ get_or masks r 0 → m ≡ atoms_tried f first masks r
  unfolding atoms_tried
  later_tried_lem h m e = e ∙ sym (ap (λ b. cond (b && f.ring) f.live (get_or masks r 0)) h)

-- the standing one letter on
pub letter_passes : (ring : Bool) (left right : List ℕ) (css : List (List ℕ)) (first : Bool) (s : List ℕ) (r a : ℕ) (t : List ℕ) (x : Bool)
    → t ≡ stepped ring left right first s (record { atom = a; relation = r }) → x ≡ listed_among ring css t
    → x ≡ letter_listed ring left right css first s r a
unfolding letter_listed
letter_passes ring left right css first s r a t x e h = h ∙ ap (listed_among ring css) e

-- the letters of a relation
module _ (t : Trial) (left right sheet from : List ℕ) (r : ℕ) (l : Letters) (e : l ≡ letters_of t r) where
  -- what is asked of the standings listed and of the standing that is left
  pub letters_ready : (heads chain : List ℕ)
      → Ready t.of.facts.ring sheet t.of.base t.of.count heads chain × Small (take (cell_count t.of.facts.ring) from)
      → Ready l.of.facts.ring sheet l.of.base l.of.count heads chain × Small (take (cell_count l.of.facts.ring) from)
  letters_ready heads chain p =
      subst (λ (k : Letters). Ready k.of.facts.ring sheet k.of.base k.of.count heads chain × Small (take (cell_count k.of.facts.ring) from)) (sym e) p

  -- the atoms that are tried before it
  pub relation_passes : (x : Bool)
      → x ≡ atoms_listed l.of.facts.ring left right (part_cells l.of.facts.ring sheet l.of.base l.of.count) l.first
      (take (cell_count l.of.facts.ring) from) l.relation l.atoms
      → x ≡ relation_listed t.of.facts left right (part_cells t.of.facts.ring sheet t.of.base t.of.count) t.first
      (take (cell_count t.of.facts.ring) from) t.masks r
  unfolding relation_listed
  relation_passes x h =
      h ∙ ap
      (λ (k : Letters). atoms_listed k.of.facts.ring left right (part_cells k.of.facts.ring sheet k.of.base k.of.count) k.first
      (take (cell_count k.of.facts.ring) from) k.relation k.atoms) e
