-- The standings of a part read so far: what is left to read, from where they end, is the whole reading; and each of them is one that a
-- sheet may list. One standing more keeps this; a wrong one, a 4,097th and the end decide. The idea: a field is taken as the next standing
-- exactly
-- where it may be listed, since cells show standings and equal cells equal ones.
-- Assumes nothing.
use Prim.Native.Nat.{ℕ, zero, suc, ◌+◌, ◌*◌, ◌-◌, ◌≤◌, ◌<◌}
use native.Mathlib.Omega.{arith}
use mathlib.Core.Path.{◌≡◌, refl, sym, ◌∙◌, ap, ap₂, subst}
use mathlib.Core.Logic.{⊎_elim}
use mathlib.Core.Bool.{Bool, true, false, not, ◌&&◌, ◌||◌}
use mathlib.Core.List.{List, [], ◌∷◌, ◌++◌, map, map-append}
use mathlib.Core.Option.{Option, some, none}
use lib.Dec.{eqb}
use lib.ListN.{length, drop}
use borrow.Author.Tests.{eqb-true, eqb-false}
use Rattle.std.proofs.Math.Bool.{not-not}
use Rattle.kat.specs.Lists.{In, here, there, counted, some as some_of}
use Rattle.kat.specs.Tables.{occurrences}
use Rattle.kat.proofs.Bools.{and_left, and_right, true_not_false}
use Rattle.kat.proofs.Sets.{in_append}
use Rattle.claims.specs.Bytes.{same}
use Rattle.claims.specs.Fields.{Field as FieldRead, whole, cut, next_field, after_field, provided}
use Rattle.claims.specs.Refusals.{sheet_field, Result, ok, refuse}
use Rattle.claims.specs.SheetBytes.{contents_length}
use Rattle.claims.specs.SheetReading.{Part, says_proved, tagged, standing_of, standing_in, standings_in}
use Rattle.claims.specs.SheetWriting.{AllBytes}
use Rattle.claims.specs.Sides.{Decision}
use Rattle.claims.specs.Standings.{claim_system}
use Rattle.claims.specs.Width.{width, row_length}
use Rattle.sheet_standings.specs.Layout.{field_length, standing_cells, listed_cells}
use Rattle.sheet_standings.specs.CellSystem.{cells_fit, cells_show}
use Rattle.sheet_standings.specs.Good.{GoodCells}
use Rattle.sheet_standings.proofs.FieldCells.{FieldAt, field_at, contents_other}
use Rattle.sheet_standings.proofs.ByKind.{contents_read, cells_good}
use Rattle.sheet_index.specs.Index.{last_where}
use Rattle.sheet_index.proofs.Kept.{listed_found}
use Rattle.sheet_word.proofs.Refuted.{decided_shows}
use Rattle.query.specs.Decided.{Decided}
use Rattle.query.specs.declared.Facts.{Facts}
use Rattle.sheet_fields.specs.Reads.{cells_listed}
use Rattle.sheet_fields.specs.inner.Between.{SoFar}
use Rattle.sheet_fits.specs.inner.Steps.{sized, may_list}

-- one standing more
upto_last : (i n : ℕ) → counted i (suc n) ≡ counted i n ++ ((i + n) ∷ [])
upto_last i zero = let e : i ≡ i + 0 = omega arith in ap (λ k. k ∷ []) e
upto_last i (suc n) =
    let e : suc i + n ≡ i + suc n = omega arith in
    ap (λ ks. i ∷ ks) (upto_last (suc i) n ∙ ap (λ k. counted (suc i) n ++ (k ∷ [])) e)

module _ (ring : Bool) (bs : List ℕ) (base : ℕ) where
  from_none : (n : ℕ) → cells_listed ring bs base n ≡ map (listed_cells ring bs base) (counted 0 n)
  from_none n = let e : n - 0 ≡ n = omega arith in ap (λ k. map (listed_cells ring bs base) (counted 0 k)) e

  listed_more : (n : ℕ) → cells_listed ring bs base (n + 1) ≡ cells_listed ring bs base n ++ (listed_cells ring bs base n ∷ [])
  listed_more n =
      let e : n + 1 ≡ suc n = omega arith in
      let z : 0 + n ≡ n = omega arith in
      from_none (n + 1) ∙ ap (λ k. map (listed_cells ring bs base) (counted 0 k)) e ∙ ap (map (listed_cells ring bs base)) (upto_last 0 n)
      ∙ map-append (listed_cells ring bs base) (counted 0 n) ((0 + n) ∷ [])
      ∙ ap₂ (λ cs k. cs ++ (listed_cells ring bs base k ∷ [])) (sym (from_none n)) z

-- how the reading goes on, for any number that may follow
module _ (D : Decision) (k : ℕ) (listed : List (claim_system D).Standing) (bs : List ℕ) where
  abbrev ended : Result (Part D)
  ended = ok (record { said = says_proved listed; next = k; rest = bs })

  abbrev onward : ℕ → Option (claim_system D).Standing → Result (Part D)
  onward m o =
      elim o [
        | none ↦ refuse sheet_field k
        | some s ↦ standings_in D m (suc k) (listed ++ (s ∷ [])) (after_field (next_field bs))
      ]

  end_here : (m : ℕ) → tagged 3 bs ≡ false → standings_in D m k listed bs ≡ ended
  unfolding standings_in
  end_here zero e = ap (λ b. elim b [ true ↦ refuse sheet_field k | false ↦ ended ]) e
  end_here (suc m) e = ap (λ b. elim b [ false ↦ ended | true ↦ onward m (standing_in D listed (next_field bs)) ]) e

  full_here : tagged 3 bs ≡ true → standings_in D 0 k listed bs ≡ refuse sheet_field k
  unfolding standings_in
  full_here e = ap (λ b. elim b [ true ↦ refuse sheet_field k | false ↦ ended ]) e

  step_here : (m : ℕ) → tagged 3 bs ≡ true → standings_in D (suc m) k listed bs ≡ onward m (standing_in D listed (next_field bs))
  unfolding standings_in
  step_here m e = ap (λ b. elim b [ false ↦ ended | true ↦ onward m (standing_in D listed (next_field bs)) ]) e

-- a test on shown things is one on those that show them
some_shown : {A B : Type 0} (show : B → A) (p : A → Bool) (q : B → Bool) (l : List B) → ((x : B) → In x l → p (show x) ≡ q x)
    → some_of p (map show l) ≡ some_of q l
some_shown show p q [] h = refl
some_shown show p q (x ∷ xs) h = ap₂ ◌||◌ (h x (here refl)) (some_shown show p q xs (λ y i. h y (there i)))

module _ {f : Facts} {left right : List ℕ} {D : Decision} (d : Decided f left right D) where
  -- equal cells are equal standings
  equal_cells : (s t : List ℕ) → GoodCells D.ring D s → GoodCells D.ring D t
      → (claim_system D).equal (cells_show D.ring D s) (cells_show D.ring D t) ≡ same s t
  equal_cells = (decided_shows d).same_equal

  module _ (bs : List ℕ) (all : AllBytes bs) (base n at : ℕ)
      (goods : (c : List ℕ) → In c (cells_listed D.ring bs base n) → GoodCells D.ring D c) where
    abbrev cells : List ℕ
    cells = standing_cells D.ring bs at

    abbrev shown_here : (claim_system D).Standing
    shown_here = cells_show D.ring D cells

    abbrev before : List (claim_system D).Standing
    before = map (cells_show D.ring D) (cells_listed D.ring bs base n)

    abbrev fitting : Bool
    fitting = cells_fit D.ring D.atoms (occurrences D.left) (occurrences D.right) cells

    abbrev found : ℕ
    found = last_where (λ i. same (listed_cells D.ring bs base i) cells) n

    -- it is none of those before it where the index does not have it
    repeated : GoodCells D.ring D cells → not (some_of ((claim_system D).equal shown_here) before) ≡ eqb found 0
    repeated g =
        ap not
        (some_shown (cells_show D.ring D) ((claim_system D).equal shown_here) (same cells) (cells_listed D.ring bs base n)
        (λ c i. equal_cells cells c g (goods c i))
        ∙ sym (listed_found (listed_cells D.ring bs base) cells n))
        ∙ not-not (eqb found 0)

    abbrev standing_from : Option (claim_system D).Standing → Option (claim_system D).Standing
    standing_from o = elim o [ none ↦ none | some s ↦ provided (not (some_of ((claim_system D).equal s) before)) s ]

    -- contents of the right length
    right_size_lem : (tag : ℕ) (contents rest : List ℕ) → next_field (drop at bs) ≡ whole tag contents rest
        → length contents ≡ contents_length D.ring → (b : Bool) → fitting ≡ b
        → standing_in D before (whole tag contents rest) ≡ provided (b && eqb found 0) shown_here
    unfolding standing_in
    right_size_lem tag contents rest e size false h =
        let field : FieldAt bs at contents rest = field_at bs at tag contents rest e in
        let is : standing_of D.ring D contents ≡ none =
        contents_read D bs at contents rest all field D.ring size ∙ ap (λ b. provided b shown_here) h in
        ap standing_from is
    right_size_lem tag contents rest e size true h =
        let field : FieldAt bs at contents rest = field_at bs at tag contents rest e in
        let is : standing_of D.ring D contents ≡ some shown_here =
        contents_read D bs at contents rest all field D.ring size ∙ ap (λ b. provided b shown_here) h in
        ap standing_from is ∙ ap (λ b. provided b shown_here) (repeated (cells_good D bs at contents rest all field D.ring size h))

    by_size : (tag : ℕ) (contents rest : List ℕ) → next_field (drop at bs) ≡ whole tag contents rest
        → (b : Bool) → eqb (length contents) (contents_length D.ring) ≡ b
        → standing_in D before (whole tag contents rest) ≡ provided (b && fitting && eqb found 0) shown_here
    unfolding standing_in
    by_size tag contents rest e true h =
        right_size_lem tag contents rest e (eqb-true (length contents) (contents_length D.ring) h) fitting refl
    by_size tag contents rest e false h =
        let is : standing_of D.ring D contents ≡ none =
        contents_other D.ring D contents (eqb-false (length contents) (contents_length D.ring) h) in
        ap standing_from is

    by_field : (field : FieldRead) → next_field (drop at bs) ≡ field
        → standing_in D before field ≡ provided (sized D.ring field && fitting && eqb found 0) shown_here
    unfolding standing_in sized
    by_field cut e = refl
    by_field (whole tag contents rest) e = by_size tag contents rest e (eqb (length contents) (contents_length D.ring)) refl

    -- the field is taken as the next standing exactly where it may be listed
    pub standing_is : standing_in D before (next_field (drop at bs))
        ≡ provided (may_list D.ring D.atoms (occurrences D.left) (occurrences D.right) bs base n at) shown_here
    unfolding may_list
    standing_is = by_field (next_field (drop at bs)) refl

-- a field as long as a standing's lies in the bytes, and the next one starts behind it
pub field_length_lem : (ring : Bool) → 3 + contents_length ring ≡ field_length ring
unfolding contents_length field_length width row_length
field_length_lem true = refl
field_length_lem false = refl

module _ (ring : Bool) (bs : List ℕ) (at : ℕ) where
  room_of : (field : FieldRead) → next_field (drop at bs) ≡ field → sized ring field ≡ true
      → (at + field_length ring ≤ length bs) × (after_field field ≡ drop (at + field_length ring) bs)
  unfolding sized
  room_of cut e s = absurd (true_not_false s refl)
  room_of (whole tag contents rest) e s =
      let field : FieldAt bs at contents rest = field_at bs at tag contents rest e in
      let size : length contents ≡ contents_length ring = eqb-true (length contents) (contents_length ring) s in
      let room : at + 3 + length contents ≤ length bs = field.room in
      let z : at + 3 + length contents ≡ at + field_length ring = omega (arith, field_length_lem ring) in
      (omega arith, field.behind ∙ ap (λ i. drop i bs) z)

  pub sized_room : sized ring (next_field (drop at bs)) ≡ true → at + field_length ring ≤ length bs
  sized_room s = (room_of (next_field (drop at bs)) refl s).0

  sized_behind : sized ring (next_field (drop at bs)) ≡ true → after_field (next_field (drop at bs)) ≡ drop (at + field_length ring) bs
  sized_behind s = (room_of (next_field (drop at bs)) refl s).1

-- a standing that may be listed has its length and fits
module _ (ring : Bool) (atoms l r : ℕ) (bs : List ℕ) (base n at : ℕ) (m : may_list ring atoms l r bs base n at ≡ true) where
  abbrev test : Bool
  test = sized ring (next_field (drop at bs))

  abbrev fit : Bool
  fit = cells_fit ring atoms l r (standing_cells ring bs at)

  abbrev new : Bool
  new = eqb (last_where (λ i. same (listed_cells ring bs base i) (standing_cells ring bs at)) n) 0

  pub listable_sized : test ≡ true
  unfolding may_list
  listable_sized = and_left test fit (and_left (test && fit) new m)

  listable_fits : fit ≡ true
  unfolding may_list
  listable_fits = and_right test fit (and_left (test && fit) new m)

-- one of another length may not
pub unsized_not : (ring : Bool) (atoms l r : ℕ) (bs : List ℕ) (base n at : ℕ) → sized ring (next_field (drop at bs)) ≡ false
    → may_list ring atoms l r bs base n at ≡ false
unfolding may_list
unsized_not ring atoms l r bs base n at e =
    ap (λ b. b && cells_fit ring atoms l r (standing_cells ring bs at)
    && eqb (last_where (λ i. same (listed_cells ring bs base i) (standing_cells ring bs at)) n) 0) e

pub so_far_none : (D : Decision) (bs : List ℕ) (base fuel : ℕ) → SoFar D bs base fuel 0 base
so_far_none D bs base fuel =
    record {
      good = λ c i. absurd (nothing c (subst (In c) (from_none D.ring bs base 0) i));
      read = λ k. let e : k ≡ k + 0 = omega arith in
          let g : fuel ≡ fuel - 0 = omega arith in
          ap₂ (λ m j. standings_in D m j [] (drop base bs)) g e
          ∙ ap (λ cs. standings_in D (fuel - 0) (k + 0) (map (cells_show D.ring D) cs) (drop base bs)) (sym (from_none D.ring bs base 0));
    }
  where
    nothing : (c : List ℕ) → In c [] → ⊥
    nothing c i = elim i [ ]

module _ {f : Facts} {left right : List ℕ} {D : Decision} (d : Decided f left right D) (bs : List ℕ) (all : AllBytes bs)
    {base fuel n at : ℕ} (so : SoFar D bs base fuel n at) where
  abbrev listable : Bool
  listable = may_list D.ring D.atoms (occurrences D.left) (occurrences D.right) bs base n at

  -- no further standing
  pub so_far_end : (k : ℕ) → tagged 3 (drop at bs) ≡ false
      → standings_in D fuel k [] (drop base bs)
      ≡ ok (record { said = says_proved (map (cells_show D.ring D) (cells_listed D.ring bs base n)); next = k + n; rest = drop at bs })
  so_far_end k e =
      so.read k ∙ end_here D (k + n) (map (cells_show D.ring D) (cells_listed D.ring bs base n)) (drop at bs) (fuel - n) e

  -- one more than may follow one another
  pub so_far_full : (k : ℕ) → n ≡ fuel → tagged 3 (drop at bs) ≡ true → standings_in D fuel k [] (drop base bs) ≡ refuse sheet_field (k + n)
  so_far_full k h e =
      let z : fuel - n ≡ 0 = omega arith in
      so.read k
      ∙ ap (λ m. standings_in D m (k + n) (map (cells_show D.ring D) (cells_listed D.ring bs base n)) (drop at bs)) z
      ∙ full_here D (k + n) (map (cells_show D.ring D) (cells_listed D.ring bs base n)) (drop at bs) e

  module _ (h : n < fuel) (e : tagged 3 (drop at bs) ≡ true) where
    -- the next standing, if it is one
    step : (k : ℕ) → standings_in D fuel k [] (drop base bs)
        ≡ onward D (k + n) (map (cells_show D.ring D) (cells_listed D.ring bs base n)) (drop at bs) (fuel - (n + 1))
        (provided listable (cells_show D.ring D (standing_cells D.ring bs at)))
    step k =
        let z : fuel - n ≡ suc (fuel - (n + 1)) = omega arith in
        so.read k
        ∙ ap (λ m. standings_in D m (k + n) (map (cells_show D.ring D) (cells_listed D.ring bs base n)) (drop at bs)) z
        ∙ step_here D (k + n) (map (cells_show D.ring D) (cells_listed D.ring bs base n)) (drop at bs) (fuel - (n + 1)) e
        ∙ ap (onward D (k + n) (map (cells_show D.ring D) (cells_listed D.ring bs base n)) (drop at bs) (fuel - (n + 1)))
        (standing_is d bs all base n at so.good)

    pub so_far_wrong : (k : ℕ) → listable ≡ false → standings_in D fuel k [] (drop base bs) ≡ refuse sheet_field (k + n)
    so_far_wrong k m =
        step k
        ∙ ap (λ b. onward D (k + n) (map (cells_show D.ring D) (cells_listed D.ring bs base n)) (drop at bs) (fuel - (n + 1))
        (provided b (cells_show D.ring D (standing_cells D.ring bs at)))) m

    module _ (m : listable ≡ true) (place : at ≡ base + field_length D.ring * n) where
      abbrev F : ℕ
      F = field_length D.ring

      long : sized D.ring (next_field (drop at bs)) ≡ true
      long = listable_sized D.ring D.atoms (occurrences D.left) (occurrences D.right) bs base n at m

      good_of : (field : FieldRead) → next_field (drop at bs) ≡ field → sized D.ring field ≡ true
          → GoodCells D.ring D (standing_cells D.ring bs at)
      unfolding sized
      good_of cut p s = absurd (true_not_false s refl)
      good_of (whole tag contents rest) p s =
          cells_good D bs at contents rest all (field_at bs at tag contents rest p) D.ring
          (eqb-true (length contents) (contents_length D.ring) s)
          (listable_fits D.ring D.atoms (occurrences D.left) (occurrences D.right) bs base n at m)

      here_is : standing_cells D.ring bs at ≡ listed_cells D.ring bs base n
      unfolding listed_cells
      here_is = ap (standing_cells D.ring bs) place

      good_more : (c : List ℕ) → In c (cells_listed D.ring bs base (n + 1)) → GoodCells D.ring D c
      good_more c i =
          ⊎_elim (so.good c) last_good (in_append (cells_listed D.ring bs base n) (subst (In c) (listed_more D.ring bs base n) i))
        where
          last_good : In c (listed_cells D.ring bs base n ∷ []) → GoodCells D.ring D c
          last_good (here q) = subst (GoodCells D.ring D) (here_is ∙ sym q) (good_of (next_field (drop at bs)) refl long)
          last_good (there x3) = elim x3 [ ]

      shown_more : map (cells_show D.ring D) (cells_listed D.ring bs base n) ++ (cells_show D.ring D (standing_cells D.ring bs at) ∷ [])
          ≡ map (cells_show D.ring D) (cells_listed D.ring bs base (n + 1))
      shown_more =
          ap (λ c. map (cells_show D.ring D) (cells_listed D.ring bs base n) ++ (cells_show D.ring D c ∷ [])) here_is
          ∙ sym (ap (map (cells_show D.ring D)) (listed_more D.ring bs base n)
          ∙ map-append (cells_show D.ring D) (cells_listed D.ring bs base n) (listed_cells D.ring bs base n ∷ []))

      -- one standing more
      pub so_far_more : SoFar D bs base fuel (n + 1) (at + field_length D.ring)
      so_far_more =
          record {
            good = good_more;
            read = λ k. let z : suc (k + n) ≡ k + (n + 1) = omega arith in
                step k
                ∙ ap (λ b. onward D (k + n) (map (cells_show D.ring D) (cells_listed D.ring bs base n)) (drop at bs) (fuel - (n + 1))
                (provided b (cells_show D.ring D (standing_cells D.ring bs at)))) m
                ∙ ap₂ (λ ss rest. standings_in D (fuel - (n + 1)) (suc (k + n)) ss rest) shown_more (sized_behind D.ring bs at long)
                ∙ ap (λ j. standings_in D (fuel - (n + 1)) j (map (cells_show D.ring D) (cells_listed D.ring bs base (n + 1)))
                (drop (at + F) bs)) z;
          }
