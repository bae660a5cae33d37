-- The order in which letters are tried does not matter: the code takes each relation and the atoms of its mask, the definition each live atom
-- and the relations, and every one passes in the one order where it does in the other. So the standings of a part prove in the order of
-- the code exactly where they do by the definition.
-- Assumes nothing.
use Prim.Native.Nat.{ℕ, ◌-◌, ◌≤◌, ◌<◌}
use native.Mathlib.Omega.{arith}
use mathlib.Core.Path.{◌≡◌, refl, sym, ◌∙◌, ap, ap₂}
use mathlib.Core.Logic.{⊎_elim}
use mathlib.Core.Bool.{Bool, true, false, cond, not, ◌&&◌, ◌||◌}
use mathlib.Core.List.{List, [], ◌∷◌, map}
use lib.ListN.{get_or}
use Rattle.kat.specs.Lists.{In, upto, filter, every, member, is_empty}
use Rattle.kat.proofs.Bools.{bool_ext, true_not_false, lt_or_le, and_left, and_right, and_both}
use Rattle.kat.proofs.Sets.{member_in, in_member, every_in, in_every, filter_in, in_filter, in_upto, upto_in, past_upto}
use Rattle.claims.specs.Query.{bit}
use Rattle.claims.specs.Standings.{System, Letter, letters}
use Rattle.claims.specs.Orders.{letter_of}
use Rattle.claims.specs.Passing.{listed}
use Rattle.claims.specs.Thin.{thin_proving}
use Rattle.claims.proofs.Letters.{Fits, in_letters, letters_in_lem}
use Rattle.memory.specs.Memory.{words}
use Rattle.bits.specs.Sets.{members}
use Rattle.bits.proofs.Bit.{bit_none}
use Rattle.bits.proofs.Members.{number_in, in_number}
use Rattle.standings.specs.Steps.{alone_words}
use Rattle.query.specs.declared.Facts.{Facts}
use Rattle.sheet_standings.specs.Layout.{listed_cells}
use Rattle.sheet_standings.specs.CellSystem.{begin_cells, onward_cells, finals_cells}
use Rattle.sheet_alike.specs.Masks.{mask_at, masks_of, tried}
use Rattle.standings.proofs.Tests.{first_fails, second_fails, third_decides}
use Rattle.sheet_alike.proofs.Letters.{mask_live}
use Rattle.sheet_listed.specs.Listed.{part_cells, listed_among, atoms_tried, stepped, letter_listed, atoms_listed, relation_listed, letters_listed}
use Rattle.sheet_proves.specs.Proves.{cells_of, first_tried, later_tried, proves_cells}
use Rattle.sheet_proves.specs.inner.Standings.{standing_passes, place_passes, places_pass, part_proves}

-- the atoms of m r before each relation r are those of the letters that pass t
module _ (S : System) (m : ℕ → ℕ) (t q : Letter → Bool)
    (fits : (r a : ℕ) → r < S.relations → In a (members (m r)) → (member a S.live ≡ true) × (t (letter_of a r) ≡ true))
    (back : (l : Letter) → Fits S l → t l ≡ true → In l.atom (members (m l.relation))) where
  pub order_same : every (λ r. every (λ a. q (letter_of a r)) (members (m r))) (upto 0 S.relations) ≡ every q (filter t (letters S))
  order_same =
      bool_ext (every (λ r. every (λ a. q (letter_of a r)) (members (m r))) (upto 0 S.relations)) (every q (filter t (letters S)))
      (λ e. in_every q (filter t (letters S)) (λ l i.
      let (j, p) = filter_in t (letters S) i in
      let f : Fits S l = letters_in_lem S l j in
      every_in (λ a. q (letter_of a l.relation))
      (every_in (λ r. every (λ a. q (letter_of a r)) (members (m r))) e (in_upto l.relation 0 S.relations (omega arith) f.1))
      (back l f p)))
      (λ e. in_every (λ r. every (λ a. q (letter_of a r)) (members (m r))) (upto 0 S.relations) (λ r i.
      let (u, v) = upto_in r 0 S.relations i in
      in_every (λ a. q (letter_of a r)) (members (m r)) (λ a j.
      let (x, y) = fits r a v j in
      every_in q e (in_filter t (in_letters S (letter_of a r) (x, v)) y))))

-- two tests of every one
every_both : {A : Type 0} (p q : A → Bool) (l : List A) → every (λ x. p x && q x) l ≡ (every q l && every p l)
every_both p q l =
    bool_ext (every (λ x. p x && q x) l) (every q l && every p l)
    (λ e. and_both (in_every q l (λ x i. and_right (p x) (q x) (every_in (λ x. p x && q x) e i)))
    (in_every p l (λ x i. and_left (p x) (q x) (every_in (λ x. p x && q x) e i))))
    (λ e. in_every (λ x. p x && q x) l (λ x i.
    and_both (every_in p (and_right (every q l) (every p l) e) i) (every_in q (and_left (every q l) (every p l) e) i)))

every_map : {A B : Type 0} (f : A → B) (p : B → Bool) (l : List A) → every p (map f l) ≡ every (λ x. p (f x)) l
every_map f p [] = refl
every_map f p (x ∷ xs) = ap (λ b. p (f x) && b) (every_map f p xs)

every_same : {A : Type 0} (p q : A → Bool) (l : List A) → ((x : A) → p x ≡ q x) → every p l ≡ every q l
every_same p q [] h = refl
every_same p q (x ∷ xs) h = ap₂ ◌&&◌ (h x) (every_same p q xs h)

four : (a b c d : Bool) → (a && b && (c && d)) ≡ (a && b && c && d)
four true true c d = refl
four true false c d = refl
four false b c d = refl

module _ (f : Facts) (left right : List ℕ) where
  abbrev W : System
  W = cells_of f left right

  abbrev masks : List ℕ
  masks = masks_of f left right

  masks_past : (r : ℕ) → 16 ≤ r → get_or masks r 0 ≡ 0
  unfolding masks_of words
  masks_past r k = past_upto (mask_at f left right) 0 16 r k

  -- an atom of a mask is live, whatever the relation
  mask_fits : (r a : ℕ) → r < f.relations → In a (members (get_or masks r 0))
      → (member a (members f.live) ≡ true) × (tried masks (letter_of a r) ≡ true)
  unfolding tried
  mask_fits r a h i = ⊎_elim below past (lt_or_le r 16)
    where
      is : bit a (get_or masks r 0) ≡ true
      is =
          let (u, v, w) = number_in 0 64 (get_or masks r 0) a i in
          let z : a ≡ a - 0 = omega arith in
          ap (λ j. bit j (get_or masks r 0)) z ∙ w

      below : r < 16 → (member a (members f.live) ≡ true) × (bit a (get_or masks r 0) ≡ true)
      below k = (mask_live f left right r a k h is, is)

      past : 16 ≤ r → (member a (members f.live) ≡ true) × (bit a (get_or masks r 0) ≡ true)
      past k = absurd (true_not_false is (ap (bit a) (masks_past r k) ∙ bit_none a))

  -- a letter whose atom is in the mask
  mask_back : (l : Letter) → Fits W l → tried masks l ≡ true → In l.atom (members (get_or masks l.relation 0))
  unfolding tried
  mask_back l (m, h) e =
      let (u, v, w) = number_in 0 64 f.live l.atom (member_in l.atom (members f.live) m) in
      let z : l.atom - 0 ≡ l.atom = omega arith in
      in_number 0 64 (get_or masks l.relation 0) l.atom u v (ap (λ j. bit j (get_or masks l.relation 0)) z ∙ e)

  module _ (css : List (List ℕ)) where
    -- a letter that begins, or that leads on
    abbrev begins : Letter → Bool
    begins l = listed W css (W.begin l)

    abbrev leads_on : List ℕ → Letter → Bool
    leads_on s l = listed W css (W.onward s l)

    -- the code's test by relation and atom
    begins_by_code : (s : List ℕ) (m : ℕ → ℕ) → ((r : ℕ) → atoms_tried f true masks r ≡ m r)
        → letters_listed f left right css true s masks ≡ every (λ r. every (λ a. begins (letter_of a r)) (members (m r))) (upto 0 f.relations)
    unfolding letters_listed relation_listed atoms_listed letter_listed stepped listed_among listed begin_cells
    begins_by_code s m h =
        every_same (λ r. every (λ a. begins (letter_of a r)) (members (atoms_tried f true masks r)))
        (λ r. every (λ a. begins (letter_of a r)) (members (m r))) (upto 0 f.relations)
        (λ r. ap (λ k. every (λ a. begins (letter_of a r)) (members k)) (h r))

    leads_by_code : (s : List ℕ) (m : ℕ → ℕ) → ((r : ℕ) → atoms_tried f false masks r ≡ m r)
        → letters_listed f left right css false s masks ≡ every (λ r. every (λ a. leads_on s (letter_of a r)) (members (m r))) (upto 0 f.relations)
    unfolding letters_listed relation_listed atoms_listed letter_listed stepped listed_among listed onward_cells
    leads_by_code s m h =
        every_same (λ r. every (λ a. leads_on s (letter_of a r)) (members (atoms_tried f false masks r)))
        (λ r. every (λ a. leads_on s (letter_of a r)) (members (m r))) (upto 0 f.relations)
        (λ r. ap (λ k. every (λ a. leads_on s (letter_of a r)) (members k)) (h r))

    -- level 1
    pub first_in_order : (s : List ℕ) → letters_listed f left right css true s masks
        ≡ every begins (filter (first_tried f left right) (letters W))
    unfolding atoms_tried first_tried
    first_in_order s = go f.ring refl
      where
        go : (b : Bool) → f.ring ≡ b → letters_listed f left right css true s masks ≡ every begins (filter (first_tried f left right) (letters W))
        go true e =
            begins_by_code s (λ r. f.live) (λ r. ap (λ b. cond b f.live (get_or masks r 0)) e)
            ∙ order_same W (λ r. f.live) (first_tried f left right) begins
            (λ r a h i. (in_member a i, ap (λ b. b || tried masks (letter_of a r)) e)) (λ l k t. member_in l.atom (members f.live) k.0)
        go false e =
            begins_by_code s (λ r. get_or masks r 0) (λ r. ap (λ b. cond b f.live (get_or masks r 0)) e)
            ∙ order_same W (λ r. get_or masks r 0) (first_tried f left right) begins
            (λ r a h i. let (x, y) = mask_fits r a h i in (x, ap (λ b. b || tried masks (letter_of a r)) e ∙ y))
            (λ l k t. mask_back l k (sym (ap (λ b. b || tried masks l) e) ∙ t))

    -- behind a listed standing
    pub later_in_order : (s : List ℕ) → letters_listed f left right css false s masks
        ≡ every (leads_on s) (filter (later_tried f left right) (letters W))
    unfolding atoms_tried later_tried
    later_in_order s =
        leads_by_code s (λ r. get_or masks r 0) (λ r. refl)
        ∙ order_same W (λ r. get_or masks r 0) (later_tried f left right) (leads_on s) mask_fits mask_back

    -- what all listed standings have to pass
    all_pass : every (standing_passes f left right css masks) css
        ≡ (every (λ s. every (leads_on s) (filter (later_tried f left right) (letters W))) css && every (λ s. is_empty (W.finals s)) css)
    unfolding standing_passes finals_cells
    all_pass =
        every_same (standing_passes f left right css masks)
        (λ s. is_empty (W.finals s) && every (leads_on s) (filter (later_tried f left right) (letters W))) css
        (λ s. ap (λ b. is_empty (W.finals s) && b) (later_in_order s))
        ∙ every_both (λ s. is_empty (W.finals s)) (λ s. every (leads_on s) (filter (later_tried f left right) (letters W))) css

  -- the standings of a part prove in the order of the code exactly where they prove
  pub part_proves_lem : (bs : List ℕ) (base n : ℕ) → part_proves f left right bs base n ≡ proves_cells f left right (part_cells f.ring bs base n)
  unfolding part_proves places_pass place_passes part_cells proves_cells thin_proving
  part_proves_lem bs base n =
      let css : List (List ℕ) = part_cells f.ring bs base n in
      ap₂ (λ x y. is_empty W.alone && x && y) (first_in_order css [])
      (sym (every_map (listed_cells f.ring bs base) (standing_passes f left right css masks) (upto 0 n)) ∙ all_pass css)
      ∙ four (is_empty W.alone) (every (begins css) (filter (first_tried f left right) (letters W)))
      (every (λ s. every (leads_on css s) (filter (later_tried f left right) (letters W))) css) (every (λ s. is_empty (W.finals s)) css)

  -- the code's tests, one after the other; of masks that are these, and from whatever standing the first letters are tried
  module _ (bs : List ℕ) (base n : ℕ) where
    abbrev css : List (List ℕ)
    css = part_cells f.ring bs base n

    pub alone_fails : (x : Bool) → x ≡ is_empty (alone_words left right f.live) → not x ≡ true → false ≡ proves_cells f left right css
    unfolding part_proves
    alone_fails x e h = first_fails _ _ _ x e h ∙ part_proves_lem bs base n

    module _ (x : Bool) (e : x ≡ is_empty (alone_words left right f.live)) (h : not x ≡ false) (ms s : List ℕ) (m : ms ≡ masks)
        (y : Bool) (g : y ≡ letters_listed f left right css true s ms) where
      first_level_lem : y ≡ letters_listed f left right css true [] masks
      first_level_lem =
          g ∙ ap (letters_listed f left right css true s) m ∙ first_in_order css s ∙ sym (first_in_order css [])

      pub first_fail : not y ≡ true → false ≡ proves_cells f left right css
      unfolding part_proves
      first_fail k = second_fails _ _ (places_pass f left right bs base n masks) x y e h first_level_lem k ∙ part_proves_lem bs base n

      pub places_decide : not y ≡ false → (z : Bool) → z ≡ places_pass f left right bs base n ms → z ≡ proves_cells f left right css
      unfolding part_proves
      places_decide k z p =
          third_decides _ _ _ x y z e h first_level_lem k (p ∙ ap (places_pass f left right bs base n) m) ∙ part_proves_lem bs base n
