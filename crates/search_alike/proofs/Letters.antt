-- The letters that the search tries by its masks, in its order, are the letters that `claims` lets it try; and they are all letters where each
-- mask is the set of all live atoms. (Document 01, "Standings".)
-- Assumes nothing.
use Prim.Native.Nat.{ℕ, ◌≤◌, ◌<◌}
use native.Mathlib.Omega.{arith}
use mathlib.Core.Path.{◌≡◌, refl, sym, ◌∙◌, ap, ap₂, subst}
use mathlib.Core.Bool.{Bool, true, false, cond}
use mathlib.Core.List.{List, [], ◌∷◌}
use lib.ListN.{get_or}
use borrow.Author.Tests.{lt-ltb}
use Rattle.kat.specs.Lists.{In, here, there, upto, filter}
use Rattle.kat.specs.Tables.{occurrences}
use Rattle.kat.proofs.Sets.{filter_same, member_in}
use Rattle.claims.specs.Query.{bit}
use Rattle.claims.specs.Fields.{set_number}
use Rattle.claims.specs.Sides.{Decision}
use Rattle.claims.specs.Standings.{System, Letter, letters_of, letters, path_system, ring_system}
use Rattle.claims.specs.Alike.{path_letter, ring_letter}
use Rattle.claims.proofs.SetBytes.{RisingWithin, set_read_back}
use Rattle.claims.proofs.Letters.{Fits, letters_in_lem}
use Rattle.memory.specs.Memory.{words}
use Rattle.memory.proofs.Words.{words_at_lem}
use Rattle.bits.specs.Sets.{members}
use Rattle.bits.proofs.Members.{number_in}
use Rattle.side_tables.specs.SideTable.{side_table}
use Rattle.search_standings.specs.declared.Shape.{Shape}
use Rattle.standings.specs.Alike.{alike_at}
use Rattle.standings.proofs.LowestAlike.{live_bit, lowest_set, lowest_path, lowest_ring}
use Rattle.search_alike.specs.Masks.{alike_words, lowest_words, mask_of, mask_at, masks_of}

-- a test that all pass
pub filter_all : {A : Type 0} (p : A → Bool) (l : List A) → ((x : A) → In x l → p x ≡ true) → filter p l ≡ l
filter_all p [] h = refl
filter_all p (x ∷ xs) h =
    ap₂ (λ b ys. cond b (x ∷ ys) ys) (h x (here refl)) (filter_all p xs (λ y i. h y (there i)))

-- the letter's atom is in the mask of its relation
abbrev tried : List ℕ → Letter → Bool
tried masks l = bit l.atom (get_or masks l.relation 0)

module _ (S : System) (live relations : ℕ) (set : live ≡ set_number 0 S.live) (rising : RisingWithin 0 64 S.live)
    (count : relations ≡ S.relations) (few : S.relations ≤ 16) where
  live_members : members live ≡ S.live
  live_members = ap members set ∙ set_read_back 0 64 S.live rising

  -- all letters, by the set of live atoms
  letters_same : letters_of (members live) (upto 0 relations) ≡ letters S
  unfolding letters
  letters_same = ap₂ (λ as' n. letters_of as' (upto 0 n)) live_members count

  fits_low : (l : Letter) → Fits S l → l.atom < 64
  fits_low l f = (number_in 0 64 live l.atom (subst (In l.atom) (sym live_members) (member_in l.atom S.live f.0))).1

  -- masks that hold the atoms of the letters that pass a test
  letters_tried : (masks : List ℕ) (test : Letter → Bool)
      → ((l : Letter) → l.atom < 64 → l.relation < 16 → Fits S l → tried masks l ≡ test l)
      → filter (tried masks) (letters_of (members live) (upto 0 relations)) ≡ filter test (letters S)
  letters_tried masks test h =
      ap (filter (tried masks)) letters_same
      ∙ filter_same (tried masks) test (letters S)
      (λ l i. let f : Fits S l = letters_in_lem S l i in
      let (m, n) = f in
      h l (fits_low l f) (omega arith) f)

  -- each mask the set of all live atoms: level 1 of a ring claim tries all letters
  pub letters_by_live : filter (λ l. bit l.atom (get_or (words 16 (λ r. live)) l.relation 0)) (letters_of (members live) (upto 0 relations))
      ≡ letters S
  letters_by_live =
      letters_tried (words 16 (λ r. live)) (λ l. true)
      (λ l a r f. ap (bit l.atom) (words_at_lem 16 (λ q. live) l.relation r ∙ set) ∙ live_bit S.live rising l.atom a ∙ f.0)
      ∙ filter_all (λ l. true) (letters S) (λ l i. refl)

module _ (D : Decision) (few_left : occurrences D.left ≤ 64) (few_right : occurrences D.right ≤ 64)
    (k : Shape) (right : k.right ≡ occurrences D.right) (live : k.live ≡ set_number 0 D.live) (rising : RisingWithin 0 64 D.live)
    (count : k.relations ≡ D.relations) (few : D.relations ≤ 16) where
  abbrev masks : List ℕ
  masks = masks_of k (occurrences D.left) (side_table D.left) (side_table D.right)

  -- the mask of a declared relation
  mask_there : (r : ℕ) → r < 16 → r < D.relations
      → get_or masks r 0 ≡ mask_of k (occurrences D.left) (side_table D.left) (side_table D.right) r
  unfolding masks_of mask_at
  mask_there r h d =
      words_at_lem 16 (mask_at k (occurrences D.left) (side_table D.left) (side_table D.right)) r h
      ∙ ap (λ b. cond b (mask_of k (occurrences D.left) (side_table D.left) (side_table D.right) r) 0)
      (lt-ltb r k.relations (omega arith))

  -- a mask is the set of the lowest atoms that are alike, by the decision
  mask_is : (ring : Bool) → k.ring ≡ ring → (r : ℕ)
      → mask_of k (occurrences D.left) (side_table D.left) (side_table D.right) r
      ≡ lowest_set (alike_at ring (occurrences D.left) (occurrences D.right) (side_table D.left) (side_table D.right) r) (set_number 0 D.live)
  unfolding mask_of lowest_words alike_words
  mask_is ring e r =
      ap (λ c. lowest_set (alike_at c (occurrences D.left) k.right (side_table D.left) (side_table D.right) r) k.live) e
      ∙ ap₂ (λ m s. lowest_set (alike_at ring (occurrences D.left) m (side_table D.left) (side_table D.right) r) s) right live

  -- the letters that a path claim tries
  pub letters_by_path_masks : k.ring ≡ false
      → filter (λ l. bit l.atom (get_or masks l.relation 0)) (letters_of (members k.live) (upto 0 k.relations))
      ≡ filter (path_letter D) (letters (path_system D))
  letters_by_path_masks path =
      letters_tried (path_system D) k.live k.relations live rising count few masks (path_letter D)
      (λ l a r f. ap (bit l.atom) (mask_there l.relation r f.1 ∙ mask_is false path l.relation)
      ∙ lowest_path D few_left few_right rising l.relation l.atom r a)

  -- the letters that a ring claim tries from level 2 on
  pub letters_by_ring_masks : k.ring ≡ true
      → filter (λ l. bit l.atom (get_or masks l.relation 0)) (letters_of (members k.live) (upto 0 k.relations))
      ≡ filter (ring_letter D) (letters (ring_system D))
  letters_by_ring_masks ring =
      letters_tried (ring_system D) k.live k.relations live rising count few masks (ring_letter D)
      (λ l a r f. ap (bit l.atom) (mask_there l.relation r f.1 ∙ mask_is true ring l.relation)
      ∙ lowest_ring D few_left few_right rising l.relation l.atom r a)
