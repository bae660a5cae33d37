-- The letters that the check tries by its masks are the letters that `claims` lets it try; and a mask holds live atoms only. (Document 01,
-- "Standings".)
-- Assumes nothing.
use Prim.Native.Nat.{ℕ, ◌≤◌, ◌<◌}
use native.Mathlib.Omega.{arith}
use mathlib.Core.Path.{◌≡◌, refl, sym, ◌∙◌, ap}
use mathlib.Core.Bool.{Bool, true, false, cond, ◌&&◌, ◌||◌}
use mathlib.Core.List.{List}
use lib.ListN.{get_or}
use borrow.Author.Tests.{lt-ltb}
use Rattle.kat.specs.Lists.{member}
use Rattle.kat.specs.Tables.{occurrences}
use Rattle.kat.proofs.Bools.{and_left}
use Rattle.kat.proofs.Sets.{member_in}
use Rattle.claims.specs.Query.{bit}
use Rattle.claims.specs.Fields.{set_number}
use Rattle.claims.specs.Sides.{Decision}
use Rattle.claims.specs.Standings.{Letter, path_system, ring_system}
use Rattle.claims.specs.Alike.{path_letter, ring_letter}
use Rattle.claims.proofs.SetBytes.{RisingWithin}
use Rattle.claims.proofs.Letters.{Fits}
use Rattle.memory.proofs.Words.{words_at_lem}
use Rattle.bits.specs.Sets.{members}
use Rattle.bits.proofs.Bit.{bit_none}
use Rattle.bits.proofs.Members.{number_in}
use Rattle.query.specs.declared.Facts.{Facts}
use Rattle.query.specs.Answer.{facts_of}
use Rattle.query.specs.Decided.{Decided}
use Rattle.standings.proofs.LettersOf.{LettersOf, live_below}
use Rattle.side_tables.specs.SideTable.{side_table}
use Rattle.standings.specs.Alike.{alike_at}
use Rattle.standings.proofs.LowestAlike.{gathered_bit, lowest_set, lowest_path, lowest_ring}
use Rattle.sheet_alike.specs.Masks.{alike_words, lowest_words, mask_of, mask_at, masks_of, tried}
use Rattle.sheet_alike.proofs.Decided.{live_within, by_decided}

module _ (f : Facts) (left right : List ℕ) where
  -- the mask of a declared relation
  pub mask_there : (r : ℕ) → r < 16 → r < f.relations → get_or (masks_of f left right) r 0 ≡ mask_of f left right r
  unfolding masks_of mask_at
  mask_there r h d =
      words_at_lem 16 (mask_at f left right) r h ∙ ap (λ b. cond b (mask_of f left right r) 0) (lt-ltb r f.relations d)

  -- an atom of it is live
  pub mask_live : (r a : ℕ) → r < 16 → r < f.relations → bit a (get_or (masks_of f left right) r 0) ≡ true → member a (members f.live) ≡ true
  unfolding mask_of
  mask_live r a h d e =
      and_left (member a (members f.live)) (lowest_words f left right r a)
      (sym (gathered_bit (lowest_words f left right r) a (members f.live) (λ b i. (number_in 0 64 f.live b i).1) 0
      ∙ ap (λ b. b || (member a (members f.live) && lowest_words f left right r a)) (bit_none a))
      ∙ sym (ap (bit a) (mask_there r h d)) ∙ e)

-- the facts and tables are those of the decision
module _ (n : ℕ) (D : Decision) (few_left : occurrences D.left ≤ 64) (few_right : occurrences D.right ≤ 64) (few : D.relations ≤ 16)
    (rising : RisingWithin 0 64 D.live) where
  abbrev facts : Facts
  facts = facts_of n D

  abbrev masks : List ℕ
  masks = masks_of facts (side_table D.left) (side_table D.right)

  atom_low : (a : ℕ) → member a D.live ≡ true → a < 64
  atom_low a m =
      let ls : LettersOf (set_number 0 D.live) D.relations D =
      record { live_set_lem = refl; live_rising = rising; relation_count_lem = refl; few_relations_lem = few } in
      live_below ls a (member_in a D.live m)

  -- a mask is the set of the lowest atoms that are alike
  mask_is : (ring : Bool) → D.ring ≡ ring → (r : ℕ)
      → mask_of facts (side_table D.left) (side_table D.right) r
      ≡ lowest_set (alike_at ring (occurrences D.left) (occurrences D.right) (side_table D.left) (side_table D.right) r) (set_number 0 D.live)
  unfolding mask_of lowest_words alike_words facts_of
  mask_is ring e r =
      ap (λ c. lowest_set (alike_at c (occurrences D.left) (occurrences D.right) (side_table D.left) (side_table D.right) r) (set_number 0 D.live)) e

  path_tried : D.ring ≡ false → (l : Letter) → Fits (path_system D) l → tried masks l ≡ path_letter D l
  unfolding tried facts_of
  path_tried path l (m, h) =
      ap (bit l.atom) (mask_there facts (side_table D.left) (side_table D.right) l.relation (omega arith) h ∙ mask_is false path l.relation)
      ∙ lowest_path D few_left few_right rising l.relation l.atom (omega arith) (atom_low l.atom m)

  ring_tried : D.ring ≡ true → (l : Letter) → Fits (ring_system D) l → tried masks l ≡ ring_letter D l
  unfolding tried facts_of
  ring_tried ring l (m, h) =
      ap (bit l.atom) (mask_there facts (side_table D.left) (side_table D.right) l.relation (omega arith) h ∙ mask_is true ring l.relation)
      ∙ lowest_ring D few_left few_right rising l.relation l.atom (omega arith) (atom_low l.atom m)

module _ {f : Facts} {left right : List ℕ} {D : Decision} (d : Decided f left right D) where
  -- the letters that a path claim tries
  pub tried_path : D.ring ≡ false → (l : Letter) → Fits (path_system D) l → tried (masks_of f left right) l ≡ path_letter D l
  tried_path path l h =
      by_decided d (λ g s t. tried (masks_of g s t) l ≡ path_letter D l)
      (path_tried f.codes D d.few_left d.few_right d.few_relations_lem (live_within d) path l h)

  -- the letters that a ring claim tries from level 2 on
  pub tried_ring : D.ring ≡ true → (l : Letter) → Fits (ring_system D) l → tried (masks_of f left right) l ≡ ring_letter D l
  tried_ring ring l h =
      by_decided d (λ g s t. tried (masks_of g s t) l ≡ ring_letter D l)
      (ring_tried f.codes D d.few_left d.few_right d.few_relations_lem (live_within d) ring l h)
