-- From field to field: what a field makes of the part, for each `return` of the functions that decide on one. The part is answered, or what is
-- awaited next holds, and fewer fields are left.
-- Assumes nothing.
use Prim.Native.Nat.{ℕ, suc, ◌+◌, ◌-◌, ◌≤◌, ◌<◌}
use native.Mathlib.Omega.{arith}
use native.Mathlib.Numerals.{add-one}
use mathlib.Core.Path.{◌≡◌, refl, sym, ◌∙◌, ap, subst⁻¹}
use mathlib.Core.Bool.{Bool, true, false, cond, ◌&&◌}
use mathlib.Core.List.{List, [], ◌∷◌}
use lib.Dec.{eqb}
use lib.ListN.{length, take, drop}
use borrow.Author.Tests.{ne_eqb, eqb-true}
use Rattle.std.specs.Prelude.{Option, Some, None, Ok, Err}
use Rattle.claims.specs.Bytes.{same}
use Rattle.claims.specs.Fields.{Field as FieldRead, cut, next_field}
use Rattle.claims.specs.SheetBytes.{contents_length}
use Rattle.claims.specs.SheetReading.{tagged, verdict_is}
use Rattle.claims.specs.SheetWriting.{AllBytes}
use Rattle.claims.proofs.Results.{same_is_equal}
use Rattle.query.specs.declared.Facts.{Facts}
use Rattle.sheet_standings.specs.Layout.{field_length, listed_cells}
use Rattle.sheet_word.specs.ByteWords.{word_fits}
use Rattle.sheet_index.specs.Index.{Indexed}
use Rattle.sheet_fits.specs.declared.Verdict.{Verdict}
use Rattle.sheet_fits.specs.declared.Verdict.TheVariants.{Proved as SaysProved, Refuted as SaysRefuted}
use Rattle.sheet_fits.specs.inner.Steps.{verdict_of, sized, may_list}
use Rattle.sheet_fields.specs.declared.PartRead.TheVariants.{Refuted}
use Rattle.sheet_fields.specs.inner.Between.{AtVerdict, AtStanding, AtWord, Answered}
use Rattle.sheet_fields.proofs.Whole.{WholeAt, contents_size, sized_whole}
use Rattle.sheet_fields.proofs.SoFar.{field_length_lem, listable_sized, unsized_not}
use Rattle.sheet_fields.proofs.Outcomes.{standing_full, standing_wrong, standing_more, wrong_word, right_word, word_cut, word_tag, word_wrong, word_right, no_verdict, proved_next, refuted_next}

module _ (f : Facts) (bs : List ℕ) (first : ℕ) (heads chain : List ℕ) (at : ℕ) where
  abbrev field : FieldRead
  field = next_field (drop at bs)

  -- the verdict
  module _ (A : AtVerdict first heads chain at) where
    wrong_verdict : ((v : ℕ) → verdict_is v field ≡ false) → Answered f bs first heads chain (Err 0)
    wrong_verdict h = no_verdict f bs first heads chain at A (h 1) (h 2)

    pub verdict_cut : field ≡ cut → Answered f bs first heads chain (Err 0)
    unfolding verdict_is
    verdict_cut c = wrong_verdict (λ v. ap (verdict_is v) c)

    module _ {tag start end : ℕ} (w : WholeAt bs at field tag start end) where
      abbrev contents : List ℕ
      contents = take (end - start) (drop start bs)

      pub verdict_tag : (tag ≡ 1 → ⊥) → Answered f bs first heads chain (Err 0)
      unfolding verdict_is
      verdict_tag n = wrong_verdict (λ v. ap (verdict_is v) w.is ∙ ap (λ b. b && same w.contents (v ∷ [])) (ne_eqb tag 1 n))

      module _ (t : tag ≡ 1) where
        verdict_same : (i : ℕ) → verdict_is i field ≡ same contents (i ∷ [])
        unfolding verdict_is
        verdict_same i =
            ap (verdict_is i) w.is ∙ ap (λ u. eqb u 1 && same w.contents (i ∷ [])) t ∙ ap (λ c. same c (i ∷ [])) w.part

        one : (i : ℕ) → same contents (i ∷ []) ≡ true → end - start ≡ 1
        one i e = sym (contents_size w) ∙ ap length (w.part ∙ same_is_equal contents (i ∷ []) e)

        -- the verdict, by the two tests
        abbrev said : Bool → Bool → Option Verdict
        said a b = cond a (Some SaysProved) (cond b (Some SaysRefuted) None)

        proved_by : (a b : Bool) → same contents (1 ∷ []) ≡ a → Some SaysProved ≡ said a b → same contents (1 ∷ []) ≡ true
        proved_by true b p e = p
        proved_by false true p e = cc
        proved_by false false p e = cc

        refuted_by : (a b : Bool) → same contents (1 ∷ []) ≡ a → same contents (2 ∷ []) ≡ b → Some SaysRefuted ≡ said a b
            → (same contents (1 ∷ []) ≡ false) × (same contents (2 ∷ []) ≡ true)
        refuted_by true b p q e = absurd (cc)
        refuted_by false true p q e = (p, q)
        refuted_by false false p q e = absurd (cc)

        none_by : (a b : Bool) → same contents (1 ∷ []) ≡ a → same contents (2 ∷ []) ≡ b → None ≡ said a b
            → (same contents (1 ∷ []) ≡ false) × (same contents (2 ∷ []) ≡ false)
        none_by true b p q e = absurd (cc)
        none_by false true p q e = absurd (cc)
        none_by false false p q e = (p, q)

        pub verdict_proved : Some SaysProved ≡ verdict_of contents → AtStanding f bs first heads chain end 0 end
        unfolding verdict_of
        verdict_proved e =
            let p = proved_by (same contents (1 ∷ [])) (same contents (2 ∷ [])) refl e in
            proved_next f bs first heads chain at A w (one 1 p) (verdict_same 1 ∙ p)

        pub verdict_refuted : Some SaysRefuted ≡ verdict_of contents → AtWord f bs first heads chain end
        unfolding verdict_of
        verdict_refuted e =
            let (p, q) = refuted_by (same contents (1 ∷ [])) (same contents (2 ∷ [])) refl refl e in
            refuted_next f bs first heads chain at A w (one 2 q) (verdict_same 1 ∙ p) (verdict_same 2 ∙ q)

        pub verdict_none : None ≡ verdict_of contents → Answered f bs first heads chain (Err 0)
        unfolding verdict_of
        verdict_none e =
            let (p, q) = none_by (same contents (1 ∷ [])) (same contents (2 ∷ [])) refl refl e in
            no_verdict f bs first heads chain at A (verdict_same 1 ∙ p) (verdict_same 2 ∙ q)

  -- the word
  module _ (A : AtWord f bs first heads chain at) where
    pub word_cut_goes : field ≡ cut → Answered f bs first heads chain (Err 1)
    word_cut_goes c = wrong_word f bs first heads chain at A (λ left right D d k. word_cut d bs at k c)

    module _ {tag start end : ℕ} (w : WholeAt bs at field tag start end) where
      pub word_tag_goes : (tag ≡ 2 → ⊥) → Answered f bs first heads chain (Err 1)
      word_tag_goes n = wrong_word f bs first heads chain at A (λ left right D d k. word_tag d bs at k w n)

      module _ (t : tag ≡ 2) where
        pub word_wrong_goes : word_fits f.atoms f.relations (take (end - start) (drop start bs)) ≡ false
            → Answered f bs first heads chain (Err 1)
        word_wrong_goes n = wrong_word f bs first heads chain at A (λ left right D d k. word_wrong d bs at k w t n)

        pub word_right_goes : word_fits f.atoms f.relations (take (end - start) (drop start bs)) ≡ true
            → Answered f bs first heads chain (Ok (Refuted start end))
        word_right_goes y =
            right_word f bs first heads chain at A start end w.order w.inside (λ left right D d k. word_right d bs at k w t y)

  -- a standing
  module _ (all : AllBytes bs) (base n : ℕ) (A : AtStanding f bs first heads chain base n at) (t : tagged 3 (drop at bs) ≡ true) where
    abbrev listable : Bool
    listable = may_list f.ring f.atoms f.left f.right bs base n at

    more : Answered f bs first heads chain (Err (suc n)) → Answered f bs first heads chain (Err (n + 1))
    more B = subst⁻¹ (λ i. Answered f bs first heads chain (Err i)) (add-one n) B

    pub standing_full_goes : n ≡ 4096 → Answered f bs first heads chain (Err (n + 1))
    standing_full_goes z = more (standing_full f bs all first heads chain base n at A t z)

    pub standing_wrong_goes : listable ≡ false → Answered f bs first heads chain (Err (n + 1))
    standing_wrong_goes m = more (standing_wrong f bs all first heads chain base n at A t m)

    pub standing_unsized_goes : sized f.ring field ≡ false → Answered f bs first heads chain (Err (n + 1))
    standing_unsized_goes z = standing_wrong_goes (unsized_not f.ring f.atoms f.left f.right bs base n at z)

    pub standing_cut_goes : field ≡ cut → Answered f bs first heads chain (Err (n + 1))
    unfolding sized
    standing_cut_goes z = standing_unsized_goes (ap (sized f.ring) z)

    pub standing_more_goes : {tag start end : ℕ} → WholeAt bs at field tag start end → n < 4096
        → listable ≡ true → (heads' chain' : List ℕ) → Indexed heads' chain' (listed_cells f.ring bs base) (suc n)
        → AtStanding f bs first heads' chain' base (n + 1) end × (4098 - (n + 1) < 4098 - n)
    standing_more_goes {tag} {start} {end} w l m heads' chain' index =
        let size : eqb (end - start) (contents_length f.ring) ≡ true = sized_whole w f.ring
        ∙ listable_sized f.ring f.atoms f.left f.right bs base n at m in
        let long : end - start ≡ contents_length f.ring = eqb-true (end - start) (contents_length f.ring) size in
        let b : start ≡ at + 3 = w.begins in
        let o : start ≤ end = w.order in
        let e : end ≡ at + field_length f.ring = omega (arith, field_length_lem f.ring) in (
          subst⁻¹ (λ n. AtStanding f bs first heads' chain' base n end) (add-one n)
              (standing_more f bs all first heads chain base n at A t end l m e w.inside heads' chain' index),
          omega arith,
        )
