-- What is answered, and what is awaited next: of the standings, of the word, and of the part from its verdict.
-- Assumes nothing.
use Prim.Native.Nat.{ℕ, suc, ◌+◌, ◌*◌, ◌-◌, ◌≤◌, ◌<◌}
use native.Mathlib.Omega.{arith}
use native.Mathlib.Numerals.{add-one}
use mathlib.Core.Path.{◌≡◌, refl, sym, ◌∙◌, ap, subst, subst⁻¹}
use mathlib.Core.Logic.{⊎_elim}
use mathlib.Core.Bool.{Bool, true, false}
use mathlib.Core.List.{List, [], map}
use mathlib.Core.Option.{Option, some, none}
use lib.ListN.{length, take, drop}
use borrow.Author.Tests.{eq-eqb, ne_eqb}
use Rattle.std.specs.Prelude.{Result as Answer, Ok, Err}
use Rattle.kat.specs.Tables.{occurrences}
use Rattle.kat.specs.Word.{Word}
use Rattle.kat.proofs.Bools.{lt_or_le}
use Rattle.claims.specs.Fields.{Field as FieldRead, cut, next_field, after_field, provided}
use Rattle.claims.specs.Refusals.{sheet_field, Result, ok, refuse}
use Rattle.claims.specs.SheetReading.{Part, says_refuted, tagged, verdict_is, word_of, word_in, standings_in, word_from, part_from, part_in}
use Rattle.claims.specs.SheetWriting.{AllBytes}
use Rattle.claims.specs.Sides.{Decision}
use Rattle.memory.specs.Memory.{zeros}
use Rattle.sheet_standings.specs.Layout.{field_length, listed_cells}
use Rattle.sheet_standings.specs.CellSystem.{cells_show}
use Rattle.query.specs.Answer.{facts_of}
use Rattle.query.specs.Decided.{Decided}
use Rattle.query.specs.declared.Facts.{Facts}
use Rattle.sheet_word.specs.ByteWords.{word_fits, word_read}
use Rattle.sheet_word.proofs.WordsRead.{word_of_lem}
use Rattle.sheet_index.specs.Index.{Indexed}
use Rattle.sheet_index.proofs.Kept.{indexed_none}
use Rattle.sheet_fits.specs.inner.Steps.{may_list}
use Rattle.sheet_fits.proofs.Listable.{next_place}
use Rattle.sheet_fields.specs.declared.PartRead.{PartRead}
use Rattle.sheet_fields.specs.declared.PartRead.TheVariants.{Proved, Refuted}
use Rattle.sheet_fields.specs.Reads.{ListedAt, Inside, cells_listed, ProvedAt, Reads}
use Rattle.sheet_fields.specs.inner.Between.{SoFar, AtVerdict, AtStanding, AtWord, Answered}
use Rattle.sheet_fields.proofs.Whole.{WholeAt}
use Rattle.sheet_fields.proofs.SoFar.{so_far_none, so_far_end, so_far_full, so_far_wrong, so_far_more}

-- a field is wrong
wrong_read : (ring : Bool) (D : Decision) (bs : List ℕ) (k place i : ℕ) (read : Result (Part D)) → read ≡ refuse sheet_field place
    → place ≡ k + i → Reads ring D bs k read (Err i)
wrong_read ring D bs k place i read e p = subst⁻¹ (λ r. Reads ring D bs k r (Err i)) e (refl, p)

-- the facts are those of the decision
module _ {f : Facts} {left right : List ℕ} {D : Decision} (d : Decided f left right D) where
  ring_is : f.ring ≡ D.ring
  unfolding facts_of
  ring_is = ap (λ g. g.ring) d.facts

  list_is : (bs : List ℕ) (base n at : ℕ) → may_list f.ring f.atoms f.left f.right bs base n at
      ≡ may_list D.ring D.atoms (occurrences D.left) (occurrences D.right) bs base n at
  unfolding facts_of
  list_is bs base n at = ap (λ g. may_list g.ring g.atoms g.left g.right bs base n at) d.facts

  word_is : (ns : List ℕ) → word_of D ns ≡ provided (word_fits f.atoms f.relations ns) (word_read ns)
  unfolding facts_of
  word_is ns = word_of_lem D ns ∙ ap (λ g. provided (word_fits g.atoms g.relations ns) (word_read ns)) (sym d.facts)

-- the standings
module _ (f : Facts) (bs : List ℕ) (all : AllBytes bs) (first : ℕ) (heads chain : List ℕ) (base n at : ℕ)
    (A : AtStanding f bs first heads chain base n at) where
  abbrev F : ℕ
  F = field_length f.ring

  abbrev listable : Bool
  listable = may_list f.ring f.atoms f.left f.right bs base n at

  -- those before it, from behind the verdict on
  listed_first : ListedAt f.ring bs heads chain (first + 4) n (first + 4 + F * n)
  listed_first =
      record {
        few = A.listed.few;
        places = refl;
        inside = subst (λ b. b + F * n ≤ length bs) A.place (subst⁻¹ (λ i. i ≤ length bs) A.listed.places A.listed.inside);
        index = subst (λ b. Indexed heads chain (listed_cells f.ring bs b) n) A.place A.listed.index;
      }

  wrong_after_lem : ((left right : List ℕ) (D : Decision) → Decided f left right D → (k : ℕ)
      → standings_in D 4096 (suc k) [] (drop base bs) ≡ refuse sheet_field (suc k + n))
      → Answered f bs first heads chain (Err (suc n))
  wrong_after_lem h =
      record {
        inside = listed_first;
        read = λ left right D d k. wrong_read f.ring D bs k (suc k + n) (suc n) (part_in D k (drop first bs)) (A.part D k ∙ h left right D d k)
            (omega arith);
      }

  module _ (t : tagged 3 (drop at bs) ≡ true) where
    pub standing_full : n ≡ 4096 → Answered f bs first heads chain (Err (suc n))
    standing_full h = wrong_after_lem (λ left right D d k. so_far_full d bs all (A.so_far left right D d) (suc k) h t)

    pub standing_wrong : listable ≡ false → Answered f bs first heads chain (Err (suc n))
    standing_wrong m =
        ⊎_elim
        (λ h. wrong_after_lem (λ left right D d k. so_far_wrong d bs all (A.so_far left right D d) h t (suc k) (sym (list_is d bs base n at) ∙ m)))
        (λ h. standing_full (omega (arith, A.listed.few)))
        (lt_or_le n 4096)

    -- one standing more
    pub standing_more : (end : ℕ) → n < 4096 → listable ≡ true → end ≡ at + F → end ≤ length bs → (heads' chain' : List ℕ)
        → Indexed heads' chain' (listed_cells f.ring bs base) (suc n) → AtStanding f bs first heads' chain' base (suc n) end
    standing_more end h m e l heads' chain' index =
        record {
          listed = record {
            few = h;
            places = sym (e ∙ next_place F base n at (sym A.listed.places));
            inside = l;
            index = index;
          };
          place = A.place;
          so_far = λ left right D d.
              let place : at ≡ base + field_length D.ring * n = sym A.listed.places ∙ ap (λ b. base + field_length b * n) (ring_is d) in
              subst (λ i. SoFar D bs base 4096 i end) (add-one n)
              (subst⁻¹ (SoFar D bs base 4096 (n + 1)) (e ∙ ap (λ b. at + field_length b) (ring_is d))
              (so_far_more d bs all (A.so_far left right D d) h t (sym (list_is d bs base n at) ∙ m) place));
          part = A.part;
        }

  -- no further standing
  pub standing_end : tagged 3 (drop at bs) ≡ false → Answered f bs first heads chain (Ok (Proved base n at))
  standing_end t =
      record {
        inside = A.listed;
        read = λ left right D d k.
            let so = A.so_far left right D d in
            let z : suc k + n ≡ k + suc n = omega arith in
            subst⁻¹ (λ r. Reads f.ring D bs k r (Ok (Proved base n at))) (A.part D k ∙ so_far_end d bs all so (suc k) t)
            (subst⁻¹
            (λ b. ProvedAt b D bs k (map (cells_show D.ring D) (cells_listed D.ring bs base n)) (suc k + n) (drop at bs) base n at)
            (ring_is d) (record { shown = refl; good = so.good; fields = z; behind = refl }));
      }

-- the word
module _ {f : Facts} {left right : List ℕ} {D : Decision} (d : Decided f left right D) (bs : List ℕ) (at k : ℕ) where
  abbrev here : FieldRead
  here = next_field (drop at bs)

  abbrev word_read_from : Option Word → Result (Part D)
  word_read_from o =
      elim o [ none ↦ refuse sheet_field (suc k) | some w ↦ ok (record { said = says_refuted w; next = suc (suc k); rest = after_field here }) ]

  no_word : word_in D here ≡ none → Reads f.ring D bs k (word_from D (suc k) here) (Err 1)
  unfolding word_from
  no_word e =
      wrong_read f.ring D bs k (suc k) 1 (word_from D (suc k) here) (ap word_read_from e) (omega arith)

  pub word_cut : here ≡ cut → Reads f.ring D bs k (word_from D (suc k) here) (Err 1)
  unfolding word_in
  word_cut e = no_word (ap (word_in D) e)

  module _ {tag start end : ℕ} (w : WholeAt bs at here tag start end) where
    pub word_tag : (tag ≡ 2 → ⊥) → Reads f.ring D bs k (word_from D (suc k) here) (Err 1)
    unfolding word_in
    word_tag n =
        no_word (ap (word_in D) w.is ∙ ap (λ b. elim b [ true ↦ word_of D w.contents | false ↦ none ]) (ne_eqb tag 2 n))

    module _ (t : tag ≡ 2) where
      word_of_here : word_in D here
          ≡ provided (word_fits f.atoms f.relations (take (end - start) (drop start bs))) (word_read (take (end - start) (drop start bs)))
      unfolding word_in
      word_of_here =
          ap (word_in D) w.is ∙ ap (λ b. elim b [ true ↦ word_of D w.contents | false ↦ none ]) (eq-eqb tag 2 t)
          ∙ ap (word_of D) w.part ∙ word_is d (take (end - start) (drop start bs))

      pub word_wrong : word_fits f.atoms f.relations (take (end - start) (drop start bs)) ≡ false
          → Reads f.ring D bs k (word_from D (suc k) here) (Err 1)
      word_wrong e =
          no_word (word_of_here ∙ ap (λ b. provided b (word_read (take (end - start) (drop start bs)))) e)

      pub word_right : word_fits f.atoms f.relations (take (end - start) (drop start bs)) ≡ true
          → Reads f.ring D bs k (word_from D (suc k) here) (Ok (Refuted start end))
      unfolding word_from
      word_right e =
          let fits = ap (λ b. provided b (word_read (take (end - start) (drop start bs)))) e in
          let z : suc (suc k) ≡ k + 2 = omega arith in
          subst⁻¹ (λ r. Reads f.ring D bs k r (Ok (Refuted start end))) (ap word_read_from (word_of_here ∙ fits))
          (record {
            word = word_is d (take (end - start) (drop start bs)) ∙ fits;
            fields = z;
            behind = ap after_field w.is ∙ w.behind;
          })

-- the answer to a part whose word is awaited
module _ (f : Facts) (bs : List ℕ) (first : ℕ) (heads chain : List ℕ) (at : ℕ) (A : AtWord f bs first heads chain at) where
  -- no standing stands before a wrong word
  none_listed : ListedAt f.ring bs heads chain (first + 4) 0 (first + 4 + field_length f.ring * 0)
  none_listed =
      let z : first + 4 + field_length f.ring * 0 ≡ first + 4 = omega arith in
      record {
        few = omega arith;
        places = refl;
        inside = subst⁻¹ (λ i. i ≤ length bs) (z ∙ sym A.place) A.inside;
        index = subst⁻¹ (λ h. Indexed h chain (listed_cells f.ring bs (first + 4)) 0) A.index.0
            (subst⁻¹ (λ c. Indexed (zeros 8192) c (listed_cells f.ring bs (first + 4)) 0) A.index.1
            (indexed_none (listed_cells f.ring bs (first + 4))));
      }

  abbrev WordReads : Answer PartRead ℕ → Type 0
  WordReads r =
      (left right : List ℕ) (D : Decision) → Decided f left right D → (k : ℕ)
      → Reads f.ring D bs k (word_from D (suc k) (next_field (drop at bs))) r

  word_answers : (r : Answer PartRead ℕ) → Inside f.ring bs first heads chain r → WordReads r → Answered f bs first heads chain r
  word_answers r i h =
      record { inside = i; read = λ left right D d k. subst⁻¹ (λ x. Reads f.ring D bs k x r) (A.part D k) (h left right D d k) }

  pub wrong_word : WordReads (Err 1) → Answered f bs first heads chain (Err 1)
  wrong_word h = word_answers (Err 1) none_listed h

  pub right_word : (start end : ℕ) → start ≤ end → end ≤ length bs → WordReads (Ok (Refuted start end))
      → Answered f bs first heads chain (Ok (Refuted start end))
  right_word start end o i h = word_answers (Ok (Refuted start end)) (o, i, A.index) h

-- the part, by its verdict
module _ (D : Decision) (k : ℕ) (first : FieldRead) where
  abbrev by_verdict : Bool → Bool → Result (Part D)
  by_verdict a b =
      elim a [
        | true ↦ standings_in D 4096 (suc k) [] (after_field first)
        | false ↦ elim b [ true ↦ word_from D (suc k) (next_field (after_field first)) | false ↦ refuse sheet_field k ]
      ]

  part_by : (a b : Bool) → verdict_is 1 first ≡ a → verdict_is 2 first ≡ b → part_from D k first ≡ by_verdict a b
  unfolding part_from
  part_by a b p q = ap (λ c. by_verdict c (verdict_is 2 first)) p ∙ ap (by_verdict a) q

module _ (f : Facts) (bs : List ℕ) (first : ℕ) (heads chain : List ℕ) (at : ℕ) (A : AtVerdict first heads chain at) where
  abbrev field : FieldRead
  field = next_field (drop at bs)

  part_is : (D : Decision) (k : ℕ) → part_in D k (drop first bs) ≡ part_from D k field
  unfolding part_in
  part_is D k = ap (λ i. part_from D k (next_field (drop i bs))) (sym A.place)

  pub no_verdict : verdict_is 1 field ≡ false → verdict_is 2 field ≡ false → Answered f bs first heads chain (Err 0)
  no_verdict p q =
      record {
        inside = A.index;
        read = λ left right D d k.
            wrong_read f.ring D bs k k 0 (part_in D k (drop first bs)) (part_is D k ∙ part_by D k field false false p q) (omega arith);
      }

  module _ {tag start end : ℕ} (w : WholeAt bs at field tag start end) (one : end - start ≡ 1) where
    end_is : end ≡ first + 4
    end_is =
        let b : start ≡ at + 3 = w.begins in
        let o : start ≤ end = w.order in
        let p : at ≡ first = A.place in
        omega arith

    after_is : after_field field ≡ drop end bs
    after_is = ap after_field w.is ∙ w.behind

    pub proved_next : verdict_is 1 field ≡ true → AtStanding f bs first heads chain end 0 end
    proved_next p =
        record {
          listed = record {
            few = omega arith;
            places = omega arith;
            inside = w.inside;
            index = subst⁻¹ (λ h. Indexed h chain (listed_cells f.ring bs end) 0) A.index.0
                (subst⁻¹ (λ c. Indexed (zeros 8192) c (listed_cells f.ring bs end) 0) A.index.1
                (indexed_none (listed_cells f.ring bs end)));
          };
          place = end_is;
          so_far = λ left right D d. so_far_none D bs end 4096;
          part = λ D k. part_is D k ∙ part_by D k field true (verdict_is 2 field) p refl
              ∙ ap (standings_in D 4096 (suc k) []) after_is;
        }

    pub refuted_next : verdict_is 1 field ≡ false → verdict_is 2 field ≡ true → AtWord f bs first heads chain end
    refuted_next p q =
        record {
          place = end_is;
          inside = w.inside;
          index = A.index;
          part = λ D k. part_is D k ∙ part_by D k field false true p q ∙ ap (λ rest. word_from D (suc k) (next_field rest)) after_is;
        }
