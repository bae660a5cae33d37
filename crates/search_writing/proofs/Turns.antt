-- One turn of the writing, by what is left: how it begins, goes on and ends. In each turn what is left gets less. Of a proof what is left, put
-- over the buffer as it is, stays the whole sheet over the buffer as it was; of a word what is left, before what is gathered, stays the word.
-- Assumes nothing.
use Prim.Native.Nat.{ℕ, ◌+◌, ◌*◌, ◌-◌, ◌/◌, ◌≤◌, ◌<◌}
use native.Mathlib.Omega.{arith}
use mathlib.Core.Path.{◌≡◌, refl, sym, ◌∙◌, ap, ap₂, subst, subst⁻¹}
use mathlib.Core.Bool.{Bool, true, false}
use mathlib.Core.List.{List, [], ◌∷◌, ◌++◌, append-nil}
use lib.ListN.{length, take, drop, length-append, length-drop, drop_of_length-le}
use lib.Seq.{take_all}
use Rattle.kat.specs.Lists.{upto}
use Rattle.claims.specs.Fields.{big_endian, field}
use Rattle.claims.proofs.Bytes.{big_endian_length, field_length_lem}
use Rattle.search_store.specs.Store.{standing_at, parent_at, letter_at, Room}
use Rattle.search_contents.specs.Written.{written, over}
use Rattle.search_contents.specs.FieldWords.{field_words, field_length}
use Rattle.search_contents.proofs.Written.{length_over, length_written, drop_over}
use Rattle.search_contents.proofs.Fields.{field_count}
use Rattle.search_sheet.specs.SheetWords.{word_sheet, Falling, prefix_in, letter_bytes, prefix_bytes, word_bytes, fields_from, proved_sheet, refuted_sheet}
use Rattle.search_sheet.proofs.Steps.{fields_more, fields_count, fields_end, fields_done, verdict_length, behind_verdict, letters_more, letters_end, letter_length, word_length}
use Rattle.search_sheet.proofs.Lengths.{proved_sheet_length, word_sheet_length}
use Rattle.search_writing.specs.declared.Writing.{Writing}
use Rattle.search_writing.specs.Left.{looks_at, at_end, Ended, WordEnded, FieldsLeft, LettersLeft, ProofStands, WordStands, proof_turns, word_turns}

-- the sheet of a word, by its numbers
module _ (numbers b₀ : List ℕ) (x : Writing) where
  pub word_short : length b₀ < 7 + length numbers → x ≡ at_end true (length numbers / 2) 0
      → WordEnded numbers b₀ x b₀
  word_short h e =
      subst⁻¹ (λ y. WordEnded numbers b₀ y b₀) e
      (refl, (omega (arith, word_sheet_length numbers), refl))

  pub word_put : (at l : ℕ) (b b' : List ℕ) → l ≡ 7 + length numbers → l ≤ length b₀ → (at ≡ 4) × (b ≡ written (field 1 (big_endian 1 2)) b₀)
      → b' ≡ over at (field 2 numbers) b → x ≡ at_end false (length numbers / 2) l
      → WordEnded numbers b₀ x b'
  unfolding word_sheet big_endian
  word_put at l b b' s h verdict put e =
      subst⁻¹ (λ y. WordEnded numbers b₀ y b') e (
        refl,
        (
          omega (arith, word_sheet_length numbers),
          put ∙ ap₂ (λ k xs. over k (field 2 numbers) xs) verdict.0 verdict.1 ∙ behind_verdict 2 (field 2 numbers) b₀,
          omega (arith, word_sheet_length numbers),
        ),
      )

-- a part of an array up to its end
part_all : (at : ℕ) (xs : List ℕ) → take (length xs - at) (drop at xs) ≡ drop at xs
part_all at xs = take_all (length xs - at) (drop at xs) (omega (arith, length-drop at xs))

module _ (ring : Bool) (r : List (List ℕ)) (w b₀ : List ℕ) where
  -- the sheet of a proved claim with n standings
  module _ (n : ℕ) (x : Writing) where
    pub fields_short : (l : ℕ) → l ≡ 4 + field_length ring * n → length b₀ < l → x ≡ at_end true 0 0 → ProofStands ring r w b₀ n x b₀
    fields_short l s h e = subst⁻¹ (λ y. ProofStands ring r w b₀ n y b₀) e (omega (arith, proved_sheet_length ring r w n), refl)

    module _ (l : ℕ) (s : l ≡ 4 + field_length ring * n) (fits : l ≤ length b₀) (to : ℕ) (b : List ℕ)
        (put : (to ≡ 4) × (b ≡ written (field 1 (big_endian 1 1)) b₀)) where
      behind : over to (fields_from ring r w (upto 0 n)) b ≡ written (proved_sheet ring r w n) b₀
      unfolding proved_sheet big_endian
      behind =
          ap₂ (λ k xs. over k (fields_from ring r w (upto 0 n)) xs) put.0 put.1 ∙ behind_verdict 1 (fields_from ring r w (upto 0 n)) b₀

      free : to + length (fields_from ring r w (upto 0 n)) ≤ length b
      unfolding proved_sheet
      free =
          omega (
            arith,
            put.0,
            proved_sheet_length ring r w n,
            length-append (field 1 (1 ∷ [])) (fields_from ring r w (upto 0 n)),
            field_length_lem 1 (1 ∷ []),
            ap length put.1 ∙ length_written (field 1 (big_endian 1 1)) b₀ (omega (arith, verdict_length 1)),
          )

      ends : to + length (fields_from ring r w (upto 0 n)) ≡ length (proved_sheet ring r w n)
      unfolding proved_sheet
      ends =
          omega (arith, put.0, length-append (field 1 (1 ∷ [])) (fields_from ring r w (upto 0 n)), field_length_lem 1 (1 ∷ []))

      pub fields_begun : Room ring r w n → 0 < n → x ≡ looks_at 0 to → ProofStands ring r w b₀ n x b
      fields_begun room h e =
          subst⁻¹ (λ y. ProofStands ring r w b₀ n y b) e
          (record { room = room; below = h; fits = omega (arith, proved_sheet_length ring r w n); free = free; ends = ends; left = behind })

      pub fields_none : n ≤ 0 → x ≡ at_end false 0 l → ProofStands ring r w b₀ n x b
      fields_none h e =
          subst⁻¹ (λ y. ProofStands ring r w b₀ n y b) e
          (omega (arith, proved_sheet_length ring r w n), fields_end ring r w to 0 n b h ∙ behind, s ∙ sym (proved_sheet_length ring r w n))

    module _ (i to more : ℕ) (b b' : List ℕ) (h : FieldsLeft ring r w b₀ n i to b) (count : more ≡ field_length ring)
        (put : b' ≡ over to (field_words ring (standing_at ring r w i)) b) where
      here : to + length (field_words ring (standing_at ring r w i)) ≤ length b
      here = omega (arith, h.free, fields_count ring r w i n h.below, field_count ring (standing_at ring r w i))

      left_behind : over (to + more) (fields_from ring r w (upto (i + 1) n)) b' ≡ written (proved_sheet ring r w n) b₀
      left_behind =
          ap₂ (λ k xs. over (to + k) (fields_from ring r w (upto (i + 1) n)) xs) count put
          ∙ fields_more ring r w to i n b h.below (omega (arith, here)) ∙ h.left

      pub fields_next : i + 1 < n → x ≡ looks_at (i + 1) (to + more) → ProofStands ring r w b₀ n x b' × (proof_turns n x < n - i)
      fields_next l e =
          subst⁻¹ (λ y. ProofStands ring r w b₀ n y b' × (proof_turns n y < n - i)) e (
            record {
              room = h.room;
              below = l;
              fits = h.fits;
              free = omega (
                arith,
                h.free,
                fields_count ring r w i n h.below,
                ap length put ∙ length_over to (field_words ring (standing_at ring r w i)) b here,
              );
              ends = omega (arith, h.ends, fields_count ring r w i n h.below);
              left = left_behind;
            },
            omega arith,
          )

      pub fields_last : n ≤ i + 1 → x ≡ at_end false 0 (to + more) → ProofStands ring r w b₀ n x b' × (proof_turns n x < n - i)
      fields_last l e =
          subst⁻¹ (λ y. ProofStands ring r w b₀ n y b' × (proof_turns n y < n - i)) e
          ((h.fits, fields_end ring r w (to + more) (i + 1) n b' l ∙ left_behind, whole), omega (arith, h.below))
        where
          whole : to + more ≡ length (proved_sheet ring r w n)
          whole = omega (arith, h.ends, fields_count ring r w i n h.below, fields_done ring r w (i + 1) n l)

  -- the sheet of the word of a place and a last atom
  module _ (place last : ℕ) (x : Writing) where
    -- all numbers of the word are gathered
    word_told : (numbers word b : List ℕ) → numbers ≡ word_bytes ring r w place last
        → WordEnded numbers b₀ x b → WordStands ring r w b₀ place last x word b
    unfolding refuted_sheet
    word_told numbers word b all t =
        subst⁻¹ (λ y. WordStands ring r w b₀ place last y word b) t.0 (
          omega (arith, ap length all, word_length ring r w place last),
          subst (λ ns. Ended (word_sheet ns) b₀ x.short x.to b) all t.1,
        )

    -- the last atom, at the end of the array
    module _ (to : ℕ) (word word' : List ℕ) (size : length word ≡ to + 1) (put : word' ≡ over to (big_endian 1 last) word) where
      last_gathered : drop to word' ≡ big_endian 1 last
      last_gathered =
          ap (drop to) put ∙ drop_over to 1 (big_endian 1 last) word (omega arith) (big_endian_length 1 last)
          ∙ ap (λ bs. big_endian 1 last ++ bs) (drop_of_length-le word {i = to + 1} (omega arith)) ∙ append-nil (big_endian 1 last)

      word_left : (p : ℕ) → p ≡ place → prefix_bytes (prefix_in ring r w p) ++ drop to word' ≡ word_bytes ring r w place last
      unfolding word_bytes
      word_left p e = ap₂ (λ q bs. prefix_bytes (prefix_in ring r w q) ++ bs) e last_gathered

      pub atom_alone : (numbers b : List ℕ) → numbers ≡ take (length word' - to) (drop to word') → place ≡ 0
          → WordEnded numbers b₀ x b → WordStands ring r w b₀ place last x word' b
      atom_alone numbers b part z t =
          word_told numbers word' b (part ∙ part_all to word' ∙ letters_end ring r w place (drop to word') z ∙ word_left place refl) t

      pub letters_begun : Room ring r w place → Falling ring r w place → 2 * place ≤ to → 0 < place → x ≡ looks_at (place - 1) to
          → WordStands ring r w b₀ place last x word' b₀
      letters_begun room falls free h e =
          subst⁻¹ (λ y. WordStands ring r w b₀ place last y word' b₀) e
          (record {
            room = room;
            falls = falls;
            below = omega arith;
            free = omega arith;
            inside = omega (arith, ap length put ∙ length_over to (big_endian 1 last) word (omega (arith, big_endian_length 1 last)));
            left = word_left (place - 1 + 1) (omega arith);
            same = refl;
          })

    -- a letter before what is gathered
    module _ (i to p : ℕ) (word word' b : List ℕ) (h : LettersLeft ring r w b₀ place last i to word b) (parent : p ≡ parent_at ring r w i)
        (put : word' ≡ over (to - 2) (letter_bytes (letter_at ring r w i)) word) where
      letter_gathered : drop (to - 2) word' ≡ letter_bytes (letter_at ring r w i) ++ drop to word
      letter_gathered =
          let z : to - 2 + 2 ≡ to = omega (arith, h.free) in
          ap (drop (to - 2)) put
          ∙ drop_over (to - 2) 2 (letter_bytes (letter_at ring r w i)) word (omega (arith, h.inside)) (letter_length (letter_at ring r w i))
          ∙ ap (λ k. letter_bytes (letter_at ring r w i) ++ drop k word) z

      letters_left_lem : (q : ℕ) → q ≡ p → prefix_bytes (prefix_in ring r w q) ++ drop (to - 2) word' ≡ word_bytes ring r w place last
      letters_left_lem q e =
          ap₂ (λ k bs. prefix_bytes (prefix_in ring r w k) ++ bs) (e ∙ parent) letter_gathered
          ∙ letters_more ring r w place h.falls i h.below (drop to word) ∙ h.left

      pub letters_next : 0 < p → x ≡ looks_at (p - 1) (to - 2) → WordStands ring r w b₀ place last x word' b × (word_turns x < i + 1)
      letters_next l e =
          let low : parent_at ring r w i ≤ i = h.falls i h.below in
          subst⁻¹ (λ y. WordStands ring r w b₀ place last y word' b × (word_turns y < i + 1)) e (
            record {
              room = h.room;
              falls = h.falls;
              below = omega (arith, h.below);
              free = omega (arith, h.free);
              inside = omega (
                arith,
                h.free,
                h.inside,
                ap length put
                    ∙ length_over (to - 2) (letter_bytes (letter_at ring r w i)) word (omega (arith, letter_length (letter_at ring r w i), h.free, h.inside)),
              );
              left = letters_left_lem (p - 1 + 1) (omega arith);
              same = h.same;
            },
            omega arith,
          )

      pub letters_last : (numbers b' : List ℕ) → numbers ≡ take (length word' - (to - 2)) (drop (to - 2) word') → p ≡ 0
          → WordEnded numbers b x b'
          → WordStands ring r w b₀ place last x word' b' × (word_turns x < i + 1)
      letters_last numbers b' part z t = (
        word_told numbers word' b' (part ∙ part_all (to - 2) word' ∙ letters_end ring r w p (drop (to - 2) word') z ∙ letters_left_lem p refl)
            (t.0, subst (λ xs. Ended (word_sheet numbers) xs x.short x.to b') h.same t.1),
        subst⁻¹ (λ y. word_turns y < i + 1) t.0 (omega arith),
      )
