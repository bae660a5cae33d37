-- What the sheet writer writes is read back as what it wrote, whatever stands behind it, where the contents of each standing are read back:
-- the verdict's field, then the word or the standings in their order. No standing repeats one before it because no two of the list
-- are equal.
-- Assumes nothing.
use Prim.Native.Nat.{ℕ, zero, suc, ◌+◌, ◌-◌, ◌≤◌, ◌<◌}
use native.Mathlib.Omega.{arith}
use mathlib.Core.Path.{◌≡◌, refl, sym, ◌∙◌, ap, subst}
use mathlib.Core.Logic.{⊎_elim}
use mathlib.Core.Bool.{true, false}
use mathlib.Core.List.{List, [], ◌∷◌, ◌++◌, append_assoc, append-nil}
use mathlib.Core.Option.{some, none}
use lib.ListN.{length}
use borrow.Author.Tests.{eq-eqb}
use Rattle.kat.specs.Lists.{some as some_of, In, here, there}
use Rattle.kat.specs.Word.{Word, numbers}
use Rattle.kat.proofs.Bools.{false_of_not, true_not_false}
use Rattle.kat.proofs.Sets.{some_in, in_some, in_append, in_append_left, in_append_right}
use Rattle.notation.specs.Sides.{Decision}
use Rattle.verdicts.specs.Standings.{System, claim_system}
use Rattle.claims.specs.Fields.{field, next_field, whole}
use Rattle.claims.specs.SheetBytes.{standing_bytes, standing_fields}
use Rattle.claims.specs.SheetReading.{says_proved, says_refuted, standing_of, word_of, tagged, verdict_is, word_in, standing_in, standings_in, word_from, part_from, part_in}
use Rattle.claims.specs.SheetWriting.{part_bytes}
use Rattle.notation.specs.Refusals.{sheet_field, ok, refuse}
use Rattle.verdicts.specs.Verdicts.{Distinct}
use Rattle.claims.proofs.Bytes.{field_read_back}

module _ (S : System) where
  -- none of the list, in its order, is equal to one listed or to one before it
  abbrev pub NoneRepeated : List S.Standing → List S.Standing → Type 0
  NoneRepeated listed [] = Unit {0}
  NoneRepeated listed (s ∷ ss) = (some_of (S.equal s) listed ≡ false) × NoneRepeated (listed ++ (s ∷ [])) ss

  none_repeated : ((s t : S.Standing) → S.equal s t ≡ true → s ≡ t) → (listed ss : List S.Standing) → Distinct ss
      → ((s : S.Standing) → In s listed → In s ss → ⊥) → NoneRepeated listed ss
  none_repeated sound listed [] d h = tt
  none_repeated sound listed (s ∷ ss) (n, d) h = (
    false_of_not (some_of (S.equal s) listed)
        (λ e. let (t, i, q) = some_in (S.equal s) listed e in h t i (here (sym (sound s t q)))),
    none_repeated sound (listed ++ (s ∷ [])) ss d (λ t i j. ⊎_elim (λ k. h t k (there j)) (λ k. last t k j) (in_append listed i)),
  )
    where
      last : (t : S.Standing) → In t (s ∷ []) → In t ss → ⊥
      last t (here e) j = n (subst (λ x. In x ss) e j)
      last t (there x6) j = elim x6 [ ]

  -- a list of distinct standings repeats none, where the test of equality finds only equal ones
  pub distinct_none_repeated : ((s t : S.Standing) → S.equal s t ≡ true → s ≡ t) → (ss : List S.Standing) → Distinct ss
      → NoneRepeated [] ss
  distinct_none_repeated sound ss d = none_repeated sound [] ss d (λ s i j. elim i [ ])

  -- and a list that repeats none is distinct, where the test of equality finds each equal to itself
  pub none_repeated_distinct : ((s : S.Standing) → S.equal s s ≡ true) → (listed ss : List S.Standing) → NoneRepeated listed ss
      → Distinct ss × ((s : S.Standing) → In s listed → In s ss → ⊥)
  none_repeated_distinct self listed [] r = (tt, λ s i j. elim j [ ])
  none_repeated_distinct self listed (s ∷ ss) (f, r) =
      let (d, n) = none_repeated_distinct self (listed ++ (s ∷ [])) ss r in
      (((λ i. n s (in_append_right listed (here refl)) i), d), apart n)
    where
      apart : ((t : S.Standing) → In t (listed ++ (s ∷ [])) → In t ss → ⊥) → (t : S.Standing) → In t listed → In t (s ∷ ss) → ⊥
      apart n t i (here e) = true_not_false (in_some (S.equal s) i (subst (λ u. S.equal s u ≡ true) (sym e) (self s))) f
      apart n t i (there j) = n t (in_append_left (s ∷ []) i) j

module _ (D : Decision) where
  abbrev Listed : Type 0
  Listed = List (claim_system D).Standing

  abbrev contents : (claim_system D).Standing → List ℕ
  contents = standing_bytes D.ring D

  abbrev fields : Listed → List ℕ
  fields = standing_fields (claim_system D) (standing_bytes D.ring D)

  -- each standing's contents are read back, and short enough for a field
  abbrev pub ReadBack : List (claim_system D).Standing → Type 0
  ReadBack ss = (s : (claim_system D).Standing) → In s ss
      → (standing_of D.ring D (standing_bytes D.ring D s) ≡ some s) × (length (standing_bytes D.ring D s) < 65536)

  field_tagged : (t : ℕ) (c rest : List ℕ) → tagged t (field t c ++ rest) ≡ true
  unfolding tagged field
  field_tagged t c rest = eq-eqb t t refl

  -- one more standing
  pub standing_step : (n k : ℕ) (listed : Listed) (s : (claim_system D).Standing) (c rest : List ℕ) → length c < 65536
      → standing_of D.ring D c ≡ some s → some_of ((claim_system D).equal s) listed ≡ false
      → standings_in D (suc n) k listed (field 3 c ++ rest) ≡ standings_in D n (suc k) (listed ++ (s ∷ [])) rest
  unfolding standings_in standing_in
  standing_step n k listed s c rest h e f =
      let g : next_field (field 3 c ++ rest) ≡ whole 3 c rest = field_read_back 3 c rest h in
      rw (standings_in, field_tagged 3 c rest, g, e, f, g)

  -- the standings of a list, after those listed
  standings_read_on : (ss : Listed) (n k : ℕ) (listed : Listed) (rest : List ℕ) → ReadBack ss → NoneRepeated (claim_system D) listed ss
      → standings_in D (length ss + n) k listed (fields ss ++ rest) ≡ standings_in D n (k + length ss) (listed ++ ss) rest
  unfolding standing_fields
  standings_read_on [] n k listed rest b r =
      let p : k ≡ k + 0 = omega arith in
      let q : listed ≡ listed ++ [] = sym (append-nil listed) in
      let m : 0 + n ≡ n = omega arith in
      (λ i. standings_in D (m i) (p i) (q i) rest)
  standings_read_on (s ∷ ss) n k listed rest b (f, r) =
      let (e, l) = b s (here refl) in
      let p : suc k + length ss ≡ k + length (s ∷ ss) = omega arith in
      let m : suc (length ss) + n ≡ suc (length ss + n) = omega arith in
      (λ i. standings_in D (m i) k listed (append_assoc (field 3 (contents s)) (fields ss) rest i))
      ∙ standing_step (length ss + n) k listed s (contents s) (fields ss ++ rest) l e f
      ∙ standings_read_on ss n (suc k) (listed ++ (s ∷ [])) rest (λ t i. b t (there i)) r
      ∙ (λ i. standings_in D n (p i) (append_assoc listed (s ∷ []) ss i) rest)

  -- a proved part is read as far as its standings go
  pub proved_read_on : (k : ℕ) (ss : Listed) (rest : List ℕ) → length ss ≤ 4096 → ReadBack ss → NoneRepeated (claim_system D) [] ss
      → part_in D k (part_bytes D (says_proved ss) ++ rest) ≡ standings_in D (4096 - length ss) (suc k + length ss) ss rest
  unfolding part_in part_from verdict_is
  proved_read_on k ss rest h b r =
      let p : 4096 ≡ length ss + (4096 - length ss) = omega arith in
      let first : next_field (part_bytes D (says_proved ss) ++ rest) ≡ whole 1 (1 ∷ []) (fields ss ++ rest) =
      ap next_field (append_assoc (field 1 (1 ∷ [])) (fields ss) rest) ∙ field_read_back 1 (1 ∷ []) (fields ss ++ rest) (omega arith) in
      ap (part_from D k) first
      ∙ ap (λ n. standings_in D n (suc k) [] (fields ss ++ rest)) p ∙ standings_read_on ss (4096 - length ss) (suc k) [] rest b r

  -- where no further standing comes, the reading of standings ends
  pub standings_done : (n k : ℕ) (listed : Listed) (rest : List ℕ) → tagged 3 rest ≡ false
      → standings_in D n k listed rest ≡ ok (record { said = says_proved listed; next = k; rest = rest })
  unfolding standings_in
  standings_done zero k listed rest h = rw (standings_in, h)
  standings_done (suc n) k listed rest h = rw (standings_in, h)

  -- a refuted part whose word is still to be read
  pub wordless_read_on : (k : ℕ) (rest : List ℕ) → part_in D k (field 1 (2 ∷ []) ++ rest) ≡ word_from D (suc k) (next_field rest)
  unfolding part_in part_from verdict_is
  wordless_read_on k rest = ap (part_from D k) (field_read_back 1 (2 ∷ []) rest (omega arith))

  -- a refuted part with its word
  pub refuted_read_back : (k : ℕ) (w : Word) (rest : List ℕ) → length (numbers w) < 65536 → word_of D (numbers w) ≡ some w
      → part_in D k (part_bytes D (says_refuted w) ++ rest) ≡ ok (record { said = says_refuted w; next = suc (suc k); rest = rest })
  unfolding word_from word_in
  refuted_read_back k w rest h e =
      ap (part_in D k) (append_assoc (field 1 (2 ∷ [])) (field 2 (numbers w)) rest)
      ∙ wordless_read_on k (field 2 (numbers w) ++ rest)
      ∙ ap (word_from D (suc k)) (field_read_back 2 (numbers w) rest h)
      ∙ ap (λ o. elim o [
        | none ↦ refuse sheet_field (suc k)
        | some v ↦ ok (record { said = says_refuted v; next = suc (suc k); rest = rest })
      ]) e
