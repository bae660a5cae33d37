-- The sheet reader accepts exactly the bytes of sheets. For a decision within the limits and a list of bytes: it reads a part exactly where
-- the bytes begin with that part's fields, which may say what they say, and no further standing follows; a sheet exactly where the bytes
-- are that sheet's. The idea: `PartReading` tells how a reading ends, contents that were read are those written (`StandingExactly`,
-- `RingExactly`), and what was written is read back (`SheetRoundTrip`).
-- Assumes nothing.
use Prim.Native.Nat.{ℕ, suc, ◌+◌, ◌-◌, ◌≤◌, ◌<◌}
use native.Mathlib.Omega.{arith}
use mathlib.Core.Path.{◌≡◌, refl, sym, ◌∙◌, ap, subst}
use mathlib.Core.Logic.{◌↔◌}
use mathlib.Core.Bool.{true, false}
use mathlib.Core.List.{List, [], ◌∷◌, ◌++◌, append_assoc, append-nil}
use mathlib.Core.Option.{some}
use lib.ListN.{length}
use Rattle.kat.specs.Lists.{In, here, there, is_empty}
use Rattle.kat.specs.Tables.{occurrences}
use Rattle.kat.specs.Word.{Word, numbers}
use Rattle.kat.proofs.Sets.{in_append_left, in_append_right}
use Rattle.notation.specs.Width.{width}
use Rattle.notation.specs.Sides.{Decision}
use Rattle.verdicts.specs.Standings.{claim_system}
use Rattle.claims.specs.Fields.{field, next_field, whole}
use Rattle.notation.specs.Refusals.{sheet_field, ok, refuse, afterwards}
use Rattle.claims.specs.SheetBytes.{contents_length, standing_bytes, standing_fields}
use Rattle.claims.specs.SheetReading.{Said, says_proved, says_refuted, Part, word_of, tagged, part_in, only_part, sheet_in}
use Rattle.claims.specs.SheetWriting.{AllBytes, MayList, MaySay, part_bytes, part_fields, IsPart, Ends}
use Rattle.verdicts.specs.Verdicts.{Distinct}
use Rattle.notation.proofs.Results.{refused_not_ok, onward_ok}
use Rattle.notation.proofs.LineOrder.{same_value}
use Rattle.claims.proofs.Limits.{WithinLimits}
use Rattle.claims.proofs.Bytes.{next_whole, field_as_written}
use Rattle.claims.proofs.WordBytes.{word_read_back, word_in_range, read_numbers}
use Rattle.claims.proofs.ByKind.{equal_sound, equal_self, contents_exactly, contents_read_back, contents_length_lem, contents_short}
use Rattle.claims.proofs.PartReading.{Taken, behind, stopped, PartEnd, verdictless, wordless, word, standings, part_end}
use Rattle.claims.proofs.SheetRoundTrip.{NoneRepeated, distinct_none_repeated, none_repeated_distinct, ReadBack, proved_read_on, standings_done, refuted_read_back}

-- a field of bytes that was read is the field as written, and its parts are bytes
pub field_exactly : (bs : List ℕ) (tag : ℕ) (c rest : List ℕ) → AllBytes bs → next_field bs ≡ whole tag c rest
    → (bs ≡ field tag c ++ rest) × AllBytes c × AllBytes rest × (length c < 65536)
field_exactly bs tag c rest b e =
    let (h, l, p, n) = next_whole bs tag c rest e in
    let hb : h < 256 = b h (subst (In h) (sym p) (there (here refl))) in
    let lb : l < 256 = b l (subst (In l) (sym p) (there (there (here refl)))) in (
      p ∙ ap (λ t. t ++ rest) (field_as_written tag h l c n hb lb),
      (λ x i. b x (subst (In x) (sym p) (there (there (there (in_append_left rest i)))))),
      (λ x i. b x (subst (In x) (sym p) (there (there (there (in_append_right c i)))))),
      omega arith,
    )

module _ (D : Decision) (within : WithinLimits D) where
  abbrev Listed : Type 0
  Listed = List (claim_system D).Standing

  abbrev fields : Listed → List ℕ
  fields = standing_fields (claim_system D) (standing_bytes D.ring D)

  few : D.ring ≡ true → occurrences D.right < width
  unfolding width
  few h = omega (arith, within.ring_right h)

  -- standings that a sheet may list are read back
  pub may_list_read_back : (ss : Listed) → ((s : (claim_system D).Standing) → In s ss → MayList D.ring D s) → ReadBack D ss
  may_list_read_back ss m s i = (
    contents_read_back D.ring D within.left within.right few s (m s i),
    let n : length (standing_bytes D.ring D s) ≡ contents_length D.ring = contents_length_lem D.ring D s in omega (arith, contents_short D.ring),
  )

  pub distinct_read : (ss : Listed) → Distinct ss → NoneRepeated (claim_system D) [] ss
  distinct_read = distinct_none_repeated (claim_system D) (equal_sound D.ring D)

  -- standings that were read are written
  taken_exactly : (ss listed : Listed) (bs rest : List ℕ) → AllBytes bs → Taken D listed bs ss rest
      → (bs ≡ fields ss ++ rest) × AllBytes rest × ((s : (claim_system D).Standing) → In s ss → MayList D.ring D s)
      × NoneRepeated (claim_system D) listed ss
  unfolding standing_fields
  taken_exactly [] listed bs rest b e = (e, subst AllBytes e b, (λ s i. elim i [ ]), tt)
  taken_exactly (s ∷ ss) listed bs rest b (c, after, f, g, h, t) =
      let (p, bc, ba, n) = field_exactly bs 3 c after b f in
      let (is, m) = contents_exactly D.ring D few c s bc g in
      let (q, br, ms, r) = taken_exactly ss (listed ++ (s ∷ [])) after rest ba t in (
        p ∙ ap (λ x. field 3 x ++ after) is ∙ ap (λ x. field 3 (standing_bytes D.ring D s) ++ x) q
            ∙ sym (append_assoc (field 3 (standing_bytes D.ring D s)) (fields ss) rest),
        br,
        each m ms,
        (h, r),
      )
    where
      each : MayList D.ring D s → ((t : (claim_system D).Standing) → In t ss → MayList D.ring D t)
          → (t : (claim_system D).Standing) → In t (s ∷ ss) → MayList D.ring D t
      each m ms t (here e) = subst (MayList D.ring D) (sym e) m
      each m ms t (there i) = ms t i

  -- the verdict proved and standings that were read
  pub proved_exactly : (ss : Listed) (bs after rest : List ℕ) → AllBytes bs → next_field bs ≡ whole 1 (1 ∷ []) after
      → Taken D [] after ss rest → length ss ≤ 4096
      → (bs ≡ part_bytes D (says_proved ss) ++ rest) × MaySay D (says_proved ss)
  proved_exactly ss bs after rest b f t l =
      let (p, bc, ba, n) = field_exactly bs 1 (1 ∷ []) after b f in
      let (q, br, ms, r) = taken_exactly ss [] after rest ba t in (
        p ∙ ap (λ x. field 1 (1 ∷ []) ++ x) q ∙ sym (append_assoc (field 1 (1 ∷ [])) (fields ss) rest),
        (ms, (none_repeated_distinct (claim_system D) (equal_self D.ring D) [] ss r).0, l),
      )

  -- the verdict refuted and a word that was read
  refuted_exactly : (w : Word) (bs ns after rest : List ℕ) → AllBytes bs → next_field bs ≡ whole 1 (2 ∷ []) after
      → next_field after ≡ whole 2 ns rest → word_of D ns ≡ some w
      → (bs ≡ part_bytes D (says_refuted w) ++ rest) × MaySay D (says_refuted w)
  refuted_exactly w bs ns after rest b f g h =
      let (p, bc, ba, n) = field_exactly bs 1 (2 ∷ []) after b f in
      let (q, bn, br, l) = field_exactly after 2 ns rest ba g in
      let e : ns ≡ numbers w = read_numbers D ns w h in (
        p ∙ ap (λ x. field 1 (2 ∷ []) ++ x) (q ∙ ap (λ x. field 2 x ++ rest) e)
            ∙ sym (append_assoc (field 1 (2 ∷ [])) (field 2 (numbers w)) rest),
        (word_in_range D ns w h, subst (λ x. length x < 65536) e l),
      )

  -- what a part reading gives
  abbrev pub ReadAs : ℕ → List ℕ → Part D → Type 0
  ReadAs k bs p = IsPart D bs p.said p.rest × (p.next ≡ k + part_fields D p.said)

  part_read : (k : ℕ) (bs : List ℕ) → AllBytes bs → (p : Part D) → part_in D k bs ≡ ok p → ReadAs k bs p
  part_read k bs b p e = go (part_end D k bs)
    where
      go : PartEnd D k bs (part_in D k bs) → ReadAs k bs p
      go (verdictless f) = refused_not_ok (sym f ∙ e)
      go (wordless rest g f) = refused_not_ok (sym f ∙ e)
      go (word w ns after rest f g h is) =
          let (q, m) = refuted_exactly w bs ns after rest b f g h in
          subst (ReadAs k bs) (same_value _ p (sym is ∙ e)) (record { good = m; bytes = q; ends = tt }, omega arith)
      go (standings after f (behind ss rest t l h is)) =
          let (q, m) = proved_exactly ss bs after rest b f t l in
          subst (ReadAs k bs) (same_value _ p (sym is ∙ e)) (record { good = m; bytes = q; ends = h }, omega arith)
      go (standings after f (stopped ss rest t l is)) = refused_not_ok (sym is ∙ e)

  part_written : (k : ℕ) (bs : List ℕ) (s : Said D) (rest : List ℕ) → IsPart D bs s rest
      → part_in D k bs ≡ ok (record { said = s; next = k + part_fields D s; rest = rest })
  part_written k bs (says_proved ss) rest p =
      let (ms, d, l) = p.good in
      let n : suc k + length ss ≡ k + suc (length ss) = omega arith in
      ap (part_in D k) p.bytes ∙ proved_read_on D k ss rest l (may_list_read_back ss ms) (distinct_read ss d)
      ∙ standings_done D (4096 - length ss) (suc k + length ss) ss rest p.ends
      ∙ ap (λ j. ok (record { said = says_proved ss; next = j; rest = rest })) n
  part_written k bs (says_refuted w) rest p =
      let (r, l) = p.good in
      let n : suc (suc k) ≡ k + 2 = omega arith in
      ap (part_in D k) p.bytes ∙ refuted_read_back D k w rest l (word_read_back D w r)
      ∙ ap (λ j. ok (record { said = says_refuted w; next = j; rest = rest })) n

  -- a part is read exactly where the bytes begin with it
  pub part_reading : (k : ℕ) (bs : List ℕ) → AllBytes bs → (p : Part D)
      → (part_in D k bs ≡ ok p) ↔ (IsPart D bs p.said p.rest × (p.next ≡ k + part_fields D p.said))
  part_reading k bs b p = (
    part_read k bs b p,
    (λ (i, e). part_written k bs p.said p.rest i ∙ (λ j. ok (record { said = p.said; next = sym e j; rest = p.rest }))),
  )

  -- a part and nothing behind it
  only_part_lem : (p : Part D) (s : Said D) → only_part D p ≡ ok s → (p.rest ≡ []) × (p.said ≡ s)
  unfolding only_part
  only_part_lem p s = go p.rest
    where
      go : (rest : List ℕ) → elim (is_empty rest) [ true ↦ ok p.said | false ↦ refuse sheet_field p.next ] ≡ ok s
          → (rest ≡ []) × (p.said ≡ s)
      go [] e = (refl, same_value p.said s e)
      go (x ∷ xs) e = refused_not_ok e

  none_behind : (s : Said D) → Ends D s []
  unfolding tagged
  none_behind (says_proved ss) = refl
  none_behind (says_refuted w) = tt

  -- what a sheet may say is read back
  pub sheet_written : (s : Said D) → MaySay D s → sheet_in D (part_bytes D s) ≡ ok s
  unfolding sheet_in only_part
  sheet_written s m =
      ap (λ r. afterwards r (only_part D))
      (part_written 1 (part_bytes D s) s [] (record { good = m; bytes = sym (append-nil (part_bytes D s)); ends = none_behind s }))

  -- a sheet is read exactly where the bytes are that sheet's
  pub sheet_reading : (bs : List ℕ) → AllBytes bs → (s : Said D) → (sheet_in D bs ≡ ok s) ↔ ((bs ≡ part_bytes D s) × MaySay D s)
  unfolding sheet_in
  sheet_reading bs b s = (
    (λ e.
        let (p, f, g) = onward_ok (part_in D 1 bs) (only_part D) e in
        let (z, is) = only_part_lem p s g in
        let (i, n) = part_read 1 bs b p f in (
          i.bytes ∙ ap (λ r. part_bytes D p.said ++ r) z ∙ append-nil (part_bytes D p.said) ∙ ap (part_bytes D) is,
          subst (MaySay D) is i.good,
        )),
    (λ (e, m). ap (sheet_in D) e ∙ sheet_written s m),
  )
