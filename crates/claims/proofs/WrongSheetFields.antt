-- Refusal 13 at field k, in plain words: for a decision within the limits and a list of bytes, the reading of a sheet refuses at field k
-- exactly where the bytes begin with k - 1 good fields and not with k, and are no sheet. The same of one part, from its first field on. The
-- idea: a reading stops behind some good fields, and good fields are read back, so it never stops before the last of them.
-- Assumes nothing.
use Prim.Native.Nat.{ℕ, zero, suc, ◌+◌, ◌-◌, ◌≤◌}
use native.Mathlib.Omega.{arith}
use mathlib.Core.Path.{◌≡◌, refl, sym, ◌∙◌, ap, subst}
use mathlib.Core.Logic.{◌↔◌}
use mathlib.Core.Bool.{true, false}
use mathlib.Core.List.{List, [], ◌∷◌, ◌++◌, append_assoc, append-nil}
use mathlib.Core.Option.{Option, some, none}
use lib.ListN.{length, length-append}
use Rattle.kat.specs.Lists.{is_empty}
use Rattle.kat.specs.Word.{Word, numbers}
use Rattle.kat.proofs.Sets.{in_append_left}
use Rattle.notation.specs.Sides.{Decision}
use Rattle.verdicts.specs.Standings.{claim_system}
use Rattle.claims.specs.Fields.{Field, field, next_field, after_field, FirstWrong}
use Rattle.notation.specs.Refusals.{sheet_field, Refusal, Result, ok, refused, refuse, afterwards}
use Rattle.claims.specs.SheetBytes.{standing_bytes, standing_fields}
use Rattle.claims.specs.SheetReading.{Said, says_proved, says_refuted, Part, word_in, word_from, standings_in, part_in, only_part, sheet_in}
use Rattle.claims.specs.SheetWriting.{AllBytes, MaySay, part_bytes, part_fields, IsSheet, IsPart, Begun, nothing, refuted_only, saying, begun_bytes, begun_fields, MayBegin, GoodSheetFields, WrongSheetField, WrongPart}
use Rattle.notation.proofs.Results.{refused_not_ok}
use Rattle.notation.proofs.LineOrder.{ok_not_refused, same_refusal}
use Rattle.claims.proofs.FirstWrong.{last_apart, distinct_front, refused_at}
use Rattle.claims.proofs.Limits.{WithinLimits}
use Rattle.claims.proofs.WordBytes.{word_read_back}
use Rattle.claims.proofs.PartReading.{StandingsEnd, behind, stopped, standings_end, PartEnd, verdictless, wordless, word, standings, part_end}
use Rattle.claims.proofs.SheetRoundTrip.{proved_read_on, wordless_read_on, refuted_read_back}
use Rattle.claims.proofs.SheetExactly.{field_exactly, may_list_read_back, distinct_read, proved_exactly, part_reading, sheet_reading}

module _ (D : Decision) where
  abbrev Listed : Type 0
  Listed = List (claim_system D).Standing

  abbrev fields : Listed → List ℕ
  fields = standing_fields (claim_system D) (standing_bytes D.ring D)

  -- the number of the field that a reading came to
  abbrev place_of : Result (Part D) → ℕ
  place_of (ok p) = p.next
  place_of (refused r) = r.place

  standings_place : (n k : ℕ) (listed : Listed) (bs : List ℕ) → k ≤ place_of (standings_in D n k listed bs)
  standings_place n k listed bs = go (standings_end D n k listed bs)
    where
      go : StandingsEnd D n k listed bs (standings_in D n k listed bs) → k ≤ place_of (standings_in D n k listed bs)
      go (behind ss rest t l h e) = subst (λ r. k ≤ place_of r) (sym e) (omega arith)
      go (stopped ss rest t l e) = subst (λ r. k ≤ place_of r) (sym e) (omega arith)

  word_place : (k : ℕ) (f : Field) → k ≤ place_of (word_from D k f)
  unfolding word_from
  word_place k f = go (word_in D f)
    where
      go : (o : Option Word)
          → k ≤ place_of (elim o [
            | none ↦ refuse sheet_field k
            | some w ↦ ok (record { said = says_refuted w; next = suc k; rest = after_field f })
          ])
      go none = omega arith
      go (some w) = omega arith

  part_place : (k : ℕ) (bs : List ℕ) → k ≤ place_of (part_in D k bs)
  part_place k bs = go (part_end D k bs)
    where
      go : PartEnd D k bs (part_in D k bs) → k ≤ place_of (part_in D k bs)
      go (verdictless e) = subst (λ r. k ≤ place_of r) (sym e) (omega arith)
      go (wordless rest f e) = subst (λ r. k ≤ place_of r) (sym e) (omega arith)
      go (word w ns after rest f g h e) = subst (λ r. k ≤ place_of r) (sym e) (omega arith)
      go (standings after f (behind ss rest t l h e)) = subst (λ r. k ≤ place_of r) (sym e) (omega arith)
      go (standings after f (stopped ss rest t l e)) = subst (λ r. k ≤ place_of r) (sym e) (omega arith)

  fields_more : (ss : Listed) (s : (claim_system D).Standing) → fields (ss ++ (s ∷ [])) ≡ fields ss ++ field 3 (standing_bytes D.ring D s)
  unfolding standing_fields
  fields_more [] s = append-nil (field 3 (standing_bytes D.ring D s))
  fields_more (t ∷ ss) s =
      ap (λ l. field 3 (standing_bytes D.ring D t) ++ l) (fields_more ss s)
      ∙ sym (append_assoc (field 3 (standing_bytes D.ring D t)) (fields ss) (field 3 (standing_bytes D.ring D s)))

  nothing_good : (bs : List ℕ) → GoodSheetFields D bs 0
  nothing_good bs = record { begun = nothing; rest = bs; good = tt; fields = refl; bytes = refl }

  -- without the last of its standings a proved part is a good beginning
  one_standing_less : (ss : Listed) (s : (claim_system D).Standing) (bs rest : List ℕ) → MaySay D (says_proved (ss ++ (s ∷ [])))
      → bs ≡ part_bytes D (says_proved (ss ++ (s ∷ []))) ++ rest → GoodSheetFields D bs (suc (length ss))
  one_standing_less ss s bs rest (m, d, l) e =
      record {
        begun = saying (says_proved ss);
        rest = field 3 (standing_bytes D.ring D s) ++ rest;
        good = ((λ t i. m t (in_append_left (s ∷ []) i)), distinct_front ss (s ∷ []) d, omega (arith, length-append ss (s ∷ [])));
        fields = refl;
        bytes = e ∙ ap (λ t. (field 1 (1 ∷ []) ++ t) ++ rest) (fields_more ss s)
            ∙ ap (λ t. t ++ rest) (sym (append_assoc (field 1 (1 ∷ [])) (fields ss) (field 3 (standing_bytes D.ring D s))))
            ∙ append_assoc (field 1 (1 ∷ []) ++ fields ss) (field 3 (standing_bytes D.ring D s)) rest;
      }

  -- fewer fields are good where more are
  fewer : (bs : List ℕ) (n : ℕ) → GoodSheetFields D bs (suc n) → GoodSheetFields D bs n
  fewer bs n g = go g.begun g.good g.fields g.bytes
    where
      go : (b : Begun D) → MayBegin D b → begun_fields D b ≡ suc n → bs ≡ begun_bytes D b ++ g.rest → GoodSheetFields D bs n
      go nothing m f e = absurd (omega arith)
      go refuted_only m f e = let z : 0 ≡ n = omega arith in subst (GoodSheetFields D bs) z (nothing_good bs)
      go (saying (says_refuted w)) m f e =
          let z : 1 ≡ n = omega arith in
          subst (GoodSheetFields D bs) z (record {
            begun = refuted_only;
            rest = field 2 (numbers w) ++ g.rest;
            good = tt;
            fields = refl;
            bytes = e ∙ append_assoc (field 1 (2 ∷ [])) (field 2 (numbers w)) g.rest;
          })
      go (saying (says_proved [])) m f e = let z : 0 ≡ n = omega arith in subst (GoodSheetFields D bs) z (nothing_good bs)
      go (saying (says_proved (s ∷ ss))) m f e =
          let (ts, t, p) = last_apart s ss in
          let z : suc (length ts) ≡ n = omega (arith, ap length p, length-append ts (t ∷ [])) in
          subst (GoodSheetFields D bs) z
          (one_standing_less ts t bs g.rest (subst (λ l. MaySay D (says_proved l)) p m) (e ∙ ap (λ l. part_bytes D (says_proved l) ++ g.rest) p))

module _ (D : Decision) (within : WithinLimits D) where
  -- a reading comes at least to the field behind the good ones
  good_place : (k : ℕ) (bs : List ℕ) (n : ℕ) → GoodSheetFields D bs n → k + n ≤ place_of D (part_in D k bs)
  good_place k bs n g = go g.begun g.good g.fields g.bytes
    where
      go : (b : Begun D) → MayBegin D b → begun_fields D b ≡ n → bs ≡ begun_bytes D b ++ g.rest → k + n ≤ place_of D (part_in D k bs)
      go nothing m f e = omega (arith, part_place D k bs)
      go refuted_only m f e =
          let p : part_in D k bs ≡ word_from D (suc k) (next_field g.rest) = ap (part_in D k) e ∙ wordless_read_on D k g.rest in
          omega (arith, ap (place_of D) p, word_place D (suc k) (next_field g.rest))
      go (saying (says_refuted w)) (r, l) f e =
          omega (arith, ap (place_of D) (ap (part_in D k) e ∙ refuted_read_back D k w g.rest l (word_read_back D w r)))
      go (saying (says_proved ss)) (ms, d, l) f e =
          let p : part_in D k bs ≡ standings_in D (4096 - length ss) (suc k + length ss) ss g.rest =
          ap (part_in D k) e
          ∙ proved_read_on D k ss g.rest l (may_list_read_back D within ss ms) (distinct_read D within ss d) in
          omega (arith, ap (place_of D) p, standings_place D (4096 - length ss) (suc k + length ss) ss g.rest)

  module _ (bs : List ℕ) (bytes : AllBytes bs) where
    -- a part that is refused is refused behind good fields
    part_stops : (k : ℕ) (x : Refusal) → part_in D k bs ≡ refused x
        → (n : ℕ) × (part_in D k bs ≡ refuse sheet_field (k + n)) × GoodSheetFields D bs n
    part_stops k x e = go (part_end D k bs)
      where
        go : PartEnd D k bs (part_in D k bs) → (n : ℕ) × (part_in D k bs ≡ refuse sheet_field (k + n)) × GoodSheetFields D bs n
        go (verdictless f) = let p : k ≡ k + 0 = omega arith in (0, f ∙ ap (refuse sheet_field) p, nothing_good D bs)
        go (wordless rest g f) =
            let p : suc k ≡ k + 1 = omega arith in (
              1,
              f ∙ ap (refuse sheet_field) p,
              record { begun = refuted_only; rest = rest; good = tt; fields = refl; bytes = (field_exactly bs 1 (2 ∷ []) rest bytes g).0 },
            )
        go (word w ns after rest f g h is) = refused_not_ok (sym e ∙ is)
        go (standings after f (behind ss rest t l h is)) = refused_not_ok (sym e ∙ is)
        go (standings after f (stopped ss rest t l is)) =
            let p : suc k + length ss ≡ k + suc (length ss) = omega arith in
            let (q, m) = proved_exactly D within ss bs after rest bytes f t l in (
              suc (length ss),
              is ∙ ap (refuse sheet_field) p,
              record { begun = saying (says_proved ss); rest = rest; good = m; fields = refl; bytes = q },
            )

    -- one part, whose first field is field k, is refused at field j exactly where that is its first wrong one
    pub part_refused : (k j : ℕ) → (part_in D k bs ≡ refuse sheet_field j) ↔ WrongPart D k bs j
    part_refused k j = (
      (λ e. let (n, f, g) = part_stops k _ e in let p : j ≡ k + n = (same_refusal (sym e ∙ f)).1 in (n, p, (at n).0 f)),
      (λ (n, p, w). (at n).1 w ∙ ap (refuse sheet_field) (sym p)),
    )
      where
        Whole : Type 0
        Whole = (s : Said D) × (rest : List ℕ) × IsPart D bs s rest

        at : (n : ℕ) → (part_in D k bs ≡ refuse sheet_field (k + n)) ↔ FirstWrong (GoodSheetFields D bs) Whole (suc n)
        at =
            refused_at (part_in D k bs) sheet_field k (GoodSheetFields D bs) Whole
            (λ p e. (p.said, p.rest, ((part_reading D within k bs bytes p).0 e).0))
            (λ (s, rest, i). (_, (part_reading D within k bs bytes (record { said = s; next = k + part_fields D s; rest = rest })).1 (i, refl)))
            (part_stops k)
            (λ n j g e. omega (arith, ap (place_of D) e, good_place k bs n g))
            (fewer D bs)

    -- the part that was read is good fields
    part_good : (p : Part D) → part_in D 1 bs ≡ ok p → (p.next ≡ 1 + part_fields D p.said) × GoodSheetFields D bs (part_fields D p.said)
    part_good p e =
        let (i, n) = (part_reading D within 1 bs bytes p).0 e in
        (n, record { begun = saying p.said; rest = p.rest; good = i.good; fields = refl; bytes = i.bytes })

    -- behind the part that was read a refusal is at the next field
    only_refused : (p : Part D) (x : Refusal) → only_part D p ≡ refused x → only_part D p ≡ refuse sheet_field p.next
    unfolding only_part
    only_refused p x = go p.rest
      where
        end : List ℕ → Result (Said D)
        end rest = elim (is_empty rest) [ true ↦ ok p.said | false ↦ refuse sheet_field p.next ]

        go : (rest : List ℕ) → end rest ≡ refused x → end rest ≡ refuse sheet_field p.next
        go [] e = absurd (ok_not_refused p.said x e)
        go (y ∷ ys) e = refl

    -- a sheet that is refused is refused behind good fields, where the reading of its part came to
    stops_at : (r : Result (Part D)) → part_in D 1 bs ≡ r → (x : Refusal) → afterwards r (only_part D) ≡ refused x
        → (n : ℕ) × (afterwards r (only_part D) ≡ refuse sheet_field (1 + n)) × GoodSheetFields D bs n × (place_of D r ≡ 1 + n)
    stops_at (refused y) f x e =
        let (n, g, h) = part_stops 1 y f in
        let z : ◌≡◌ {A = Result (Part D)} (refused y) (refuse sheet_field (1 + n)) = sym f ∙ g in
        (n, ap (λ r. afterwards r (only_part D)) z, h, ap (place_of D) z)
    stops_at (ok p) f x e =
        let (n, g) = part_good p f in
        (part_fields D p.said, only_refused p x e ∙ ap (refuse sheet_field) n, g, n)

    sheet_stops : (x : Refusal) → sheet_in D bs ≡ refused x → (n : ℕ) × (sheet_in D bs ≡ refuse sheet_field (1 + n)) × GoodSheetFields D bs n
    unfolding sheet_in
    sheet_stops x e = let (n, f, g, h) = stops_at (part_in D 1 bs) refl x e in (n, f, g)

    sheet_not_before : (n j : ℕ) → GoodSheetFields D bs n → sheet_in D bs ≡ refuse sheet_field j → 1 + n ≤ j
    unfolding sheet_in
    sheet_not_before n j g e =
        let (m, f, h, p) = stops_at (part_in D 1 bs) refl _ e in
        omega (arith, good_place 1 bs n g, (same_refusal (sym f ∙ e)).1)

    -- the reading of a sheet refuses by 13 alone
    pub sheet_refuses : (x : Refusal) → sheet_in D bs ≡ refused x → sheet_in D bs ≡ refuse sheet_field x.place
    sheet_refuses x e =
        let (n, f, g) = sheet_stops x e in
        let p : 1 + n ≡ x.place = ap place (sym f ∙ e) in
        f ∙ ap (refuse sheet_field) p
      where
        place : Result (Said D) → ℕ
        place (ok s) = 0
        place (refused r) = r.place

    -- a sheet is refused at field k exactly where that is its first wrong one
    pub sheet_refused : (k : ℕ) → (sheet_in D bs ≡ refuse sheet_field k) ↔ WrongSheetField D bs k
    sheet_refused zero = (
      (λ e. let (n, f, g) = sheet_stops _ e in let p : 1 + n ≡ 0 = (same_refusal (sym f ∙ e)).1 in omega arith),
      (λ h. absurd h),
    )
    sheet_refused (suc n) =
        let p : 1 + n ≡ suc n = omega arith in
        subst (λ j. (sheet_in D bs ≡ refuse sheet_field j) ↔ WrongSheetField D bs (suc n)) p
        (refused_at (sheet_in D bs) sheet_field 1 (GoodSheetFields D bs) (IsSheet D bs)
        (λ s e. let (q, m) = (sheet_reading D within bs bytes s).0 e in record { said = s; good = m; bytes = q })
        (λ i. (i.said, (sheet_reading D within bs bytes i.said).1 (i.bytes, i.good)))
        sheet_stops sheet_not_before (fewer D bs) n)
