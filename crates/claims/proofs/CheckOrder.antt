-- The order of refusals of the sheet check and of the judge: the reader's first, then a wrong field (13, 12), and 14 only where the
-- sheet has none. (Document 01, the last paragraph before "The desk's cases".) The idea: the reading of a sheet refuses by 13 alone,
-- that of a graph by 12 alone, and reading a query by 1 to 8; so each refusal of a call has one place that it comes from.
-- Assumes nothing.
use Prim.Native.Nat.{ℕ}
use native.Mathlib.Omega.{arith}
use mathlib.Core.Path.{◌≡◌, refl, sym, ◌∙◌, ap, subst}
use mathlib.Core.Logic.{◌⊎◌, ◌↔◌}
use mathlib.Core.Logic.◌⊎◌.{inl, inr}
use mathlib.Core.Bool.{Bool, true, false}
use mathlib.Core.List.{List}
use Rattle.notation.specs.Query.{Query}
use Rattle.notation.specs.Refusals.{Cause, number, graph_field, sheet_field, does_not_pass, Refusal, Result, ok, refused, refuse, afterwards}
use Rattle.notation.specs.Reading.{read}
use Rattle.notation.specs.Sides.{Decision}
use Rattle.claims.specs.SheetReading.{Said, says_proved, says_refuted, sheet_in}
use Rattle.claims.specs.SheetWriting.{AllBytes, MaySay, part_bytes, WrongSheetField}
use Rattle.verdicts.specs.Passing.{passes}
use Rattle.claims.specs.GraphBytes.{Listed, graph_in, finite}
use Rattle.claims.specs.GraphWriting.{WrongGraphField}
use Rattle.claims.specs.Judgement.{judgement}
use Rattle.claims.specs.Calls.{Passed, passed_proved, passed_refuted, passed_of, checked, check_call, judge_call}
use Rattle.notation.specs.RefusalOrder.{Accepted}
use Rattle.claims.specs.CallOrder.{sought, WellFormed, CheckRefused, ranges_of, unread, wrong, failed}
use Rattle.notation.proofs.LineOrder.{ok_not_refused, same_refusal}
use Rattle.notation.proofs.Precedence.{reading_refusals}
use Rattle.claims.proofs.SearchOrder.{asked_refused, asked_accepted, asked_fate}
use Rattle.claims.proofs.Limits.{WithinLimits, asked_within_limits}
use Rattle.claims.proofs.SheetExactly.{sheet_written, sheet_reading}
use Rattle.claims.proofs.WrongSheetFields.{sheet_refuses, sheet_refused}
use Rattle.claims.proofs.WrongGraphFields.{graph_refuses, graph_refused}

fails : (D : Decision) (s : Said D) → passes D s ≡ false → passed_of D s ≡ refuse does_not_pass 0
unfolding passed_of
fails D (says_proved ss) e = rw (e, passed_of)
fails D (says_refuted w) e = rw (e, passed_of)

passing : (D : Decision) (s : Said D) → passes D s ≡ true → (v : Passed) × (passed_of D s ≡ ok v)
unfolding passed_of
passing D (says_proved ss) e = (passed_proved, rw (e, passed_of))
passing D (says_refuted w) e = (passed_refuted, rw (e, passed_of))

module _ (D : Decision) (within : WithinLimits D) (sheet : List ℕ) where
  well_formed : (s : Said D) → sheet ≡ part_bytes D s → MaySay D s → checked D sheet ≡ passed_of D s
  unfolding checked
  well_formed s p m = ap (λ r. afterwards r (passed_of D)) (ap (sheet_in D) p ∙ sheet_written D within s m)

  not_passing : WellFormed D sheet false → checked D sheet ≡ refuse does_not_pass 0
  not_passing (s, p, m, g) = well_formed s p m ∙ fails D s g

  passes_on : WellFormed D sheet true → (v : Passed) × (checked D sheet ≡ ok v)
  passes_on (s, p, m, g) = let (v, h) = passing D s g in (v, well_formed s p m ∙ h)

  module _ (bytes : AllBytes sheet) where
    wrong_field : (k : ℕ) → WrongSheetField D sheet k → checked D sheet ≡ refuse sheet_field k
    unfolding checked
    wrong_field k w = ap (λ r. afterwards r (passed_of D)) ((sheet_refused D within sheet bytes k).1 w)

    -- one of the three holds of every sheet
    pub sheet_fate : ((k : ℕ) × WrongSheetField D sheet k) ⊎ (WellFormed D sheet false ⊎ WellFormed D sheet true)
    sheet_fate = reads (sheet_in D sheet) refl
      where
        Fate : Type 0
        Fate = ((k : ℕ) × WrongSheetField D sheet k) ⊎ (WellFormed D sheet false ⊎ WellFormed D sheet true)

        tested : (s : Said D) → sheet ≡ part_bytes D s → MaySay D s → (b : Bool) → passes D s ≡ b → Fate
        tested s p m false g = inr (inl (s, p, m, g))
        tested s p m true g = inr (inr (s, p, m, g))

        reads : (r : Result (Said D)) → sheet_in D sheet ≡ r → Fate
        reads (ok s) f = let (p, m) = (sheet_reading D within sheet bytes s).0 f in tested s p m (passes D s) refl
        reads (refused r) f = inl (r.place, (sheet_refused D within sheet bytes r.place).0 (sheet_refuses D within sheet bytes r f))

-- 1 to 8 first: the reader's refusal, whatever the sheet or the graph is
pub check_reads_first : (bs sheet : List ℕ) (r : Refusal) → read bs ≡ refused r → check_call bs sheet ≡ refused r
unfolding check_call
check_reads_first bs sheet r e = ap (λ x. afterwards x (λ a. checked a.decided sheet)) (asked_refused bs r e)

pub judge_reads_first : (bs graph : List ℕ) (r : Refusal) → read bs ≡ refused r → judge_call bs graph ≡ refused r
unfolding judge_call
judge_reads_first bs graph r e = rw (asked_refused bs r e)

module _ (bs sheet : List ℕ) (q : Query) (a : Accepted bs q) where
  check_accepted : check_call bs sheet ≡ checked (sought a) sheet
  unfolding check_call
  check_accepted = ap (λ x. afterwards x (λ b. checked b.decided sheet)) (asked_accepted bs q a)

  accepted_within : WithinLimits (sought a)
  accepted_within = asked_within_limits bs (asked_accepted bs q a)

module _ (bs sheet : List ℕ) (bytes : AllBytes sheet) where
  pub check_refused : (c : Cause) (p : ℕ) → check_call bs sheet ≡ refuse c p → CheckRefused bs sheet c p
  check_refused c p e = reads (asked_fate bs)
    where
      is : {d : Cause} {r : ℕ} → check_call bs sheet ≡ refuse d r → CheckRefused bs sheet d r → CheckRefused bs sheet c p
      is {d} {r} f h =
          let (s, at) = same_refusal (sym f ∙ e) in
          subst (λ k. CheckRefused bs sheet c k) at (subst (λ k. CheckRefused bs sheet k r) s h)

      goes : (q : Query) (a : Accepted bs q)
          → ((k : ℕ) × WrongSheetField (sought a) sheet k) ⊎ (WellFormed (sought a) sheet false ⊎ WellFormed (sought a) sheet true)
          → CheckRefused bs sheet c p
      goes q a (inl (k, w)) =
          is (check_accepted bs sheet q a ∙ wrong_field (sought a) (accepted_within bs sheet q a) sheet bytes k w) (wrong q a w)
      goes q a (inr (inl w)) = is (check_accepted bs sheet q a ∙ not_passing (sought a) (accepted_within bs sheet q a) sheet w) (failed q a w)
      goes q a (inr (inr w)) =
          let (v, h) = passes_on (sought a) (accepted_within bs sheet q a) sheet w in
          absurd (ok_not_refused v _ (sym h ∙ sym (check_accepted bs sheet q a) ∙ e))

      reads : ((r : Refusal) × (read bs ≡ refused r)) ⊎ ((q : Query) × Accepted bs q) → CheckRefused bs sheet c p
      reads (inl (r, f)) = is (check_reads_first bs sheet r f) (unread f)
      reads (inr (q, a)) = goes q a (sheet_fate (sought a) (accepted_within bs sheet q a) sheet bytes)

  -- 13 next: a sheet field wrong, the first one, and only then
  pub sheet_field_next : (k : ℕ)
      → (check_call bs sheet ≡ refuse sheet_field k) ↔ ((q : Query) × (a : Accepted bs q) × WrongSheetField (sought a) sheet k)
  unfolding number
  sheet_field_next k = (
    (λ e. go (check_refused sheet_field k e) refl),
    (λ (q, a, w). check_accepted bs sheet q a ∙ wrong_field (sought a) (accepted_within bs sheet q a) sheet bytes k w),
  )
    where
      go : {c : Cause} {p : ℕ} → CheckRefused bs sheet c p → c ≡ sheet_field
          → (q : Query) × (a : Accepted bs q) × WrongSheetField (sought a) sheet p
      go (unread {c = c} {p = p} f) e = absurd (omega (arith, ap number e, reading_refusals bs c p f))
      go (wrong q a w) e = (q, a, w)
      go (failed q a w) e = absurd (omega (arith, ap number e))

  -- 14 last: a "well-formed sheet that does not pass", and only then
  pub not_passing_last : (p : ℕ)
      → (check_call bs sheet ≡ refuse does_not_pass p) ↔ (((q : Query) × (a : Accepted bs q) × WellFormed (sought a) sheet false) × (p ≡ 0))
  unfolding number
  not_passing_last p = (
    (λ e. go (check_refused does_not_pass p e) refl),
    (λ ((q, a, w), z). check_accepted bs sheet q a ∙ not_passing (sought a) (accepted_within bs sheet q a) sheet w ∙ ap (refuse does_not_pass) (sym z)),
  )
    where
      go : {c : Cause} {r : ℕ} → CheckRefused bs sheet c r → c ≡ does_not_pass
          → ((q : Query) × (a : Accepted bs q) × WellFormed (sought a) sheet false) × (r ≡ 0)
      go (unread {c = c} {p = p} f) e = absurd (omega (arith, ap number e, reading_refusals bs c p f))
      go (wrong q a w) e = absurd (omega (arith, ap number e))
      go (failed q a w) e = ((q, a, w), refl)

module _ (bs graph : List ℕ) (q : Query) (a : Accepted bs q) where
  judge_accepted : judge_call bs graph
      ≡ afterwards (graph_in (ranges_of (sought a)) graph) (λ G. ok (judgement (finite G) q a.claim))
  unfolding judge_call
  judge_accepted = rw (asked_accepted bs q a)

-- the judge refuses by the reader's refusal or by a wrong field of the graph, and by nothing else
abbrev pub JudgeRefused : List ℕ → List ℕ → Cause → ℕ → Type 0
JudgeRefused bs graph c p =
    (read bs ≡ refuse c p) ⊎ ((q : Query) × (a : Accepted bs q) × WrongGraphField (ranges_of (sought a)) graph p × (c ≡ graph_field))

pub judge_refused : (bs graph : List ℕ) (c : Cause) (p : ℕ) → judge_call bs graph ≡ refuse c p → JudgeRefused bs graph c p
judge_refused bs graph c p e = reads (asked_fate bs)
  where
    goes : (q : Query) (a : Accepted bs q) (r : Result Listed) → graph_in (ranges_of (sought a)) graph ≡ r
        → afterwards r (λ G. ok (judgement (finite G) q a.claim)) ≡ refuse c p → JudgeRefused bs graph c p
    goes q a (ok G) f h = absurd (ok_not_refused _ _ h)
    goes q a (refused r) f h =
        let (s, at) = same_refusal h in
        let t : graph_in (ranges_of (sought a)) graph ≡ refuse graph_field r.place = graph_refuses (ranges_of (sought a)) graph r f in
        inr (
          q,
          a,
          (graph_refused (ranges_of (sought a)) graph p).0 (t ∙ ap (refuse graph_field) at),
          sym s ∙ (same_refusal (sym f ∙ t)).0,
        )

    reads : ((r : Refusal) × (read bs ≡ refused r)) ⊎ ((q : Query) × Accepted bs q) → JudgeRefused bs graph c p
    reads (inl (r, f)) =
        let (s, at) = same_refusal (sym (judge_reads_first bs graph r f) ∙ e) in
        inl (f ∙ ap (λ d. refuse d r.place) s ∙ ap (refuse c) at)
    reads (inr (q, a)) = goes q a (graph_in (ranges_of (sought a)) graph) refl (sym (judge_accepted bs graph q a) ∙ e)

-- 12 next: a graph field wrong, the first one, and only then
pub graph_field_next : (bs graph : List ℕ) (k : ℕ)
    → (judge_call bs graph ≡ refuse graph_field k) ↔ ((q : Query) × (a : Accepted bs q) × WrongGraphField (ranges_of (sought a)) graph k)
unfolding number
graph_field_next bs graph k = (
  (λ e. go (judge_refused bs graph graph_field k e)),
  (λ (q, a, w).
      judge_accepted bs graph q a
      ∙ ap (λ r. afterwards r (λ G. ok (judgement (finite G) q a.claim))) ((graph_refused (ranges_of (sought a)) graph k).1 w)),
)
  where
    go : JudgeRefused bs graph graph_field k → (q : Query) × (a : Accepted bs q) × WrongGraphField (ranges_of (sought a)) graph k
    go (inl f) = absurd (omega (arith, reading_refusals bs graph_field k f))
    go (inr (q, a, w, s)) = (q, a, w)
