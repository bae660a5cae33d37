-- A whole sheet from its part: nothing may follow, and then the sheet passes as its part does. And from a reading of the query to the check: a
-- refusal of the reader is that of the call, and a sheet of an accepted query is checked on its decision.
-- Assumes nothing.
use Prim.Native.Nat.{ℕ, suc, ◌+◌, ◌≤◌, ◌<◌}
use native.Mathlib.Omega.{arith}
use mathlib.Core.Path.{◌≡◌, refl, sym, ap, subst, subst⁻¹}
use mathlib.Core.Logic.{⊎_elim}
use mathlib.Core.Bool.{Bool, true, false}
use mathlib.Core.List.{List, [], ◌∷◌}
use lib.ListN.{length, drop, length-drop}
use borrow.Author.Tests.{lt-ltb, le-ltb}
use Rattle.std.specs.Prelude.{Result as Found, Ok, Err}
use Rattle.kat.specs.Lists.{is_empty}
use Rattle.kat.proofs.Bools.{le_or_lt}
use Rattle.claims.specs.Query.{Query}
use Rattle.claims.specs.Sides.{Decision}
use Rattle.claims.specs.Reading.{read}
use Rattle.claims.specs.Refusals.{Result, ok, refused, refuse, afterwards, sheet_field}
use Rattle.claims.specs.SheetReading.{Said, says_proved, says_refuted, Part, part_in, only_part, sheet_in}
use Rattle.claims.specs.Passing.{passes}
use Rattle.claims.specs.Calls.{Passed, passed_of, checked, check_call}
use Rattle.claims.proofs.CheckOrder.{check_reads_first}
use Rattle.claims.proofs.Sheets.{check_is}
use Rattle.refusals.specs.declared.Refusal.{Refusal}
use Rattle.refusals.specs.declared.Reason.TheVariants.{SheetField, DoesNotPass}
use Rattle.refusals.specs.Causes.{cause_of}
use Rattle.query.specs.declared.Facts.{Facts}
use Rattle.std.specs.Prelude.{Ok, Err}
use Rattle.query.specs.Answer.{Answer, Says as SaysRead, left_after, right_after}
use Rattle.query.specs.Decided.{Decided}
use Rattle.query.proofs.Asked.{AskedWith, asked_with}
use Rattle.sheet_part.specs.declared.Tested.{Tested}
use Rattle.sheet_part.specs.declared.Tested.TheVariants.{Proved as ProvedPart, Refuted as RefutedPart}
use Rattle.sheet_part.specs.Tests.{Tests, TestsPart}
use Rattle.sheet_checked.specs.declared.Checked.{Checked}
use Rattle.sheet_checked.specs.declared.Checked.TheVariants.{Proved, Refuted, Refused}
use Rattle.sheet_checked.specs.Checks.{Says}
use Rattle.sheet_checked.specs.inner.Ended.{ended}

-- the answer to a part that ends the sheet or not
abbrev pub answer_to : Found Tested ℕ → ℕ → Checked
answer_to (Ok (ProvedPart passed fields next)) end = ended true passed (fields + 1) next end
answer_to (Ok (RefutedPart passed fields next)) end = ended false passed (fields + 1) next end
answer_to (Err i) end = Refused SheetField (suc i)

-- the four ways out
module _ (proved passed : Bool) (field next end : ℕ) where
  pub ended_followed : next < end → Refused SheetField field ≡ ended proved passed field next end
  unfolding ended
  ended_followed h = rw (lt-ltb next end h) refl

  pub ended_failed : end ≤ next → passed ≡ false → Refused DoesNotPass 0 ≡ ended proved passed field next end
  unfolding ended
  ended_failed h k = rw (le-ltb next end h, k) refl

  pub ended_proved : end ≤ next → passed ≡ true → proved ≡ true → Proved ≡ ended proved passed field next end
  unfolding ended
  ended_proved h k e = rw (le-ltb next end h, k, e) refl

  pub ended_refuted : end ≤ next → passed ≡ true → proved ≡ false → Refuted ≡ ended proved passed field next end
  unfolding ended
  ended_refuted h k e = rw (le-ltb next end h, k, e) refl

more_behind : (next : ℕ) (bs : List ℕ) → next < length bs → is_empty (drop next bs) ≡ false
more_behind next bs h = go (drop next bs) refl
  where
    go : (xs : List ℕ) → drop next bs ≡ xs → is_empty xs ≡ false
    go [] e = absurd (omega (arith, length-drop next bs, ap length e))
    go (x ∷ xs) e = refl

none_behind : (next : ℕ) (bs : List ℕ) → length bs ≤ next → is_empty (drop next bs) ≡ true
none_behind next bs h = go (drop next bs) refl
  where
    go : (xs : List ℕ) → drop next bs ≡ xs → is_empty xs ≡ true
    go [] e = refl
    go (x ∷ xs) e = absurd (omega (arith, length-drop next bs, ap length e))

module _ (D : Decision) (bs : List ℕ) where
  -- what the check makes of a part that says s, where field n comes next and rest stands behind it
  abbrev Made : Said D → ℕ → List ℕ → Result Passed
  Made s n rest = afterwards (elim (is_empty rest) [ true ↦ ok s | false ↦ refuse sheet_field n ]) (passed_of D)

  followed : (proved passed : Bool) (s : Said D) (n field next : ℕ) (rest : List ℕ) → n ≡ field → rest ≡ drop next bs → next < length bs
      → Says (Made s n rest) (ended proved passed field next (length bs))
  unfolding ended cause_of
  followed proved passed s n field next rest e f h =
      rw (f, more_behind next bs h, lt-ltb next (length bs) h) (refl, sym e)

  last_proved : (passed : Bool) (ss : List _) (n field next : ℕ) (rest : List ℕ) → passed ≡ passes D (says_proved ss) → rest ≡ drop next bs
      → length bs ≤ next → Says (Made (says_proved ss) n rest) (ended true passed field next (length bs))
  unfolding ended passed_of cause_of
  last_proved true ss n field next rest g f h =
      rw (f, none_behind next bs h, le-ltb next (length bs) h, passed_of, sym g) tt
  last_proved false ss n field next rest g f h =
      rw (f, none_behind next bs h, le-ltb next (length bs) h, passed_of, sym g) (refl, refl)

  last_refuted : (passed : Bool) (w : _) (n field next : ℕ) (rest : List ℕ) → passed ≡ passes D (says_refuted w) → rest ≡ drop next bs
      → length bs ≤ next → Says (Made (says_refuted w) n rest) (ended false passed field next (length bs))
  unfolding ended passed_of cause_of
  last_refuted true w n field next rest g f h =
      rw (f, none_behind next bs h, le-ltb next (length bs) h, passed_of, sym g) tt
  last_refuted false w n field next rest g f h =
      rw (f, none_behind next bs h, le-ltb next (length bs) h, passed_of, sym g) (refl, refl)

  part_said : (s : Said D) (n : ℕ) (rest : List ℕ) (t : Found Tested ℕ) → TestsPart D bs 1 s n rest t → Says (Made s n rest) (answer_to t (length bs))
  part_said (says_proved ss) n rest (Ok (ProvedPart passed fields next)) (g, e, l, f) =
      ⊎_elim (λ h. last_proved passed ss n (fields + 1) next rest g f h) (λ h. followed true passed (says_proved ss) n (fields + 1) next rest (omega (arith, e)) f h)
      (le_or_lt (length bs) next)
  part_said (says_refuted w) n rest (Ok (RefutedPart passed fields next)) (g, e, l, f) =
      ⊎_elim (λ h. last_refuted passed w n (fields + 1) next rest g f h) (λ h. followed false passed (says_refuted w) n (fields + 1) next rest (omega (arith, e)) f h)
      (le_or_lt (length bs) next)
  part_said (says_refuted w) n rest (Err _) x5 = elim x5 [ ]
  part_said (says_refuted w) n rest (Ok (ProvedPart passed fields next)) x3 = elim x3 [ ]
  part_said (says_proved ss) n rest (Err _) x4 = elim x4 [ ]
  part_said (says_proved ss) n rest (Ok (RefutedPart passed fields next)) x'' = elim x'' [ ]

  part_ended : (r : Result (Part D)) (t : Found Tested ℕ) → Tests D bs 1 r t
      → Says (afterwards (afterwards r (only_part D)) (passed_of D)) (answer_to t (length bs))
  unfolding only_part cause_of
  part_ended (ok p) t h = part_said p.said p.next p.rest t h
  part_ended (refused r) (Err i) (c, p) = (sym c, omega (arith, p))
  part_ended (refused r) (Ok (RefutedPart _ _ _)) h = elim h [ ]
  part_ended (refused r) (Ok (ProvedPart _ _ _)) h = elim h [ ]

  -- the answer to the part from field 1 is that to the sheet
  pub sheet_ended : (t : Found Tested ℕ) → Tests D bs 1 (part_in D 1 (drop 0 bs)) t → Says (checked D bs) (answer_to t (length bs))
  unfolding checked sheet_in
  sheet_ended t h = part_ended (part_in D 1 bs) t h

-- a refusal of the reader
pub refused_says : (bs sheet : List ℕ) (x : Answer) → SaysRead (read bs) x → (y : Refusal) → x ≡ Err y
    → Says (check_call bs sheet) (Refused y.why y.place)
refused_says bs sheet x said y e = go (read bs) refl (subst (SaysRead (read bs)) e said)
  where
    go : (r : Result Query) → read bs ≡ r → SaysRead r (Err y) → Says (check_call bs sheet) (Refused y.why y.place)
    go (ok q) f s = absurd s
    go (refused r) f s = subst⁻¹ (λ d. Says d (Refused y.why y.place)) (check_reads_first bs sheet r f) s

-- an accepted query
pub accepted_says : (bs sheet : List ℕ) (x : Answer) → SaysRead (read bs) x → (f : Facts) → x ≡ Ok f → (left right : List ℕ)
    → left ≡ left_after (read bs) → right ≡ right_after (read bs) → (c : Checked)
    → ((D : Decision) → Decided f left right D → Says (checked D sheet) c) → Says (check_call bs sheet) c
accepted_says bs sheet x said f e left right l r c h =
    let a : AskedWith bs f left right = asked_with bs x said f e left right l r in
    subst⁻¹ (λ d. Says d c) (check_is bs a.asks a.accepted sheet) (h a.asks.decided a.decided)

-- the answer to the sheet, by the kind of what was found
module _ (D : Decision) (bs : List ℕ) (t : Found Tested ℕ) (h : (k : ℕ) → Tests D bs k (part_in D k (drop 0 bs)) t) where
  pub proved_says : (passed : Bool) (fields next : ℕ) → t ≡ Ok (ProvedPart passed fields next) → (c : Checked)
      → c ≡ ended true passed (fields + 1) next (length bs) → Says (checked D bs) c
  proved_says passed fields next e c f =
      subst⁻¹ (Says (checked D bs)) f (subst (λ u. Says (checked D bs) (answer_to u (length bs))) e (sheet_ended D bs t (h 1)))

  pub refuted_says : (passed : Bool) (fields next : ℕ) → t ≡ Ok (RefutedPart passed fields next) → (c : Checked)
      → c ≡ ended false passed (fields + 1) next (length bs) → Says (checked D bs) c
  refuted_says passed fields next e c f =
      subst⁻¹ (Says (checked D bs)) f (subst (λ u. Says (checked D bs) (answer_to u (length bs))) e (sheet_ended D bs t (h 1)))

  pub wrong_says : (i : ℕ) → t ≡ Err i → Says (checked D bs) (Refused SheetField (i + 1))
  wrong_says i e =
      let z : suc i ≡ i + 1 = omega arith in
      subst (λ n. Says (checked D bs) (Refused SheetField n)) z
      (subst (λ u. Says (checked D bs) (answer_to u (length bs))) e (sheet_ended D bs t (h 1)))
