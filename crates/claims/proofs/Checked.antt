-- What it takes to pass. A sheet that passes as proved lists standings that pass, so no word refutes; one that passes as refuted holds a
-- word in range that refutes by the languages. For path and ring claims alike.
-- Assumes nothing.
use Prim.Native.Nat.{ℕ}
use native.Mathlib.Omega.{arith}
use mathlib.Core.Path.{◌≡◌, refl}
use mathlib.Core.Bool.{Bool, true, false}
use mathlib.Core.List.{List}
use Rattle.kat.specs.Lists.{member}
use Rattle.kat.specs.Word.{Word, end, at}
use Rattle.kat.proofs.Bools.{and_left, and_right, true_not_false}
use Rattle.kat.proofs.Sets.{member_in, in_member}
use Rattle.notation.specs.Sides.{Decision}
use Rattle.verdicts.specs.Standings.{System, Letter, claim_system}
use Rattle.notation.specs.Refusals.{Refusal, does_not_pass, Result, ok, refused, afterwards}
use Rattle.claims.specs.SheetReading.{Said, says_proved, says_refuted, sheet_in}
use Rattle.claims.specs.SheetWriting.{InRange}
use Rattle.verdicts.specs.Passing.{passes, proving, refuting, completes}
use Rattle.notation.specs.Words.{Guarded, Refutes}
use Rattle.claims.specs.Calls.{passed_proved, passed_refuted, passed_of, checked}
use Rattle.verdicts.specs.Orders.{Rising}
use Rattle.verdicts.specs.Lawful.{Lawful}
use Rattle.claims.specs.Sheets.{SaysRefuted}
use Rattle.verdicts.proofs.Passing.{passing_proved_refutes_none}
use Rattle.claims.proofs.ByKind.{lawful, same_relations, refutes_by_standings}
use Rattle.claims.proofs.WordBytes.{word_in_range}
use Rattle.claims.proofs.PartReading.{word_was_read}

-- a result that a test gives
given : {A : Type 0} (x y : A) (r : Refusal) (b : Bool) → elim b [ true ↦ ok x | false ↦ refused r ] ≡ ok y → (b ≡ true) × (x ≡ y)
given x y r true e = (refl, cc)
given x y r false e = absurd (let z : ◌≡◌ {A = ℕ} 0 1 = cc in omega arith)

abbrev fails : Refusal
fails = record { cause = does_not_pass; place = 0 }

module _ (D : Decision) where
  -- a sheet that passes as proved says proved, and its standings pass
  pub passed_proved_lem : (r : Result (Said D)) → afterwards r (passed_of D) ≡ ok passed_proved
      → (ss : List (claim_system D).Standing) × (r ≡ ok (says_proved ss)) × (proving (claim_system D) ss ≡ true)
  unfolding passed_of passes
  passed_proved_lem (refused r) e = absurd (let z : ◌≡◌ {A = ℕ} 0 1 = cc in omega arith)
  passed_proved_lem (ok (says_proved ss)) e = (ss, refl, (given passed_proved passed_proved fails (proving (claim_system D) ss) e).0)
  passed_proved_lem (ok (says_refuted w)) e =
      let f : passed_refuted ≡ passed_proved = (given passed_refuted passed_proved fails (refuting (claim_system D) w) e).1 in
      absurd (let z : ◌≡◌ {A = ℕ} 0 1 = cc in omega arith)

  -- one that passes as refuted says refuted, and its word refutes
  passed_refuted_lem : (r : Result (Said D)) → afterwards r (passed_of D) ≡ ok passed_refuted
      → (w : Word) × (r ≡ ok (says_refuted w)) × (refuting (claim_system D) w ≡ true)
  unfolding passed_of passes
  passed_refuted_lem (refused r) e = absurd (let z : ◌≡◌ {A = ℕ} 0 1 = cc in omega arith)
  passed_refuted_lem (ok (says_proved ss)) e =
      let f : passed_proved ≡ passed_refuted = (given passed_proved passed_refuted fails (proving (claim_system D) ss) e).1 in
      absurd (let z : ◌≡◌ {A = ℕ} 0 1 = cc in omega arith)
  passed_refuted_lem (ok (says_refuted w)) e = (w, refl, (given passed_refuted passed_refuted fails (refuting (claim_system D) w) e).0)

-- a word that refutes, with declared relations, is a guarded one
module _ (S : System) (laws : Lawful S) (D : Decision) (fits : D.relations ≡ S.relations) where
  completing_is_guarded : (w : Word) (s : S.Standing) → InRange D w → completes S s w ≡ true → Guarded S.live S.relations w
  unfolding completes
  completing_is_guarded (end a) s h e = in_member a (laws.finals_live s a (member_in a (S.finals s) e))
  completing_is_guarded (at a r w) s (h, k, i) e =
      let L : Letter = record { atom = a; relation = r } in (
        and_left (member a S.live) (completes S (S.onward s L) w) e,
        omega arith,
        completing_is_guarded w (S.onward s L) i (and_right (member a S.live) (completes S (S.onward s L) w) e),
      )

  refuting_is_guarded : (w : Word) → InRange D w → refuting S w ≡ true → Guarded S.live S.relations w
  unfolding refuting
  refuting_is_guarded (end a) h e = in_member a (laws.alone_live a (member_in a S.alone e))
  refuting_is_guarded (at a r w) (h, k, i) e =
      let L : Letter = record { atom = a; relation = r } in (
        and_left (member a S.live) (completes S (S.begin L) w) e,
        omega arith,
        completing_is_guarded w (S.begin L) i (and_right (member a S.live) (completes S (S.begin L) w) e),
      )

module _ (D : Decision) (rising : Rising D.live) where
  -- a sheet that passes as proved: no word refutes
  pub passing_proved : (bs : List ℕ) → checked D bs ≡ ok passed_proved → (w : Word) → Refutes D w → ⊥
  unfolding checked
  passing_proved bs e w h =
      let (ss, r, p) = passed_proved_lem D (sheet_in D bs) e in
      let (g, t) = (refutes_by_standings D.ring D refl w).0 h in
      true_not_false t (passing_proved_refutes_none (claim_system D) (lawful D.ring D rising) ss p w g)

  -- a sheet that passes as refuted: the word that it holds refutes
  pub passing_refuted : (bs : List ℕ) → checked D bs ≡ ok passed_refuted → (w : Word) × SaysRefuted D bs w × Refutes D w
  unfolding checked
  passing_refuted bs e =
      let (w, r, p) = passed_refuted_lem D (sheet_in D bs) e in
      let (ns, n) = word_was_read D bs w r in
      let g : Guarded (claim_system D).live (claim_system D).relations w =
      refuting_is_guarded (claim_system D) (lawful D.ring D rising) D (same_relations D.ring D) w (word_in_range D ns w n) p
      in
      (w, r, (refutes_by_standings D.ring D refl w).1 (g, p))
