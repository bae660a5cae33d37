-- What `read` leaves on each of its ways out, and the theorem that it is what document 01's reading says: the answer, the codes and the
-- tables of the two sides.
-- Assumes nothing.
use Prim.Native.Nat.{ℕ, ◌^◌, ◌≤◌, min}
use native.Mathlib.Omega.{arith}
use mathlib.Core.Path.{◌≡◌, refl, sym, ◌∙◌, ap, ap₂, subst, subst⁻¹}
use mathlib.Core.Bool.{Bool, true, false, not}
use mathlib.Core.List.{List, []}
use lib.ListN.{length, take}
use Rattle.claims.specs.Tree.{Claim, includes, empty, irreflexive}
use Rattle.claims.specs.Query.{Query, tests, relations, atoms, live}
use Rattle.claims.specs.Sides.{decision}
use Rattle.claims.specs.Reading.{read}
use Rattle.claims.specs.Refusals.{over_limit, Result, ok, refused, refuse}
use Rattle.codes.specs.Codes.{query_codes}
use Rattle.refusals.specs.Causes.{cause_of}
use Rattle.read_text.specs.Reading.{readable, left_codes, summary_of, SaysSummary}
use Rattle.memory.specs.Memory.{zeros}
use Rattle.refusals.specs.declared.Reason.{Reason}
use Rattle.refusals.specs.declared.Refusal.{Refusal}
use Rattle.refusals.specs.declared.Reason.TheVariants.{OverLimit}
use Rattle.read_text.specs.declared.Summary.{Summary}
use Rattle.codes.proofs.Orderly.{settled_none, settled_on}
use Rattle.codes.proofs.Claimed.{Claimed}
use Rattle.side_build.specs.Built.{left_table, right_table, built_from}
use Rattle.side_build.specs.declared.Built.{Built}
use Rattle.side_build.proofs.Decided.{Decided, decided}
use Rattle.side_relations.proofs.Removed.{below_sixty_four}
use Rattle.query.specs.declared.Facts.{Facts}
use Rattle.std.specs.Prelude.{Result as Returned, Ok, Err}
use Rattle.query.specs.Answer.{Answer, facts_of, Says, claim_table, table_after, left_after, right_after}
use Rattle.query.specs.inner.Counted.{is_ring, facts_by, in_limits}
use Rattle.side_tables.specs.Layout.{TABLE}
use Rattle.query.proofs.Limits.{is_false, is_true}
use Rattle.query.proofs.Readings.{Accepts, accepts, taken_claimed, ring_told, read_within, read_over, read_refused}

-- a refusal
abbrev refusal : Reason → ℕ → Answer
refusal why p = Err (record { why = why; place = p })

-- the answer and every lent word are what the reading says
record Right (x : Result Query) (a : Answer) (codes left right : List ℕ) : Type 0 where
  pub answer : Says x a
  pub codes_left : codes ≡ left_codes x
  pub left_table_lem : left ≡ left_after x
  pub right_table_lem : right ≡ right_after x

-- a refusal of 1 to 7
refusal_right : (bs : List ℕ) (f : Refusal) (out l r : List ℕ) → SaysSummary (readable bs) (Err f)
    → out ≡ left_codes (readable bs) → l ≡ zeros TABLE → r ≡ zeros TABLE → Right (read bs) (Err f) out l r
unfolding table_after
refusal_right bs f out l r s w x y = go (readable bs) refl s w
  where
    go : (z : Result Query) → readable bs ≡ z → SaysSummary z (Err f) → out ≡ left_codes z → Right (read bs) (Err f) out l r
    go (ok q) e s w = absurd s
    go (refused v) e s w =
        subst⁻¹ (λ x. Right x (Err f) out l r) (read_refused bs v e)
        (record { answer = s; codes_left = w; left_table_lem = x; right_table_lem = y })

-- the decision of a claim has the atoms and relations of the query
decision_parts : (q : Query) (c : Claim)
    → ((decision q c).atoms ≡ atoms q) × ((decision q c).live ≡ live q) × ((decision q c).relations ≡ length (relations q))
unfolding decision
decision_parts q (includes e f) = (refl, refl, refl)
decision_parts q (empty e) = (refl, refl, refl)
decision_parts q (irreflexive e) = (refl, refl, refl)

-- a query within the limits
module _ (q : Query) (c : Claim) (h : Claimed q c) (D : Decided q c) where
  atoms_counted : min (2 ^ length (tests q)) 64 ≡ atoms q
  unfolding atoms
  atoms_counted =
      let few-tests = below_sixty_four (length (tests q)) (settled_on [] q h.lines settled_none).room.tests in
      omega arith

  facts_right : is_ring (summary_of q) ≡ (decision q c).ring
      → facts_by (summary_of q) (built_from (length (tests q)) (query_codes q)) ≡ facts_of (length (query_codes q)) (decision q c)
  unfolding facts_by facts_of summary_of
  facts_right e =
      let (x, y, z) = decision_parts q c in
      rw (facts_by, facts_of, D.left_count, D.right_count_lem, D.live_set_lem, atoms_counted, e, x, y, z) refl

-- what is left of the codes that were read
module _ (bs : List ℕ) (s : Summary) (out : List ℕ) (a : Accepts bs s out) (w : out ≡ left_codes (readable bs)) where
  abbrev q : Query
  q = a.query

  abbrev c : Claim
  c = a.taken.claim

  few : length (query_codes q) ≤ 4096
  unfolding summary_of
  few = omega (arith, ap (λ (k : Summary). k.codes) a.known, a.room)

  tests_told : s.tests ≡ length (tests q)
  unfolding summary_of
  tests_told = ap (λ (k : Summary). k.tests) a.known

  last_line : s.lines ≡ length q
  unfolding summary_of
  last_line = ap (λ (k : Summary). k.lines) a.known

  -- what was built of so many codes
  abbrev BuiltOf : List ℕ → Built → List ℕ → List ℕ → Type 0
  BuiltOf ks b l r = (b ≡ built_from s.tests ks) × (l ≡ left_table ks) × (r ≡ right_table ks)

  built_codes : take (min s.codes 4096) out ≡ query_codes q
  built_codes = let z : min s.codes 4096 ≡ s.codes = omega (arith, a.room) in ap (λ n. take n out) z ∙ a.codes

  within_right : in_limits s out ≡ true → (b : Built) (f : Facts) (l r : List ℕ) → BuiltOf (take (min s.codes 4096) out) b l r
      → f ≡ facts_by s b → Right (read bs) (Ok f) out l r
  unfolding table_after claim_table
  within_right t b f l r (x, y, z) e =
      let (isOk, inside) = read_within bs s out a t in
      let h = taken_claimed bs q a.taken in
      let D = decided q c h inside few in
      let same = built_codes in
      let made : b ≡ built_from (length (tests q)) (query_codes q) = x ∙ ap₂ built_from tests_told same in
      subst⁻¹ (λ v. Right v (Ok f) out l r) isOk
      (record {
        answer = (
          c,
          a.taken.found,
          e ∙ ap₂ facts_by a.known made
              ∙ facts_right q c h D (ap is_ring (sym a.known) ∙ ring_told bs s out a),
        );
        codes_left = w ∙ ap left_codes a.is_it;
        left_table_lem = y ∙ ap left_table same ∙ D.left_table_lem ∙ sym (ap (claim_table (λ d. d.left) q) a.taken.found);
        right_table_lem = z ∙ ap right_table same ∙ D.right_table_lem ∙ sym (ap (claim_table (λ d. d.right) q) a.taken.found);
      })

  over_right : in_limits s out ≡ false → (out' l r : List ℕ) → out' ≡ zeros 4096 → l ≡ zeros TABLE → r ≡ zeros TABLE
      → Right (read bs) (refusal OverLimit s.lines) out' l r
  unfolding table_after left_codes cause_of
  over_right t out' l r z y v =
      subst⁻¹ (λ x. Right x (refusal OverLimit s.lines) out' l r) (read_over bs s out a t)
      (record {
        answer = subst⁻¹ (Says (refuse over_limit (length q))) (ap (refusal OverLimit) last_line) (refl, refl);
        codes_left = z;
        left_table_lem = y;
        right_table_lem = v;
      })

-- what the contract of `read` says
abbrev pub ReadOutcome : Result Query → Answer → List ℕ → List ℕ → List ℕ → Type 0
ReadOutcome x a out l r = Says x a × (out ≡ left_codes x) × (l ≡ left_after x) × (r ≡ right_after x)

outcome : (x : Result Query) (a : Answer) (out l r : List ℕ) → Right x a out l r → ReadOutcome x a out l r
outcome x a out l r y = (y.answer, y.codes_left, y.left_table_lem, y.right_table_lem)

module _ (bs : List ℕ) (res : Returned Summary Refusal) (out : List ℕ) (said : SaysSummary (readable bs) res) (left_codes_lem : out ≡ left_codes (readable bs)) where
  -- a refusal of the reader
  pub refused_way : (f : Refusal) → res ≡ Err f → (l r : List ℕ) → l ≡ zeros TABLE → r ≡ zeros TABLE → ReadOutcome (read bs) (Err f) out l r
  refused_way f e l r x y =
      outcome (read bs) (Err f) out l r (refusal_right bs f out l r (subst (SaysSummary (readable bs)) e said) left_codes_lem x y)

  module _ (s : Summary) (e : res ≡ Ok s) (size : length out ≡ 4096) where
    accepted : Accepts bs s out
    accepted = accepts bs s out size (subst (SaysSummary (readable bs)) e said) left_codes_lem

    -- over the limits
    pub over_way : (b : Bool) → b ≡ in_limits s out → not b ≡ true → (out' l r : List ℕ) → out' ≡ zeros (length out) → l ≡ zeros TABLE → r ≡ zeros TABLE
        → ReadOutcome (read bs) (refusal OverLimit s.lines) out' l r
    over_way b t f out' l r x y z =
        outcome (read bs) (refusal OverLimit s.lines) out' l r
        (over_right bs s out accepted left_codes_lem (sym t ∙ is_false b f) out' l r (x ∙ ap zeros size) y z)

    -- within them
    pub within_way : (b : Bool) → b ≡ in_limits s out → not b ≡ false → (v : Built) (f : Facts) (l r : List ℕ)
        → (v ≡ built_from s.tests (take (min s.codes 4096) out)) × (l ≡ left_table (take (min s.codes 4096) out))
        × (r ≡ right_table (take (min s.codes 4096) out))
        → f ≡ facts_by s v → ReadOutcome (read bs) (Ok f) out l r
    within_way b t g v f l r x y =
        outcome (read bs) (Ok f) out l r (within_right bs s out accepted left_codes_lem (sym t ∙ is_true b g) v f l r x y)
