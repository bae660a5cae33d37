-- What an accepted query keeps to: the numbers of tests, relations, lets and occurrences that every later step may count on. Each
-- line was tested for one declaration too many, and the claim's two sides were counted (`Counts.antt`).
-- Assumes nothing.
use Prim.Native.Nat.{ℕ, ◌+◌, ◌^◌, ◌≤◌, ◌<◌}
use native.Mathlib.Nat.{pow-le-pow_right}
use native.Mathlib.Omega.{arith}
use mathlib.Core.Path.{◌≡◌, refl, sym, ◌∙◌, ap, subst}
use mathlib.Core.Bool.{Bool, true, false, ◌&&◌, true≢false}
use mathlib.Core.List.{List, [], ◌∷◌, ◌++◌, append-nil}
use mathlib.Core.Option.{some}
use lib.Dec.{leb}
use lib.ListN.{length, length-append}
use borrow.Author.Tests.{leb-true, leb-false}
use Rattle.kat.specs.Lists.{member, upto}
use Rattle.kat.specs.Tables.{occurrences}
use Rattle.kat.proofs.Sets.{member_in, filter_in, upto_in}
use Rattle.notation.specs.Bytes.{RawLine, raw_lines}
use Rattle.notation.specs.Tree.{Claim, includes, empty, irreflexive, Line, test_line, rel_line, let_line, never_line, within_line, closed_line, assume_empty, assume_irreflexive, claim_line}
use Rattle.notation.specs.Query.{Query, each, test_names, relation_names, lets, tests, relations, atoms, live}
use Rattle.notation.specs.Counting.{left_size, right_size, right_limit, within_limits}
use Rattle.notation.specs.Reading.{crowded, claim_of, read}
use Rattle.notation.specs.Refusals.{ok}
use Rattle.notation.specs.Sides.{Decision, decision}
use Rattle.notation.specs.Width.{width}
use Rattle.claims.specs.Calls.{Asked, asked}
use Rattle.notation.specs.RefusalOrder.{Taken, Accepted}
use Rattle.notation.proofs.Results.{each_append}
use Rattle.notation.proofs.Precedence.{read_accepts}
use Rattle.claims.proofs.SearchOrder.{asked_only_accepted}
use Rattle.notation.proofs.Counts.{counted_left, counted_right}

-- declarations: 6 tests, 16 relations and 32 lets
pub record Declared (q : Query) : Type 0 where
  pub tests : length (tests q) ≤ 6
  pub relations : length (relations q) ≤ 16
  pub lets : length (each lets q) ≤ 32

each_more : {A : Type 0} (f : Line → List A) (q : Query) (x : Line) → length (each f (q ++ (x ∷ []))) ≡ length (each f q) + length (f x)
each_more f q x =
    ap length (each_append f q (x ∷ []) ∙ ap (λ l. each f q ++ l) (append-nil (f x))) ∙ length-append (each f q) (f x)

pub nothing_declared : Declared []
unfolding tests relations
nothing_declared = record { tests = omega arith; relations = omega arith; lets = omega arith }

-- a line that is not one too many
line_fits : (q : Query) (x : Line) → crowded q x ≡ false → Declared q
    → (length (each test_names q) + length (test_names x) ≤ 6)
    × (length (each relation_names q) + length (relation_names x) ≤ 16)
    × (length (each lets q) + length (lets x) ≤ 32)
unfolding crowded test_names relation_names lets tests relations
line_fits q (test_line n) e d = let h = leb-false 6 (length (tests q)) e in (omega arith, omega arith, omega arith)
line_fits q (rel_line n) e d = let h = leb-false 16 (length (relations q)) e in (omega arith, omega arith, omega arith)
line_fits q (let_line n t) e d = let h = leb-false 32 (length (each lets q)) e in (omega arith, omega arith, omega arith)
line_fits q (never_line t) e d = (omega arith, omega arith, omega arith)
line_fits q (within_line n t u) e d = (omega arith, omega arith, omega arith)
line_fits q (closed_line n) e d = (omega arith, omega arith, omega arith)
line_fits q (assume_empty t) e d = (omega arith, omega arith, omega arith)
line_fits q (assume_irreflexive t) e d = (omega arith, omega arith, omega arith)
line_fits q (claim_line c) e d = (omega arith, omega arith, omega arith)

pub declared_more : (q : Query) (x : Line) → crowded q x ≡ false → Declared q → Declared (q ++ (x ∷ []))
unfolding tests relations
declared_more q x e d =
    let (h, k, l) = line_fits q x e d in
    record { tests = rw each_more h; relations = rw each_more k; lets = rw each_more l }

-- from declarations within the limits on, the lines that are taken keep to them
taken_declared : (ls : List RawLine) (q p : Query) → Taken q ls p → Declared q → Declared p
taken_declared [] q p e d = subst Declared e d
taken_declared (l ∷ ls) q p (x, t, ts) d = taken_declared ls (q ++ (x ∷ [])) p ts (declared_more q x t.room_for_it d)

pub read_within : (bs : List ℕ) {q : Query} → read bs ≡ ok q → Declared q × (c : Claim) × (claim_of q ≡ some c) × (within_limits q c ≡ true)
read_within bs {q} e =
    let a : Accepted bs q = (read_accepts bs q).0 e in
    (taken_declared (raw_lines bs) [] q a.every_line_taken nothing_declared, a.claim, a.claimed, a.within_the_limits)

-- what is asked is what was read, with its claim
pub asked_read : (bs : List ℕ) {a : Asked} → asked bs ≡ ok a
    → (read bs ≡ ok a.query) × (claim_of a.query ≡ some a.claim) × (a.decided ≡ decision a.query a.claim)
asked_read bs {a} e =
    let (q, b, z) = asked_only_accepted bs a e in
    subst (λ x. (read bs ≡ ok x.query) × (claim_of x.query ≡ some x.claim) × (x.decided ≡ decision x.query x.claim))
    (sym z) ((read_accepts bs q).1 b, b.claimed, refl)

-- what the decision of an accepted query keeps to
pub record WithinLimits (D : Decision) : Type 0 where
  pub left : occurrences D.left ≤ 64
  pub right : occurrences D.right ≤ 64
  pub ring_right : D.ring ≡ true → occurrences D.right ≤ 31
  pub atoms : D.atoms ≤ 64
  pub relations : D.relations ≤ 16
  pub live : (a : ℕ) → member a D.live ≡ true → a < D.atoms

first_and_third : (a b c d e : Bool) → ((a && b) && (c && d) && e) ≡ true → (a ≡ true) × (c ≡ true)
first_and_third true true true d e h = (refl, refl)
first_and_third true true false d e h = absurd (true≢false (sym h))
first_and_third true false c d e h = absurd (true≢false (sym h))
first_and_third false b c d e h = absurd (true≢false (sym h))

within_sides : (q : Query) (c : Claim) → within_limits q c ≡ true
    → (occurrences (decision q c).left ≤ 64) × (occurrences (decision q c).right ≤ right_limit c)
unfolding within_limits
within_sides q c e =
    let (h, k) = first_and_third (leb (left_size q c).occurrences 64) _ (leb (right_size q c).occurrences (right_limit c)) _ _ e in
    let l = leb-true (left_size q c).occurrences 64 h in
    let r = leb-true (right_size q c).occurrences (right_limit c) k in
    (omega (arith, counted_left q c), omega (arith, counted_right q c))

limit_of_right : (q : Query) (c : Claim) → (right_limit c ≤ 64) × ((decision q c).ring ≡ true → right_limit c ≤ 31)
unfolding right_limit decision width
limit_of_right q (includes e f) = (omega arith, λ h. absurd (true≢false (sym h)))
limit_of_right q (empty e) = (omega arith, λ h. absurd (true≢false (sym h)))
limit_of_right q (irreflexive e) = (omega arith, λ h. omega arith)

-- the numbers of atoms and relations do not depend on the claim
decision_shared : (q : Query) (c : Claim)
    → ((decision q c).atoms ≡ atoms q) × ((decision q c).live ≡ live q) × ((decision q c).relations ≡ length (relations q))
unfolding decision
decision_shared q (includes e f) = (refl, refl, refl)
decision_shared q (empty e) = (refl, refl, refl)
decision_shared q (irreflexive e) = (refl, refl, refl)

pub live_below : (q : Query) (a : ℕ) → member a (live q) ≡ true → a < atoms q
unfolding live
live_below q a h =
    let (i, t) = filter_in _ (upto 0 (atoms q)) (member_in a (live q) h) in
    let (l, u) = upto_in a 0 (atoms q) i in
    u

atoms_few : (q : Query) → Declared q → atoms q ≤ 64
unfolding atoms
atoms_few q d =
    let h : 2 ^ length (tests q) ≤ 2 ^ 6 = pow-le-pow_right (omega arith) {i = length (tests q)} {j = 6} d.tests in
    omega arith

pub decision_within_limits : (q : Query) (c : Claim) → Declared q → within_limits q c ≡ true → WithinLimits (decision q c)
decision_within_limits q c d w =
    let (l, r) = within_sides q c w in
    let (m, g) = limit_of_right q c in
    let (a, v, n) = decision_shared q c in
    let few = atoms_few q d in
    record {
      left = l;
      right = omega arith;
      ring_right = λ h. let k = g h in omega arith;
      atoms = omega arith;
      relations = omega (arith, d.relations);
      live = λ x h. rw a (live_below q x (rw (← v) h));
    }

pub asked_within_limits : (bs : List ℕ) {a : Asked} → asked bs ≡ ok a → WithinLimits a.decided
asked_within_limits bs {a} e =
    let (r, c, z) = asked_read bs e in
    let (d, c', h, w) = read_within bs r in
    let same : c' ≡ a.claim = cc in
    rw z (decision_within_limits a.query a.claim d (subst (λ x. within_limits a.query x ≡ true) same w))
