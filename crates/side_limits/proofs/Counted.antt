-- What is counted of a decision by the places of its expressions is what document 01 counts of its two sides, under the assumptions of the lines that
-- are not left out; and the test of refusal 8 on the numbers up to 1,000 is the test of the limits. Where it holds, no number was cut off.
-- Assumes nothing.
use Prim.Native.Nat.{ℕ, ◌+◌, ◌/◌, ◌%◌, ◌≤◌}
use native.Mathlib.Omega.{arith}
use mathlib.Core.Path.{◌≡◌, refl, ◌∙◌, ap, ap₂, fun_ext}
use mathlib.Core.Bool.{Bool, true, false, cond, not, ◌&&◌}
use mathlib.Core.List.{List, []}
use lib.Dec.{eqb, leb}
use lib.ListN.{length, get_or, drop}
use lib.Seq.{get_or-drop}
use borrow.Author.Tests.{leb-true, le-leb}
use Rattle.kat.proofs.Bools.{bool_ext}
use Rattle.claims.specs.Tree.{Tree, Claim, includes, empty, irreflexive}
use Rattle.claims.specs.Query.{Query, assumed_empty, assumed_irreflexive, bit}
use Rattle.claims.specs.Expanded.{stands_for, count_expanded}
use Rattle.claims.specs.Counting.{total, occurrences_of, leaves_of, size_of, with_anys, left_size, right_limit, within_limits}
use Rattle.claims.specs.Width.{width}
use Rattle.claims.proofs.Counts.{total_append}
use Rattle.codes.specs.Codes.{query_codes}
use Rattle.codes.proofs.Orderly.{Orderly}
use Rattle.codes.proofs.Claimed.{Claimed}
use Rattle.bits.proofs.Bit.{bit_none}
use Rattle.side_items.specs.Items.{starts_of}
use Rattle.side_items.proofs.Placed.{Placed, PlacedAll}
use Rattle.side_runs.specs.Program.{counts_from, counts_in}
use Rattle.side_claim.specs.Sides.{claimed, is_ring}
use Rattle.claims.specs.Under.{of_lines, decision_under, right_under, within_under}
use Rattle.side_claim.specs.declared.Decision.{Decision}
use Rattle.side_claim.proofs.Endings.{empty_placed, irreflexive_placed}
use Rattle.side_claim.proofs.Sides.{Stands}
use Rattle.side_claim.proofs.Claims.{claim_stands}
use Rattle.claims.proofs.Under.{within_all}
use Rattle.side_limits.specs.declared.Sizes.{Sizes}
use Rattle.side_limits.specs.Tally.{capped, weight, relation_count, let_counts, code_count}
use Rattle.side_limits.specs.Places.{count_at, count_all, not_out, count_kind}
use Rattle.side_limits.specs.Sizes.{beside, right_of, right_count, exact_sizes, capped_size, capped_sizes, sizes_of, within_test}
use Rattle.side_limits.proofs.Environment.{over}
use Rattle.side_limits.proofs.Within.{relation_occurrence, relation_leaves}
use Rattle.side_limits.proofs.PlacedCounts.{placed_counts, all_placed}
use Rattle.side_limits.proofs.Test.{within_bounds, right_few}

-- where a bracketed test counts t, every expression counts at its place what g says
record Counts (q : Query) (t : ℕ) (g : Tree → ℕ) : Type 0 where
  one : (e : Tree) (from : ℕ) → Placed q e from → count_at (code_count t (query_codes q)) (query_codes q) from ≡ g e
  several : (es : List Tree) (ss : List ℕ) → PlacedAll q es ss → count_all (code_count t (query_codes q)) (query_codes q) ss ≡ total g es

occurrences_counted : (q : Query) → Orderly [] q → Counts q 0 (occurrences_of q)
unfolding code_count let_counts occurrences_of over
occurrences_counted q o =
    record {
      one = placed_counts q 0 (λ n. count_expanded 0 (stands_for q n)) (relation_count 0 (query_codes q)) (λ n h. relation_occurrence q n) o;
      several = all_placed q 0 (λ n. count_expanded 0 (stands_for q n)) (relation_count 0 (query_codes q)) (λ n h. relation_occurrence q n) o;
    }

leaves_counted : (q : Query) → Orderly [] q → Counts q 1 (leaves_of q)
unfolding code_count let_counts leaves_of over
leaves_counted q o =
    record {
      one = placed_counts q 1 (λ n. count_expanded 1 (stands_for q n)) (relation_count 1 (query_codes q)) (relation_leaves q o) o;
      several = all_placed q 1 (λ n. count_expanded 1 (stands_for q n)) (relation_count 1 (query_codes q)) (relation_leaves q o) o;
    }

module _ (q : Query) (c : Claim) (h : Claimed q c) (out : List ℕ) where
  abbrev ks : List ℕ
  ks = query_codes q

  -- the assumptions that count
  abbrev assumed0 : List Tree
  assumed0 = of_lines (not_out out) assumed_empty 0 q

  abbrev assumed1 : List Tree
  assumed1 = of_lines (not_out out) assumed_irreflexive 0 q

  module _ (t : ℕ) (g : Tree → ℕ) (x : Counts q t g) where
    abbrev f : ℕ → ℕ
    f = code_count t ks

    a0_counts : count_kind f ks out 133 ≡ total g assumed0
    unfolding count_kind
    a0_counts = x.several assumed0 (starts_of (not_out out) 133 ks) (empty_placed (not_out out) q c h)

    a1_counts : count_kind f ks out 134 ≡ total g assumed1
    unfolding count_kind
    a1_counts = x.several assumed1 (starts_of (not_out out) 134 ks) (irreflexive_placed (not_out out) q c h)

    -- the right side of each kind of claim
    include_counts : (e y : Tree) (d : Decision) → Stands q (includes e y) d → right_count f ks out d ≡ g y + total g assumed0 + (2 + t)
    unfolding right_count right_of beside is_ring code_count weight
    include_counts e y d (k, s, r) = rw (k) (omega (arith, x.one y d.right r, a0_counts))

    empty_counts : (e : Tree) (d : Decision) → Stands q (empty e) d → right_count f ks out d ≡ t + total g assumed0 + (2 + t)
    unfolding right_count right_of beside is_ring code_count weight
    empty_counts e d (k, s) = rw (k) (omega (arith, a0_counts))

    ring_counts : (e : Tree) (d : Decision) → Stands q (irreflexive e) d → right_count f ks out d ≡ total g assumed1 + total g assumed0 + 2
    unfolding right_count right_of beside is_ring code_count weight
    ring_counts e d (k, s) = rw (k) (omega (arith, a0_counts, a1_counts))

  -- both counts
  abbrev o : Counts q 0 (occurrences_of q)
  o = occurrences_counted q h.lines

  abbrev l : Counts q 1 (leaves_of q)
  l = leaves_counted q h.lines

  module _ (d : Decision) where
    left_size_lem : (x : Claim) → Stands q x d
        → (count_at (code_count 0 ks) ks d.left ≡ (left_size q x).occurrences) × (count_at (code_count 1 ks) ks d.left ≡ (left_size q x).leaves)
    unfolding left_size size_of
    left_size_lem (includes e f) (k, s, t) = (omega (arith, o.one e d.left s), omega (arith, l.one e d.left s))
    left_size_lem (empty e) (k, s) = (omega (arith, o.one e d.left s), omega (arith, l.one e d.left s))
    left_size_lem (irreflexive e) (k, s) = (omega (arith, o.one e d.left s), omega (arith, l.one e d.left s))

    right_size_lem : (x : Claim) → Stands q x d
        → (right_count (code_count 0 ks) ks out d ≡ (right_under (not_out out) q x).occurrences)
        × (right_count (code_count 1 ks) ks out d ≡ (right_under (not_out out) q x).leaves)
    unfolding right_under with_anys size_of
    right_size_lem (includes e f) s = (
      omega (arith, include_counts 0 (occurrences_of q) o e f d s),
      omega (arith, include_counts 1 (leaves_of q) l e f d s),
    )
    right_size_lem (empty e) s = (omega (arith, empty_counts 0 (occurrences_of q) o e d s), omega (arith, empty_counts 1 (leaves_of q) l e d s))
    right_size_lem (irreflexive e) s = (
      omega (arith, ring_counts 0 (occurrences_of q) o e d s, total_append (occurrences_of q) assumed1 assumed0),
      omega (arith, ring_counts 1 (leaves_of q) l e d s, total_append (leaves_of q) assumed1 assumed0),
    )

-- the numbers of a decision's sides
pub record Exactly (counts : ℕ → Bool) (q : Query) (x : Claim) (s : Sizes) : Type 0 where
  pub ring : s.ring ≡ (decision_under counts q x).ring
  pub left_occurrences : s.left.occurrences ≡ (left_size q x).occurrences
  pub left_leaves : s.left.leaves ≡ (left_size q x).leaves
  pub right_occurrences : s.right.occurrences ≡ (right_under counts q x).occurrences
  pub right_leaves : s.right.leaves ≡ (right_under counts q x).leaves
  pub own_leaves : s.own ≡ (size_of q (of_lines counts assumed_irreflexive 0 q)).leaves

ring_told : (counts : ℕ → Bool) (q : Query) (x : Claim) (d : Decision) → Stands q x d → is_ring d ≡ (decision_under counts q x).ring
unfolding is_ring decision_under
ring_told counts q (includes e f) d (k, s, t) = ap (λ n. eqb n 138) k
ring_told counts q (empty e) d (k, s) = ap (λ n. eqb n 138) k
ring_told counts q (irreflexive e) d (k, s) = ap (λ n. eqb n 138) k

-- what is counted by the places is what the document counts
pub exact_sizes_lem : (q : Query) (c : Claim) → Claimed q c → (out : List ℕ) (x : Claim) (d : Decision) → Stands q x d
    → Exactly (not_out out) q x (exact_sizes out d (query_codes q))
unfolding exact_sizes size_of
exact_sizes_lem q c h out x d s =
    let (lo, ll) = left_size_lem q c h out d x s in
    let (ro, rl) = right_size_lem q c h out d x s in
    record {
      ring = ring_told (not_out out) q x d s;
      left_occurrences = lo;
      left_leaves = ll;
      right_occurrences = ro;
      right_leaves = rl;
      own_leaves = a1_counts q c h out 1 (leaves_of q) (leaves_counted q h.lines);
    }

-- numbers up to 1,000 pass a limit below where the numbers do
leb_capped : (m n : ℕ) → n ≤ 999 → leb (capped m) n ≡ leb m n
leb_capped m n h =
    bool_ext (leb (capped m) n) (leb m n)
    (λ e. le-leb m n (omega (arith, leb-true (capped m) n e)))
    (λ e. le-leb (capped m) n (omega (arith, leb-true m n e)))

right_capped : (m : ℕ) (b : Bool) → leb (capped m) (cond b 31 64) ≡ leb m (cond b 31 64)
right_capped m true = leb_capped m 31 (omega arith)
right_capped m false = leb_capped m 64 (omega arith)

pub test_capped : (s : Sizes) → within_test (capped_sizes s) ≡ within_test s
unfolding within_test capped_sizes capped_size
test_capped s =
    ap₂ ◌&&◌
    (ap₂ ◌&&◌
    (ap₂ ◌&&◌ (leb_capped s.left.occurrences 64 (omega arith)) (leb_capped s.left.leaves 512 (omega arith)))
    (ap₂ ◌&&◌ (right_capped s.right.occurrences s.ring) (leb_capped s.right.leaves 512 (omega arith))))
    (leb_capped s.own 512 (omega arith))

module _ (counts : ℕ → Bool) (q : Query) where
  limit_of_ring : (x : Claim) → cond (decision_under counts q x).ring 31 64 ≡ right_limit x
  unfolding decision_under right_limit width
  limit_of_ring (includes e f) = refl
  limit_of_ring (empty e) = refl
  limit_of_ring (irreflexive e) = refl

  test_exact : (x : Claim) (s : Sizes) → Exactly counts q x s → within_test s ≡ within_under counts q x
  unfolding within_test within_under
  test_exact x s e =
      ap₂ ◌&&◌
      (ap₂ ◌&&◌
      (ap₂ ◌&&◌ (ap (λ n. leb n 64) e.left_occurrences) (ap (λ n. leb n 512) e.left_leaves))
      (ap₂ ◌&&◌ (ap₂ leb e.right_occurrences (ap (λ b. cond b 31 64) e.ring ∙ limit_of_ring x)) (ap (λ n. leb n 512) e.right_leaves)))
      (ap (λ n. leb n 512) e.own_leaves)

-- each number is the document's, up to 1,000
pub record UpTo1000 (counts : ℕ → Bool) (q : Query) (x : Claim) (s : Sizes) : Type 0 where
  pub ring : s.ring ≡ (decision_under counts q x).ring
  pub left_occurrences : s.left.occurrences ≡ capped (left_size q x).occurrences
  pub left_leaves : s.left.leaves ≡ capped (left_size q x).leaves
  pub right_occurrences : s.right.occurrences ≡ capped (right_under counts q x).occurrences
  pub right_leaves : s.right.leaves ≡ capped (right_under counts q x).leaves
  pub own_leaves : s.own ≡ capped (size_of q (of_lines counts assumed_irreflexive 0 q)).leaves

-- a decision of an accepted query: a claim whose expressions stand at its places, under the lines that are not left out
module _ (q : Query) (c : Claim) (h : Claimed q c) (out : List ℕ) (x : Claim) (d : Decision) (s : Stands q x d) where
  -- the test on the numbers up to 1,000 is the test of the limits
  pub within_is_under : within_test (sizes_of out d (query_codes q)) ≡ within_under (not_out out) q x
  unfolding sizes_of
  within_is_under =
      test_capped (exact_sizes out d (query_codes q)) ∙ test_exact (not_out out) q x (exact_sizes out d (query_codes q)) (exact_sizes_lem q c h out x d s)

  pub sizes_up_to_1000 : UpTo1000 (not_out out) q x (sizes_of out d (query_codes q))
  unfolding sizes_of capped_sizes capped_size
  sizes_up_to_1000 =
      let e = exact_sizes_lem q c h out x d s in
      record {
        ring = e.ring;
        left_occurrences = ap capped e.left_occurrences;
        left_leaves = ap capped e.left_leaves;
        right_occurrences = ap capped e.right_occurrences;
        right_leaves = ap capped e.right_leaves;
        own_leaves = ap capped e.own_leaves;
      }

  -- within the limits no number was cut off: each is the document's
  pub exact_within : within_test (sizes_of out d (query_codes q)) ≡ true → Exactly (not_out out) q x (sizes_of out d (query_codes q))
  unfolding sizes_of capped_sizes capped_size
  exact_within w =
      let e = exact_sizes_lem q c h out x d s in
      let z = exact_sizes out d (query_codes q) in
      let b = within_bounds (sizes_of out d (query_codes q)) w in
      let few = right_few z.ring in
      let whole : (m : ℕ) → capped m ≤ 512 → capped m ≡ m = λ m l. omega arith in
      record {
        ring = e.ring;
        left_occurrences = whole z.left.occurrences (omega (arith, b.left_occurrences)) ∙ e.left_occurrences;
        left_leaves = whole z.left.leaves b.left_leaves ∙ e.left_leaves;
        right_occurrences = whole z.right.occurrences (omega (arith, b.right_occurrences)) ∙ e.right_occurrences;
        right_leaves = whole z.right.leaves b.right_leaves ∙ e.right_leaves;
        own_leaves = whole z.own b.own_leaves ∙ e.own_leaves;
      }

-- in a program the set of the lines left out stands behind what the codes need and the sets of the relations
counts_behind : (ks ns : List ℕ) → not_out (drop (length ks + 48) ns) ≡ counts_in ks ns
unfolding not_out counts_in counts_from
counts_behind ks ns =
    fun_ext (λ l.
    let z : 0 + l / 64 ≡ l / 64 = omega arith in
    ap (λ w. not (bit (l % 64) w)) (ap (λ i. get_or (drop (length ks + 48) ns) i 0) z ∙ get_or-drop (length ks + 48) ns (l / 64) 0))

pub within_is_in_program : (q : Query) (c : Claim) → Claimed q c → (ns : List ℕ) (x : Claim) (d : Decision) → Stands q x d
    → within_test (sizes_of (drop (length (query_codes q) + 48) ns) d (query_codes q)) ≡ within_under (counts_in (query_codes q) ns) q x
within_is_in_program q c h ns x d s =
    within_is_under q c h (drop (length (query_codes q) + 48) ns) x d s ∙ ap (λ f. within_under f q x) (counts_behind (query_codes q) ns)

-- the claim of the query, where no line is left out
none_out : (l : ℕ) → not_out [] l ≡ true
unfolding not_out counts_from
none_out l = ap not (bit_none (l % 64))

pub within_is_within : (q : Query) (c : Claim) → Claimed q c → within_test (sizes_of [] (claimed (query_codes q)) (query_codes q)) ≡ within_limits q c
within_is_within q c h = within_is_under q c h [] c (claimed (query_codes q)) (claim_stands q c h) ∙ within_all (not_out []) none_out q c
