-- A decision within the limits: there is room for the leaves of both sides, and each side has few enough occurrences.
-- Assumes nothing.
use Prim.Native.Nat.{ℕ, ◌+◌, ◌≤◌}
use native.Mathlib.Omega.{arith}
use mathlib.Core.Path.{◌≡◌, refl, ap₂}
use mathlib.Core.Bool.{Bool, true, ◌&&◌}
use mathlib.Core.List.{List, [], ◌∷◌}
use lib.Dec.{leb}
use borrow.Author.Tests.{leb-true}
use Rattle.kat.specs.Tables.{occurrences}
use Rattle.kat.proofs.Bools.{and_left, and_right}
use Rattle.claims.specs.Tree.{Tree, Claim, includes, empty, irreflexive}
use Rattle.claims.specs.Query.{Query, assumed_empty, assumed_irreflexive}
use Rattle.claims.specs.Sides.{union_all, somewhere}
use Rattle.claims.specs.Width.{width}
use Rattle.claims.specs.Counting.{occurrences_of, leaves_of, total, size_of, with_anys, left_size, right_limit}
use Rattle.claims.proofs.Counts.{counted_occurrences, total_append}
use Rattle.claims.specs.Under.{of_lines, empty_under, irreflexive_under, decision_under, right_under, within_under}
use Rattle.side_claim.proofs.Sides.{leaves_left, leaves_beside, Roomy}

-- the sizes of a decision, each within its limit
pub record Fits (counts : ℕ → Bool) (q : Query) (c : Claim) : Type 0 where
  pub left_occurrences : (left_size q c).occurrences ≤ 64
  pub left_leaves : (left_size q c).leaves ≤ 512
  pub right_occurrences : (right_under counts q c).occurrences ≤ right_limit c
  pub right_leaves : (right_under counts q c).leaves ≤ 512
  pub own_leaves : total (leaves_of q) (of_lines counts assumed_irreflexive 0 q) ≤ 512

union_counted : (q : Query) (es : List Tree) → total (occurrences_of q) es ≡ occurrences (union_all q es)
union_counted q [] = refl
union_counted q (e ∷ es) = ap₂ ◌+◌ (counted_occurrences q e) (union_counted q es)

few_of_limit : (c : Claim) → right_limit c ≤ 64
unfolding right_limit width
few_of_limit (includes e f) = omega arith
few_of_limit (empty e) = omega arith
few_of_limit (irreflexive e) = omega arith

module _ (counts : ℕ → Bool) (q : Query) where
  pub within_fits : (c : Claim) → within_under counts q c ≡ true → Fits counts q c
  unfolding within_under size_of
  within_fits c w =
      let lo = leb (left_size q c).occurrences 64 in
      let ll = leb (left_size q c).leaves 512 in
      let ro = leb (right_under counts q c).occurrences (right_limit c) in
      let rl = leb (right_under counts q c).leaves 512 in
      let own = leb (total (leaves_of q) (of_lines counts assumed_irreflexive 0 q)) 512 in
      let sides = and_left ((lo && ll) && (ro && rl)) own w in
      let left = and_left (lo && ll) (ro && rl) sides in
      let right = and_right (lo && ll) (ro && rl) sides in
      record {
        left_occurrences = leb-true _ 64 (and_left lo ll left);
        left_leaves = leb-true _ 512 (and_right lo ll left);
        right_occurrences = leb-true _ (right_limit c) (and_left ro rl right);
        right_leaves = leb-true _ 512 (and_right ro rl right);
        own_leaves = leb-true _ 512 (and_right ((lo && ll) && (ro && rl)) own w);
      }

  -- room for the leaves
  left_room : (c : Claim) → (left_size q c).leaves ≤ 512 → leaves_left q c ≤ 520
  unfolding left_size size_of
  left_room (includes e f) h = omega arith
  left_room (empty e) h = omega arith
  left_room (irreflexive e) h = omega arith

  right_room : (c : Claim) → (right_under counts q c).leaves ≤ 512
      → leaves_beside q (of_lines counts assumed_irreflexive 0 q) c + total (leaves_of q) (of_lines counts assumed_empty 0 q) ≤ 520
  unfolding right_under with_anys size_of
  right_room (includes e f) h = omega arith
  right_room (empty e) h = omega arith
  right_room (irreflexive e) h =
      omega (arith, total_append (leaves_of q) (of_lines counts assumed_irreflexive 0 q) (of_lines counts assumed_empty 0 q))

  pub within_roomy : (c : Claim) → within_under counts q c ≡ true → Roomy q counts c
  within_roomy c w =
      let f = within_fits c w in
      record { left = left_room c f.left_leaves; right = right_room c f.right_leaves; own = omega (arith, f.own_leaves) }

  -- the occurrences of each side are those that are counted
  pub left_counted : (c : Claim) → (left_size q c).occurrences ≡ occurrences (decision_under counts q c).left
  unfolding left_size size_of decision_under
  left_counted (includes e f) = omega (arith, counted_occurrences q e)
  left_counted (empty e) = omega (arith, counted_occurrences q e)
  left_counted (irreflexive e) = omega (arith, counted_occurrences q e)

  pub right_counted : (c : Claim) → (right_under counts q c).occurrences ≡ occurrences (decision_under counts q c).right
  unfolding right_under size_of with_anys decision_under somewhere empty_under irreflexive_under
  right_counted (includes e f) = omega (arith, counted_occurrences q f, union_counted q (of_lines counts assumed_empty 0 q))
  right_counted (empty e) = omega (arith, union_counted q (of_lines counts assumed_empty 0 q))
  right_counted (irreflexive e) =
      let split = total_append (occurrences_of q) (of_lines counts assumed_irreflexive 0 q) (of_lines counts assumed_empty 0 q) in
      omega (arith, union_counted q (of_lines counts assumed_empty 0 q), union_counted q (of_lines counts assumed_irreflexive 0 q))

  -- few enough on each side
  pub left_few : (c : Claim) → within_under counts q c ≡ true → occurrences (decision_under counts q c).left ≤ 64
  left_few c w = omega (arith, left_counted c, (within_fits c w).left_occurrences)

  pub right_within : (c : Claim) → within_under counts q c ≡ true → occurrences (decision_under counts q c).right ≤ right_limit c
  right_within c w = omega (arith, right_counted c, (within_fits c w).right_occurrences)

  pub right_few : (c : Claim) → within_under counts q c ≡ true → occurrences (decision_under counts q c).right ≤ 64
  right_few c w = omega (arith, right_within c w, few_of_limit c)
