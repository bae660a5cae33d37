-- What is built from a program of a query is what document 01 says, for any decision: the table of each side, and the number of its occurrences,
-- where the claimed expressions stand in the query, some of its assumptions count, and the decision is within the limits of document 01.
-- Assumes nothing.
use Prim.Native.Nat.{ℕ, ◌≤◌}
use mathlib.Core.Path.{◌≡◌}
use mathlib.Core.Bool.{true}
use Rattle.kat.specs.Tables.{occurrences}
use Rattle.claims.specs.Tree.{Claim}
use Rattle.claims.specs.Query.{Query}
use Rattle.claims.specs.Sides.{Decision as Sides}
use Rattle.codes.specs.Codes.{query_codes}
use Rattle.codes.proofs.Claimed.{Claimed}
use Rattle.side_tables.specs.SideTable.{side_table}
use Rattle.side_parts.proofs.BuiltAlone.{built_alone}
use Rattle.side_runs.specs.Program.{counts_in}
use Rattle.claims.specs.Under.{decision_under, within_under}
use Rattle.side_claim.specs.declared.Decision.{Decision}
use Rattle.side_claim.proofs.Sides.{Stands, Roomy, Prepared, left_builds, right_builds}
use Rattle.side_claim.proofs.Limits.{within_roomy, left_few, right_few}
use Rattle.side_build.specs.Built.{left_of, right_of, counted_in}
use mathlib.Core.List.{List}

-- the tables and counts of the sides D are built for the decision d from the codes and what they need
pub record BuiltAs (ks ns : List ℕ) (d : Decision) (D : Sides) : Type 0 where
  pub left_table_lem : left_of ks ns d ≡ side_table D.left
  pub right_table_lem : right_of ks ns d ≡ side_table D.right
  pub left_count : (counted_in ks ns d).left ≡ occurrences D.left
  pub right_count_lem : (counted_in ks ns d).right ≡ occurrences D.right

-- with room for the leaves, and few enough occurrences
pub any_built : (q : Query) (c : Claim) → Claimed q c → (ns : List ℕ) → Prepared q ns → (x : Claim) (d : Decision) → Stands q x d
    → Roomy q (counts_in (query_codes q) ns) x
    → occurrences (decision_under (counts_in (query_codes q) ns) q x).left ≤ 64
    → occurrences (decision_under (counts_in (query_codes q) ns) q x).right ≤ 64
    → BuiltAs (query_codes q) ns d (decision_under (counts_in (query_codes q) ns) q x)
unfolding left_of right_of counted_in
any_built q c h ns p x d s few l r =
    let (lc, lt) = built_alone (left_builds q c h ns p x d s few) l in
    let (rc, rt) = built_alone (right_builds q c h ns p x d s few) r in
    record { left_table_lem = lt; right_table_lem = rt; left_count = lc; right_count_lem = rc }

-- within the limits of document 01 there is room, and there are few enough
pub within_built : (q : Query) (c : Claim) → Claimed q c → (ns : List ℕ) → Prepared q ns → (x : Claim) (d : Decision) → Stands q x d
    → within_under (counts_in (query_codes q) ns) q x ≡ true
    → BuiltAs (query_codes q) ns d (decision_under (counts_in (query_codes q) ns) q x)
within_built q c h ns p x d s w =
    let counts = counts_in (query_codes q) ns in
    any_built q c h ns p x d s (within_roomy counts q x w) (left_few counts q x w) (right_few counts q x w)
