-- The two sides of any decision of a query are built: the claimed expressions, the unions of the assumed ones that count, and any*;e;any* around
-- them. The stack has room for all parts, since a side has no more than 512 leaves. The set of the length-0 words of a1 is that of the parts
-- built for it.
-- Assumes nothing.
use Prim.Native.Nat.{ℕ, zero, suc, ◌+◌, ◌≤◌}
use native.Mathlib.Omega.{arith}
use mathlib.Core.Path.{◌≡◌, refl, sym, ◌∙◌, ap, subst}
use mathlib.Core.Bool.{Bool, true, false}
use mathlib.Core.List.{List, [], ◌∷◌}
use lib.Dec.{eqb}
use lib.ListN.{length}
use borrow.Author.Tests.{lt-ltb}
use Rattle.kat.specs.Expr.{Expr, test, alt, any, none as nowhere, star as starred}
use Rattle.kat.specs.Tables.{null}
use Rattle.claims.specs.Tree.{Tree, Claim, includes, empty, irreflexive}
use Rattle.claims.specs.Query.{Query, assumed_empty, assumed_irreflexive}
use Rattle.claims.specs.Sides.{side, union_all, somewhere}
use Rattle.claims.specs.Counting.{leaves_of, total}
use Rattle.codes.specs.Codes.{query_codes}
use Rattle.codes.proofs.Claimed.{Claimed}
use Rattle.bits.proofs.Bit.{bit_ones}
use Rattle.side_atoms.specs.Atoms.{atoms_of, all_atoms}
use Rattle.side_atoms.proofs.Atoms.{atoms_none, atoms_all}
use Rattle.side_atoms.proofs.Singles.{any_single}
use Rattle.side_parts.specs.Machine.{Machine, united, any_star, nothing_built}
use Rattle.side_items.specs.Items.{items_of, starts_of}
use Rattle.side_items.proofs.Placed.{Placed, PlacedAll, Limited}
use Rattle.side_runs.specs.Program.{items_in, sets_in, counts_in}
use Rattle.side_runs.specs.Execution.{execute, execute_at, execute_all, united_times, execute_union}
use Rattle.side_runs.proofs.Executed.{placed_builds}
use Rattle.side_parts.proofs.Builds.{Built, Builds}
use Rattle.side_parts.proofs.BuildsLeaves.{builds_more, builds_same, builds_given, builds_fresh}
use Rattle.side_parts.proofs.BuildsJoined.{builds_union, builds_sequence}
use Rattle.side_parts.proofs.BuildsIterated.{builds_star}
use Rattle.side_parts.proofs.BuiltAlone.{builds_on_nothing, built_null}
use Rattle.side_claim.specs.Sides.{is_ring, placed, assumed, zero_set, zero_for, between, around, left_machine, besides, right_machine}
use Rattle.claims.specs.Under.{of_lines, empty_under, irreflexive_under, decision_under}
use Rattle.side_claim.specs.declared.Decision.{Decision}
use Rattle.side_claim.proofs.Endings.{empty_placed, irreflexive_placed}

-- two parts united first or last
united_last : (n : ℕ) (m : Machine) → united_times n (united m) ≡ united (united_times n m)
unfolding united_times
united_last zero m = refl
united_last (suc n) m = united_last n (united m)

-- any*
any_star_builds : Builds 1 any_star (starred any)
unfolding any_star
any_star_builds =
    builds_same (λ m. refl)
    (builds_star
    (builds_fresh any (λ a. true) (λ a. true) (λ a. false) (λ r. true) any_single all_atoms all_atoms 0 65535 atoms_all atoms_all atoms_none
    (λ r h. bit_ones r 16 ∙ lt-ltb r 16 h)))

-- a claim whose expressions stand in the query at the places of a decision
abbrev pub Stands : Query → Claim → Decision → Type 0
Stands q (includes e f) d = (d.kind ≡ 136) × Placed q e d.left × Placed q f d.right
Stands q (empty e) d = (d.kind ≡ 137) × Placed q e d.left
Stands q (irreflexive e) d = (d.kind ≡ 138) × Placed q e d.left

-- no more leaves than the stack has room for
abbrev pub leaves_left : Query → Claim → ℕ
leaves_left q (includes e f) = leaves_of q e
leaves_left q (empty e) = leaves_of q e
leaves_left q (irreflexive e) = leaves_of q e

abbrev pub leaves_beside : Query → List Tree → Claim → ℕ
leaves_beside q es (includes e f) = leaves_of q f
leaves_beside q es (empty e) = 1
leaves_beside q es (irreflexive e) = total (leaves_of q) es + 1

pub record Roomy (q : Query) (counts : ℕ → Bool) (c : Claim) : Type 0 where
  pub left : leaves_left q c ≤ 520
  pub right : leaves_beside q (of_lines counts assumed_irreflexive 0 q) c + total (leaves_of q) (of_lines counts assumed_empty 0 q) ≤ 520
  pub own : total (leaves_of q) (of_lines counts assumed_irreflexive 0 q) ≤ 520

-- a program of a query: its codes with what they need, and the sets of its relations
pub record Prepared (q : Query) (ns : List ℕ) : Type 0 where
  pub items : items_in (query_codes q) ns ≡ items_of (query_codes q)
  pub sets : Limited q (sets_in (query_codes q) ns)
  pub fits : length (query_codes q) ≤ 4096

module _ (q : Query) (c : Claim) (h : Claimed q c) (ns : List ℕ) (p : Prepared q ns) where
  abbrev ks : List ℕ
  ks = query_codes q

  abbrev counts : ℕ → Bool
  counts = counts_in ks ns

  -- an expression from where it stands
  stands_builds : (e : Tree) (s : ℕ) → Placed q e s → Builds (leaves_of q e) (placed ks ns s) (side q e)
  unfolding placed execute_at
  stands_builds e s x =
      builds_same (λ m. ap (λ is. execute (suc s) (sets_in ks ns) is s m) (sym p.items))
      (placed_builds q (sets_in ks ns) h.lines p.fits p.sets e s x (suc s) (omega arith))

  -- the union of several expressions
  union_builds : (es : List Tree) (ss : List ℕ) → PlacedAll q es ss
      → Builds (total (leaves_of q) es + 1) (execute_union (sets_in ks ns) (items_in ks ns) ss) (union_all q es)
  unfolding execute_union execute_all united_times placed
  union_builds [] [] x = builds_same (λ m. refl) (builds_more 1 _ (omega arith) (builds_given (λ a. false) 0 atoms_none))
  union_builds (e ∷ es) (s ∷ ss) (x, xs) =
      builds_more (leaves_of q e + (total (leaves_of q) es + 1)) _ (omega arith)
      (builds_same (λ m. sym (united_last (length ss) _))
      (builds_union (stands_builds e s x) (union_builds es ss xs)))
  union_builds [] (s ∷ ss) x = elim x [ ]
  union_builds (e ∷ es) [] x = elim x [ ]

  -- a0 and a1
  a0_builds : Builds (total (leaves_of q) (of_lines counts assumed_empty 0 q) + 1) (assumed ks ns 133) (empty_under counts q)
  unfolding assumed empty_under
  a0_builds = builds_same (λ m. refl) (union_builds (of_lines counts assumed_empty 0 q) (starts_of counts 133 ks) (empty_placed counts q c h))

  a1_builds : Builds (total (leaves_of q) (of_lines counts assumed_irreflexive 0 q) + 1) (assumed ks ns 134) (irreflexive_under counts q)
  unfolding assumed irreflexive_under
  a1_builds =
      builds_same (λ m. refl) (union_builds (of_lines counts assumed_irreflexive 0 q) (starts_of counts 134 ks) (irreflexive_placed counts q c h))

  -- a0 alone in a ring claim
  between_ring : (z : ℕ) → Builds (total (leaves_of q) (of_lines counts assumed_empty 0 q) + 2) (between ks ns true z) (empty_under counts q)
  unfolding between
  between_ring z = builds_more _ _ (omega arith) (builds_same (λ m. refl) a0_builds)

  -- y | any*;e;any*
  right_of : (d : Decision) (i j : ℕ) (Y B : Expr) → Builds i (besides ks ns d) Y → Builds j (between ks ns (is_ring d) (zero_for ks ns (is_ring d))) B
      → i + j ≤ 542 → Built (alt Y (somewhere B)) nothing_built (right_machine ks ns d)
  unfolding right_machine around somewhere
  right_of d i j Y B y b room =
      builds_on_nothing (builds_union y (builds_sequence (builds_sequence any_star_builds b) any_star_builds)) (omega arith)

  module _ (x : Claim) (few : Roomy q counts x) where
    -- the length-0 words of a1
    pub zero_words : zero_set ks ns ≡ atoms_of (null (irreflexive_under counts q))
    unfolding zero_set
    zero_words = built_null (builds_on_nothing a1_builds (omega (arith, few.own)))

    -- a0 | zero in a path claim
    between_path : Builds (total (leaves_of q) (of_lines counts assumed_empty 0 q) + 2) (between ks ns false (zero_for ks ns false))
        (alt (empty_under counts q) (test (null (irreflexive_under counts q))))
    unfolding between zero_for
    between_path =
        builds_more _ _ (omega arith)
        (builds_same (λ m. refl) (builds_union a0_builds (builds_given (null (irreflexive_under counts q)) (zero_set ks ns) zero_words)))

  -- the left side
  pub left_builds : (x : Claim) (d : Decision) → Stands q x d → Roomy q counts x → Built (decision_under counts q x).left nothing_built (left_machine ks ns d)
  unfolding left_machine decision_under
  left_builds (includes e f) d (k, s, t) few = builds_on_nothing (stands_builds e d.left s) (omega (arith, few.left))
  left_builds (empty e) d (k, s) few = builds_on_nothing (stands_builds e d.left s) (omega (arith, few.left))
  left_builds (irreflexive e) d (k, s) few = builds_on_nothing (stands_builds e d.left s) (omega (arith, few.left))

  -- the right side
  pub right_builds : (x : Claim) (d : Decision) → Stands q x d → Roomy q counts x → Built (decision_under counts q x).right nothing_built (right_machine ks ns d)
  unfolding decision_under besides is_ring
  right_builds (includes e f) d (k, s, t) few =
      let r : eqb d.kind 138 ≡ false = ap (λ n. eqb n 138) k in
      right_of d _ _ (side q f) (alt (empty_under counts q) (test (null (irreflexive_under counts q))))
      (builds_same (λ m. sym (rw (k, besides))) (stands_builds f d.right t))
      (subst (λ b. Builds (total (leaves_of q) (of_lines counts assumed_empty 0 q) + 2) (between ks ns b (zero_for ks ns b)) (alt (empty_under counts q) (test (null (irreflexive_under counts q))))) (sym r)
      (between_path (includes e f) few))
      (omega (arith, few.right))
  right_builds (empty e) d (k, s) few =
      let r : eqb d.kind 138 ≡ false = ap (λ n. eqb n 138) k in
      right_of d _ _ nowhere (alt (empty_under counts q) (test (null (irreflexive_under counts q))))
      (builds_same (λ m. sym (rw (k, besides))) (builds_given (λ a. false) 0 atoms_none))
      (subst (λ b. Builds (total (leaves_of q) (of_lines counts assumed_empty 0 q) + 2) (between ks ns b (zero_for ks ns b)) (alt (empty_under counts q) (test (null (irreflexive_under counts q))))) (sym r)
      (between_path (empty e) few))
      (omega (arith, few.right))
  right_builds (irreflexive e) d (k, s) few =
      let r : eqb d.kind 138 ≡ true = ap (λ n. eqb n 138) k in
      right_of d _ _ (irreflexive_under counts q) (empty_under counts q)
      (builds_same (λ m. sym (rw (k, besides))) a1_builds)
      (subst (λ b. Builds (total (leaves_of q) (of_lines counts assumed_empty 0 q) + 2) (between ks ns b (zero_for ks ns b)) (empty_under counts q)) (sym r) (between_ring (zero_for ks ns true)))
      (omega (arith, few.right))
