-- The two sides of a decision of a query, built from a program: which lines count as assumptions is in the program, and the decision says which
-- expression is claimed, and whether to be included in another, empty or irreflexive. (Document 01, "Words".) Today's is the claim of the
-- query.
-- Assumes nothing.
use Rattle.std.specs.Prelude.{ℕ, Bool, true, cond, List, [], ◌∷◌, eqb}
use Rattle.codes.specs.Codes.{ASSUME-EMPTY, ASSUME-IRREFLEXIVE, INCLUDED, CLAIM-INCLUDE, CLAIM-IRREFLEXIVE, claim_kind}
use Rattle.side_stack.specs.Stack.{top_part}
use Rattle.side_parts.specs.Machine.{Machine, given, united, in_order, any_star, nothing_built}
use Rattle.side_items.specs.Items.{starts_of}
use Rattle.side_runs.specs.Program.{items_in, sets_in, counts_in}
use Rattle.side_runs.specs.Execution.{execute_at, execute_union}
use Rattle.side_claim.specs.declared.Decision.{Decision}

-- the first of some numbers, and 0 of none
unfoldable pub first_of : List ℕ → ℕ
first_of [] = 0
first_of (s ∷ ss) = s

-- where the first expression starts that ends with the code k
unfoldable pub start_of : ℕ → List ℕ → ℕ
start_of k ks = first_of (starts_of (λ l. true) k ks)

-- the code that the claimed expression ends with
unfoldable pub left_end : ℕ → ℕ
left_end k = cond (eqb k CLAIM-INCLUDE) INCLUDED k

-- the claim of a query ("The query")
unfoldable pub claimed : List ℕ → Decision
claimed ks = record { kind = claim_kind ks; left = start_of (left_end (claim_kind ks)) ks; right = start_of CLAIM-INCLUDE ks }

-- a ring claim
unfoldable pub is_ring : Decision → Bool
is_ring d = eqb d.kind CLAIM-IRREFLEXIVE

module _ (ks ns : List ℕ) where
  -- the expression at a place, and the union of those that end with the code k and count as assumptions
  unfoldable pub placed : ℕ → Machine → Machine
  placed from m = execute_at (sets_in ks ns) (items_in ks ns) from m

  unfoldable pub assumed : ℕ → Machine → Machine
  assumed k m = execute_union (sets_in ks ns) (items_in ks ns) (starts_of (counts_in ks ns) k ks) m

  -- the set of length-0 words of a1 ("Words")
  unfoldable pub zero_set : ℕ
  zero_set = (top_part (assumed ASSUME-IRREFLEXIVE nothing_built).stack).null

  -- it is asked for in a path claim only ("Words")
  unfoldable pub zero_for : Bool → ℕ
  zero_for ring = cond ring 0 zero_set

  -- a0, and zero with it in a path claim ("Words")
  unfoldable pub between : Bool → ℕ → Machine → Machine
  between ring z m =
      let n = assumed ASSUME-EMPTY m in
      cond ring n (united (given z n))

  -- any*;(a0 | zero);any*, or any*;a0;any* ("Words")
  unfoldable pub around : Bool → ℕ → Machine → Machine
  around ring z m = in_order (any_star (in_order (between ring z (any_star m))))

  module _ (d : Decision) where
    -- The left side: the claimed expression. ("Words")
    unfoldable pub left_machine : Machine
    left_machine = placed d.left nothing_built

    -- what any*;e;any* is united with: y of an inclusion, `[false]` of an empty claim, a1 of a ring claim ("Words")
    unfoldable pub besides : Machine → Machine
    besides m =
        cond (is_ring d) (assumed ASSUME-IRREFLEXIVE m) (cond (eqb d.kind CLAIM-INCLUDE) (placed d.right m) (given 0 m))

    -- The right side: y | any*;(a0 | zero);any*, or a1 | any*;a0;any*. ("Words")
    unfoldable pub right_machine : Machine
    right_machine = united (around (is_ring d) (zero_for (is_ring d)) (besides nothing_built))
