-- Occurrences and leaves of the two sides of a decision, from a query's codes and the lines that are left out of its assumptions, and the test of
-- refusal 8. (Document 01, "Standings", Limits.)
-- Assumes nothing.
use Rattle.std.specs.Prelude.{ℕ, ◌+◌, Bool, cond, ◌&&◌, List, eqb, leb}
use Rattle.codes.specs.Codes.{TESTED, ASSUME-EMPTY, ASSUME-IRREFLEXIVE, CLAIM-INCLUDE}
use Rattle.side_claim.specs.Sides.{is_ring}
use Rattle.side_claim.specs.declared.Decision.{Decision}
use Rattle.side_limits.specs.declared.Size.{Size}
use Rattle.side_limits.specs.declared.Sizes.{Sizes}
use Rattle.side_limits.specs.Tally.{capped, code_count}
use Rattle.side_limits.specs.Places.{count_at, count_kind}
use Rattle.layout.specs.Layout.{MOST-RIGHT}

-- what any*;e;any* is united with: y of an inclusion, `[false]` of an empty claim, which counts what a bracketed test does, a1 of a ring claim ("Words")
unfoldable pub beside : Decision → ℕ → ℕ → ℕ → ℕ
beside d own y test = cond (is_ring d) own (cond (eqb d.kind CLAIM-INCLUDE) y test)

-- the right side: a0 with it and both anys, each of which counts 1, and zero, a bracketed test, in a path claim ("Standings")
unfoldable pub right_of : Decision → ℕ → ℕ → ℕ → ℕ → ℕ
right_of d own y test a0 = beside d own y test + a0 + (2 + cond (is_ring d) 0 test)

-- the right side of a decision, where each code counts what f gives it
unfoldable pub right_count : (ℕ → ℕ) → List ℕ → List ℕ → Decision → ℕ
right_count f ks out d =
    right_of d (count_kind f ks out ASSUME-IRREFLEXIVE) (count_at f ks d.right) (f TESTED) (count_kind f ks out ASSUME-EMPTY)

-- both sides' occurrences and leaves, and a1's own leaves ("Standings")
unfoldable pub exact_sizes : List ℕ → Decision → List ℕ → Sizes
exact_sizes out d ks =
    let o = code_count 0 ks in
    let l = code_count 1 ks in
    record {
      ring = is_ring d;
      left = record { occurrences = count_at o ks d.left; leaves = count_at l ks d.left };
      right = record { occurrences = right_count o ks out d; leaves = right_count l ks out d };
      own = count_kind l ks out ASSUME-IRREFLEXIVE;
    }

-- each number up to 1,000
unfoldable pub capped_size : Size → Size
capped_size s = record { occurrences = capped s.occurrences; leaves = capped s.leaves }

unfoldable pub capped_sizes : Sizes → Sizes
capped_sizes s =
    record { ring = s.ring; left = capped_size s.left; right = capped_size s.right; own = capped s.own }

unfoldable pub sizes_of : List ℕ → Decision → List ℕ → Sizes
sizes_of out d ks = capped_sizes (exact_sizes out d ks)

-- 64 occurrences left; right 64 for path claims and 31 for ring claims; 512 leaves a side, and 512 for a1
unfoldable pub within_test : Sizes → Bool
within_test s =
    (leb s.left.occurrences 64 && leb s.left.leaves 512)
    && (leb s.right.occurrences (cond s.ring MOST-RIGHT 64) && leb s.right.leaves 512)
    && leb s.own 512
