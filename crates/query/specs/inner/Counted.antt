-- What the functions inside this crate promise of a query's codes: the facts from its counts and what is built, and the limits.
-- Assumes nothing.
use Rattle.std.specs.Prelude.{ℕ, ◌^◌, min, Bool, List, [], eqb, take}
use Rattle.codes.specs.Codes.{CLAIM-IRREFLEXIVE}
use Rattle.side_claim.specs.Sides.{claimed}
use Rattle.side_limits.specs.Sizes.{sizes_of, within_test}
use Rattle.side_limits.specs.declared.Sizes.{Sizes}
use Rattle.side_build.specs.declared.Built.{Built}
use Rattle.read_text.specs.declared.Summary.{Summary}
use Rattle.query.specs.declared.Facts.{Facts}

-- the claim is one of rings
unfoldable pub is_ring : Summary → Bool
is_ring s = eqb s.kind CLAIM-IRREFLEXIVE

-- the facts of a query, by what the reader knows of it and what was built
unfoldable pub facts_by : Summary → Built → Facts
facts_by s b =
    record {
      codes = s.codes;
      ring = is_ring s;
      left = b.left;
      right = b.right;
      atoms = min (2 ^ s.tests) 64;
      live = b.live;
      relations = s.relations;
    }

-- what the claim of a query counts, of which no line is left out
abbrev pub claim_sizes : List ℕ → Sizes
claim_sizes ks = sizes_of [] (claimed ks) ks

-- what the test of the limits says of the codes of the query, the first of the array
abbrev pub in_limits : Summary → List ℕ → Bool
in_limits s out = within_test (claim_sizes (take s.codes out))
