-- What the functions inside this crate promise of the machine's sums, which stop at 1,000, and of the table of what each code counts.
-- Assumes nothing.
use Rattle.std.specs.Prelude.{ℕ, ◌≡◌, List, length, get_or}
use Rattle.codes.specs.Codes.{ASSUME-IRREFLEXIVE}
use Rattle.side_claim.specs.declared.Decision.{Decision}
use Rattle.side_limits.specs.declared.Sums.{Sums}
use Rattle.side_limits.specs.Tally.{capped, weight, code_count}
use Rattle.side_limits.specs.Places.{count_at, count_kind}
use Rattle.side_limits.specs.Sizes.{right_count}

-- what stands for each code in a table of 96 words
abbrev pub in_table : List ℕ → ℕ → ℕ
in_table ws k = get_or ws k 0

-- the table has for each code what it counts, up to 1,000
pub record Table (t : ℕ) (w : ℕ → ℕ) (ls ws : List ℕ) : Type 0 where
  pub size : length ws ≡ 96
  pub at : (k : ℕ) → capped (in_table ws k) ≡ capped (weight t w ls k)

-- what a decision counts, each number up to 1,000
unfoldable pub sums_of : ℕ → List ℕ → List ℕ → Decision → Sums
sums_of t ks out d =
    let f = code_count t ks in
    record {
      left = capped (count_at f ks d.left);
      right = capped (right_count f ks out d);
      own = capped (count_kind f ks out ASSUME-IRREFLEXIVE);
    }
