-- What the reading of a query answers, and what it leaves in lent memory, for every list of bytes. (Document 01, "Words", "Standings" and
-- "Refusals with an example each".) An accepted query leaves its decision: whether it is one of rings, the number of its atoms and
-- relations, the atoms that are left, the table of each side and the number of its occurrences; and its codes, for a judge of graphs.
-- Assumes nothing.
use Rattle.std.specs.Prelude.{ℕ, ◌≡◌, List, length, Ok, Err}
use Rattle.std.proofs.Math.Option.{Option, some, none}
use Rattle.kat.specs.Expr.{Expr}
use Rattle.kat.specs.Tables.{occurrences}
use Rattle.claims.specs.Tree.{Claim}
use Rattle.claims.specs.Query.{Query}
use Rattle.claims.specs.Sides.{Decision, decision}
use Rattle.claims.specs.Fields.{set_number}
use Rattle.claims.specs.Reading.{claim_of}
use Rattle.claims.specs.Refusals.{Result, ok, refused}
use Rattle.codes.specs.Codes.{query_codes}
use Rattle.refusals.specs.Causes.{cause_of}
use Rattle.refusals.specs.declared.Refusal.{Refusal}
use Rattle.memory.specs.Memory.{zeros}
use Rattle.side_tables.specs.SideTable.{side_table}
use Rattle.query.specs.declared.Facts.{Facts}
use Rattle.side_tables.specs.Layout.{TABLE}

-- what is told of a query with n codes and this decision ("Words")
unfoldable pub facts_of : ℕ → Decision → Facts
facts_of n d =
    record {
      codes = n;
      ring = d.ring;
      left = occurrences d.left;
      right = occurrences d.right;
      atoms = d.atoms;
      live = set_number 0 d.live;
      relations = d.relations;
    }

-- the facts of an accepted query, or why it is refused and where
abbrev pub Answer : Type 0
Answer = Rattle.std.specs.Prelude.Result Facts Refusal

-- the answer says what was read: the facts of the query's decision, or the cause and the place ("Refusals with an example each")
abbrev pub Says : Result Query → Answer → Type 0
Says (ok q) (Ok f) = (c : Claim) × (claim_of q ≡ some c) × (f ≡ facts_of (length (query_codes q)) (decision q c))
Says (ok q) (Err e) = ⊥
Says (refused r) (Ok f) = ⊥
Says (refused r) (Err e) = (cause_of e.why ≡ r.cause) × (e.place ≡ r.place)

-- the table of a side of the claim, zeros where there is none
unfoldable pub claim_table : (Decision → Expr) → Query → Option Claim → List ℕ
claim_table side q none = zeros TABLE
claim_table side q (some c) = side_table (side (decision q c))

-- the table of a side, zeros after a refusal ("Standings")
unfoldable pub table_after : (Decision → Expr) → Result Query → List ℕ
table_after side (ok q) = claim_table side q (claim_of q)
table_after side (refused r) = zeros TABLE

-- the left side, and the right side
abbrev pub left_after : Result Query → List ℕ
left_after r = table_after (λ d. d.left) r

abbrev pub right_after : Result Query → List ℕ
right_after r = table_after (λ d. d.right) r
