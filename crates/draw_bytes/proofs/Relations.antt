-- The edges of one relation after another, and the events before them: put, and counted.
-- Assumes nothing.
use Prim.Native.Nat.{ℕ, ◌+◌, ◌*◌, min}
use native.Mathlib.Omega.{arith}
use mathlib.Core.Path.{◌≡◌, sym, ◌∙◌, ap, subst}
use mathlib.Core.List.{List}
use lib.ListN.{length, get_or, length-append}
use Rattle.kat.specs.Lists.{upto}
use Rattle.kat.proofs.Sets.{upto_length}
use Rattle.claims.specs.GraphWriting.{joined}
use Rattle.print_line.specs.Puts.{Puts}
use Rattle.print_line.proofs.Putting.{puts_append}
use Rattle.draw_bytes.specs.Fields.{events_bytes, rows_bytes}
use Rattle.print_line.proofs.Pieces.{Left, left_begin, pieces_length}
use Rattle.draw_bytes.proofs.Pieces.{an_event, a_row, event_field_lem}
use Rattle.draw_bytes.specs.Bytes.{relation_bytes, edges_bytes, bytes_of}

-- relations, one after another
pub edges_begin : (l : List ℕ) (at to n : ℕ) (rows : ℕ → List ℕ) (rs : ℕ) → to ≡ min at (length l)
    → Left l at (edges_bytes n rows rs) l to (joined (relation_bytes n rows) (upto 0 rs))
unfolding edges_bytes
edges_begin l at to n rows rs e = left_begin l at to (joined (relation_bytes n rows) (upto 0 rs)) e

-- one relation
pub puts_relation : {l m : List ℕ} {at to : ℕ} (n : ℕ) (rows : ℕ → List ℕ) (r : ℕ) (t : List ℕ) → t ≡ rows r
    → Puts l at (rows_bytes r n t) to m → Puts l at (relation_bytes n rows r) to m
unfolding relation_bytes
puts_relation {l} {m} {at} {to} n rows r t e p = subst (λ (u : List ℕ). Puts l at (rows_bytes r n u) to m) e p

-- events, and then edges
pub puts_graph : {l m k : List ℕ} {to next : ℕ} (bs : List ℕ) (n : ℕ) (rows : ℕ → List ℕ) (rs : ℕ) → Puts l 0 (events_bytes bs n) to m
    → Puts m to (edges_bytes n rows rs) next k → Puts l 0 (bytes_of bs n rows rs) next k
unfolding bytes_of
puts_graph bs n rows rs p q = puts_append p q

-- and counted
pub rows_count_begin : (r n : ℕ) (rows : List ℕ) → 0 + length (joined (a_row r rows) (upto 0 n)) ≡ length (rows_bytes r n rows)
unfolding rows_bytes
rows_count_begin r n rows = omega arith

pub relation_length : (n : ℕ) (rows : ℕ → List ℕ) (r m : ℕ) (t : List ℕ) → t ≡ rows r → m ≡ length (rows_bytes r n t)
    → m ≡ length (relation_bytes n rows r)
unfolding relation_bytes
relation_length n rows r m t e k = k ∙ ap (λ (u : List ℕ). length (rows_bytes r n u)) e

pub graph_count_begin : (bs : List ℕ) (n : ℕ) (rows : ℕ → List ℕ) (rs : ℕ)
    → 4 * n + length (joined (relation_bytes n rows) (upto 0 rs)) ≡ length (bytes_of bs n rows rs)
unfolding bytes_of events_bytes edges_bytes
graph_count_begin bs n rows rs =
    omega (
      arith,
      length-append (joined (an_event bs) (upto 0 n)) (joined (relation_bytes n rows) (upto 0 rs)),
      pieces_length (an_event bs) 4 (λ i. ap length (sym (event_field_lem (get_or bs (2 * i) 0)))) (upto 0 n),
      upto_length n,
    )
