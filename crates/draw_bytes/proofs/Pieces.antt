-- The pieces of a drawn graph, put into memory one after another by a loop: events, the edges to the members of a set, rows. And their length.
-- Assumes nothing.
use Prim.Native.Nat.{ℕ, ◌-◌, ◌*◌, ◌^◌, ◌<◌, min}
use mathlib.Core.Path.{◌≡◌, refl, sym, ◌∙◌, ap, subst}
use mathlib.Core.List.{List, [], ◌∷◌}
use lib.Bits.{bit_and}
use lib.Count.{ones, count_trailing_zeros}
use lib.ListN.{length, get_or}
use Rattle.kat.specs.Lists.{upto}
use Rattle.claims.specs.Fields.{big_endian, field}
use Rattle.claims.specs.GraphWriting.{joined, event_field, edge_field, edge_of}
use Rattle.print_line.specs.Puts.{Puts}
use Rattle.print_line.proofs.Pieces.{Left, left_begin, left_more, left_end, pieces_length}
use Rattle.bits.specs.Sets.{members}
use Rattle.bits.proofs.Members.{number_none, number_length}
use Rattle.bits.proofs.Lowest.{Lowest}
use Rattle.draw_bytes.specs.Fields.{events_bytes, row_bytes, rows_bytes}

-- pieces for the members of a set
module _ (f : ℕ → List ℕ) where
  pub set_more : {l m n : List ℕ} {at to next : ℕ} {all : List ℕ} {s : ℕ} → Lowest 64 s → Left l at all m to (joined f (members s))
      → Puts m to (f (count_trailing_zeros 64 s)) next n → Left l at all n next (joined f (members (bit_and s (s - 1))))
  set_more {l} {m} {n} {at} {to} {next} {all} {s} low L p =
      left_more (f (count_trailing_zeros 64 s)) (joined f (members (bit_and s (s - 1)))) (subst (Left l at all m to) (ap (joined f) low.members) L) p

  pub set_end : {l m : List ℕ} {at to : ℕ} {all : List ℕ} (s : ℕ) → s ≡ 0 → Left l at all m to (joined f (members s)) → Puts l at all to m
  set_end {l} {m} {at} {to} {all} s e L =
      left_end (subst (Left l at all m to) (ap (λ k. joined f (members k)) e ∙ ap (joined f) (number_none 0 64)) L)

-- the pieces of a graph: an event, an edge from x of relation r, a row
abbrev pub an_event : List ℕ → ℕ → List ℕ
an_event bs i = event_field (get_or bs (2 * i) 0)

abbrev pub an_edge : ℕ → ℕ → ℕ → List ℕ
an_edge r x y = edge_field (edge_of r x y)

abbrev pub a_row : ℕ → List ℕ → ℕ → List ℕ
a_row r rows x = row_bytes r x (get_or rows x 0)

pub events_begin : (l : List ℕ) (at to : ℕ) (bs : List ℕ) (n : ℕ) → to ≡ min at (length l)
    → Left l at (events_bytes bs n) l to (joined (an_event bs) (upto 0 n))
unfolding events_bytes
events_begin l at to bs n e = left_begin l at to (joined (an_event bs) (upto 0 n)) e

pub row_begin : (l : List ℕ) (at to r x s : ℕ) → to ≡ min at (length l) → Left l at (row_bytes r x s) l to (joined (an_edge r x) (members s))
unfolding row_bytes
row_begin l at to r x s e = left_begin l at to (joined (an_edge r x) (members s)) e

pub rows_begin : (l : List ℕ) (at to r n : ℕ) (rows : List ℕ) → to ≡ min at (length l)
    → Left l at (rows_bytes r n rows) l to (joined (a_row r rows) (upto 0 n))
unfolding rows_bytes
rows_begin l at to r n rows e = left_begin l at to (joined (a_row r rows) (upto 0 n)) e

-- the fields as bytes
pub event_field_lem : (a : ℕ) → 1 ∷ 0 ∷ 1 ∷ a ∷ [] ≡ event_field a
unfolding field big_endian
event_field_lem a = refl

pub edge_field_lem : (r x y : ℕ) → 2 ∷ 0 ∷ 3 ∷ r ∷ x ∷ y ∷ [] ≡ edge_field (edge_of r x y)
unfolding field big_endian
edge_field_lem r x y = refl

pub puts_field : {l m : List ℕ} {at to : ℕ} {bs : List ℕ} (cs : List ℕ) → bs ≡ cs → Puts l at bs to m → Puts l at cs to m
puts_field {l} {m} {at} {to} cs e p = subst (λ (ds : List ℕ). Puts l at ds to m) e p

-- and how long they are
pub row_length_lem : (r x s : ℕ) → s < 2 ^ 64 → 6 * ones s ≡ length (row_bytes r x s)
unfolding row_bytes
row_length_lem r x s h =
    ap (λ k. 6 * k) (sym (number_length 0 64 s h)) ∙ sym (pieces_length (an_edge r x) 6 (λ y. ap length (sym (edge_field_lem r x y))) (members s))
