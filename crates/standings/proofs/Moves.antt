-- What a letter reads next, by the table of a side: what the definition moves to, nothing past the last occurrence, nothing from past it, and
-- nothing from an empty set. The standings of rings share this.
-- Assumes nothing.
use Prim.Native.Nat.{ℕ, zero, suc, ◌+◌, ◌-◌, ◌*◌, ◌≤◌, ◌<◌}
use native.Mathlib.Omega.{arith}
use mathlib.Core.Path.{◌≡◌, refl, sym, ◌∙◌, ap}
use mathlib.Core.Bool.{Bool, true, false, ◌&&◌, and_comm, and-false}
use mathlib.Core.List.{List}
use lib.ListN.{take, drop}
use lib.Pow.{pow_pos}
use Rattle.kat.specs.Lists.{some}
use Rattle.kat.specs.Expr.{Expr}
use Rattle.kat.specs.Tables.{occurrences, reads, next}
use Rattle.kat.proofs.Bools.{false_of_not, and_left}
use Rattle.kat.proofs.Ranges.{reads_range, follows_before}
use Rattle.kat.proofs.Sets.{some_none, some_same}
use Rattle.claims.specs.Query.{bit}
use Rattle.claims.specs.Sides.{Decision}
use Rattle.claims.specs.Standings.{Letter, moves}
use Rattle.bits.specs.Sets.{row, union_rows}
use Rattle.bits.proofs.Bit.{bit_none, bit_above, bit-bit_and, bit_ext, bits_equal}
use Rattle.bits.proofs.Members.{number_none}
use Rattle.bits.proofs.Rows.{bit_union, meets_some}
use Rattle.side_tables.specs.SideTable.{side_table}
use Rattle.standings.specs.Steps.{readers, enders, step_from, step_set, ends_set, leads}
use Rattle.side_tables.specs.Layout.{ROW}
use Rattle.standings.proofs.Tables.{from_small, from_bit}

-- read by the letter, and next after some of a list that passes a test
pub moved_some : (D : Decision) (l : Letter) (q : ℕ) (g : ℕ → Bool) (os : List ℕ)
    → some (λ o. moves D l o q && g o) os
    ≡ (reads D.right 0 q l.relation && some (λ o. g o && next D.right o q l.atom) os)
unfolding moves
moved_some D l q g os = go (reads D.right 0 q l.relation)
  where
    go : (b : Bool) → some (λ o. (b && next D.right o q l.atom) && g o) os
        ≡ (b && some (λ o. g o && next D.right o q l.atom) os)
    go true =
        some_same (λ o. next D.right o q l.atom && g o) (λ o. g o && next D.right o q l.atom) os
        (λ o i. and_comm (next D.right o q l.atom) (g o))
    go false = some_none (λ o. false) os (λ o. refl)

module _ (D : Decision) (l : Letter) (low : l.atom < 64) (letter : l.relation < 16) where
  -- where q is read next
  pub leads_moves : (p q : ℕ) → p < ROW → 1 ≤ q → q ≤ occurrences D.right → leads (side_table D.right) l p q ≡ moves D l p q
  unfolding leads moves
  leads_moves p q h i k = from_bit D.right l.atom l.relation low letter p q h i (omega arith)

  pub leads_past : (p q : ℕ) → occurrences D.right < q → leads (side_table D.right) l p q ≡ false
  unfolding leads
  leads_past p q h =
      bit_above (occurrences D.right) (q - 1) (step_from (side_table D.right) p l.atom l.relation)
      (from_small D.right l.atom l.relation low letter p) (omega arith)

  pub moves_nowhere : (p : ℕ) → moves D l p 0 ≡ false
  unfolding moves
  moves_nowhere p =
      false_of_not (reads D.right 0 0 l.relation && next D.right p 0 l.atom)
      (λ e. let (a, b) = reads_range D.right 0 0 l.relation
      (and_left (reads D.right 0 0 l.relation) (next D.right p 0 l.atom) e) in omega arith)

-- nothing is next after a number past the last occurrence
next_past : (E : Expr) (p q a : ℕ) → occurrences E < p → next E p q a ≡ false
next_past E zero q a h = absurd (omega arith)
next_past E (suc p) q a h =
    false_of_not (next E (suc p) q a) (λ e. let (x, y) = follows_before E 0 (suc p) q a e in omega arith)

pub from_past : (E : Expr) (a r : ℕ) → a < 64 → r < 16 → (p : ℕ) → occurrences E < p → p < ROW → step_from (side_table E) p a r ≡ 0
from_past E a r low letter p h k =
    bit_ext (occurrences E) (step_from (side_table E) p a r) 0 (from_small E a r low letter p) (pow_pos (occurrences E))
    (λ i j. let z : i ≡ suc i - 1 = omega arith in
    ap (λ m. bit m (step_from (side_table E) p a r)) z ∙ from_bit E a r low letter p (suc i) k (omega arith) (omega arith)
    ∙ ap (λ b. reads E 0 (suc i) r && b) (next_past E p (suc i) a h) ∙ and-false (reads E 0 (suc i) r) ∙ sym (bit_none i))

-- from an empty set nothing is read, and nothing of it ends
pub set_step_none : (t : List ℕ) (a r : ℕ) → step_set t 0 a r ≡ 0
unfolding step_set
set_step_none t a r =
    bits_equal (step_set t 0 a r) 0
    (λ i. bit-bit_and i (union_rows (take 64 (drop (ROW * a + 1) t)) 0) (readers t r)
    ∙ ap (λ b. b && bit i (readers t r)) (bit_union (take 64 (drop (ROW * a + 1) t)) 0 i
    ∙ ap (some (λ k. bit i (row (take 64 (drop (ROW * a + 1) t)) k))) (number_none 0 64))
    ∙ sym (bit_none i))

pub ends_none : (t : List ℕ) (a : ℕ) → ends_set t 0 a ≡ false
unfolding ends_set
ends_none t a =
    meets_some 0 0 (enders t a) (pow_pos 0) ∙ ap (some (λ k. bit k (enders t a))) (number_none 0 0)
