-- How many events there are, and the rows by steps: the turns of the loops, and each case of the code.
-- Assumes nothing.
use Prim.Native.Nat.{ℕ, ◌+◌, ◌*◌, ◌/◌, ◌≤◌, ◌<◌}
use mathlib.Core.Path.{◌≡◌, refl, sym, ◌∙◌, ap}
use mathlib.Core.Bool.{Bool, true, false, cond}
use mathlib.Core.List.{List}
use lib.Dec.{eqb}
use lib.ListN.{length, get_or}
use borrow.Author.Tests.{lt-ltb, le-ltb, le-leb, lt-leb, eq-eqb, ne_eqb}
use Rattle.memory.specs.Memory.{words}
use Rattle.bits.specs.Sets.{including}
use Rattle.rows.specs.Rows.{rounds}
use Rattle.draw_rows.specs.Rows.{event_count, next_event, step_row, step_rows, relation_rows}

-- the number of events
pub events_alone : (size : ℕ) → size < 2 → 1 ≡ event_count true size
unfolding event_count
events_alone size h = sym (ap (λ b. cond b 1 (size / 2)) (lt-ltb size 2 h))

pub events_ring : (size : ℕ) → 2 ≤ size → size / 2 ≡ event_count true size
unfolding event_count
events_ring size h = sym (ap (λ b. cond b 1 (size / 2)) (le-ltb size 2 h))

pub events_line : (size : ℕ) → size / 2 + 1 ≡ event_count false size
unfolding event_count
events_line size = refl

-- the event after
pub next_first : (n x : ℕ) → x + 1 ≡ n → 0 ≡ next_event n x
unfolding next_event
next_first n x h = sym (ap (λ b. cond b 0 (x + 1)) (eq-eqb (x + 1) n h))

pub next_on : (n x : ℕ) → (x + 1 ≡ n → ⊥) → x + 1 ≡ next_event n x
unfolding next_event
next_on n x h = sym (ap (λ b. cond b 0 (x + 1)) (ne_eqb (x + 1) n h))

-- the step from an event
module _ (bs : List ℕ) (n r x : ℕ) where
  abbrev else : ℕ
  else = cond (eqb (get_or bs (2 * x + 1) 0) r) (including 64 0 (next_event n x)) 0

  pub step_past : length bs ≤ 2 * x + 1 → 0 ≡ step_row bs n r x
  unfolding step_row
  step_past h = sym (ap (λ b. cond b 0 else) (le-leb (length bs) (2 * x + 1) h))

  inside : 2 * x + 1 < length bs → step_row bs n r x ≡ else
  unfolding step_row
  inside h = ap (λ b. cond b 0 else) (lt-leb (length bs) (2 * x + 1) h)

  pub step_other : 2 * x + 1 < length bs → (a : ℕ) → a ≡ get_or bs (2 * x + 1) 0 → (a ≡ r → ⊥) → 0 ≡ step_row bs n r x
  step_other h a e k =
      sym (inside h ∙ ap (λ b. cond b (including 64 0 (next_event n x)) 0) (ne_eqb (get_or bs (2 * x + 1) 0) r (λ z. k (e ∙ z))))

  pub step_on : 2 * x + 1 < length bs → (a : ℕ) → a ≡ get_or bs (2 * x + 1) 0 → a ≡ r → (y s : ℕ) → y ≡ next_event n x → s ≡ including 64 0 y
      → s ≡ step_row bs n r x
  step_on h a e k y s f g =
      g ∙ ap (including 64 0) f
      ∙ sym (inside h ∙ ap (λ b. cond b (including 64 0 (next_event n x)) 0) (eq-eqb (get_or bs (2 * x + 1) 0) r (sym e ∙ k)))

-- a relation that is closed, or not
pub rows_closed : (bs : List ℕ) (n r : ℕ) (closed : Bool) (t u : List ℕ) → closed ≡ true → t ≡ words 64 (step_row bs n r)
    → u ≡ rounds t n n → u ≡ relation_rows bs n r closed
unfolding relation_rows step_rows
rows_closed bs n r closed t u b e h =
    h ∙ ap (λ s. rounds s n n) e
    ∙ sym (ap (λ x. cond x (rounds (words 64 (step_row bs n r)) n n) (words 64 (step_row bs n r))) b)

pub rows_open : (bs : List ℕ) (n r : ℕ) (closed : Bool) (t : List ℕ) → closed ≡ false → t ≡ words 64 (step_row bs n r)
    → t ≡ relation_rows bs n r closed
unfolding relation_rows step_rows
rows_open bs n r closed t b e =
    e
    ∙ sym (ap (λ x. cond x (rounds (words 64 (step_row bs n r)) n n) (words 64 (step_row bs n r))) b)
