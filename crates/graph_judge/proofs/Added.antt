-- A table more: what the codes of an expression do to the tables that wait. Those below stay, the new one shows what the expression relates,
-- and there is room for it and for all that is kept on the way. One law for an operator with one operand, one for those with two, and one
-- for what is put there at once.
-- Assumes nothing.
use Prim.Native.Nat.{ℕ, suc, ◌+◌, ◌-◌, ◌≤◌, ◌<◌, max}
use native.Mathlib.Omega.{arith}
use mathlib.Core.Path.{◌≡◌, refl, sym, ◌∙◌, ap, ap₂, subst}
use mathlib.Core.Bool.{Bool, cond}
use mathlib.Core.List.{List}
use lib.ListN.{length, set, length-set}
use lib.Seq.{get_or-set_same, get_or-set_other}
use borrow.Author.Tests.{lt-ltb}
use Rattle.rows.specs.Rows.{blank}
use Rattle.rows.proofs.Shown.{Shows}
use Rattle.graph_tables.specs.declared.JudgedSoFar.{JudgedSoFar}
use Rattle.graph_tables.specs.Machine.{Judging, table_at, top, second, waiting_now, pushed, changed_top, merged}

-- from j on a table more waits, which shows f over n events
pub record Added (n : ℕ) (f : ℕ → ℕ → Bool) (j k : Judging) : Type 0 where
  pub state : k.state ≡ waiting_now j.state (j.state.waiting + 1)
  pub size : length k.mem ≡ length j.mem
  pub kept : (i : ℕ) → i < 32 + j.state.waiting → table_at k.mem i ≡ table_at j.mem i
  pub shown : Shows n (table_at k.mem (32 + j.state.waiting)) f

-- there are n events, and room for h tables more
pub record Room (n h : ℕ) (j : Judging) : Type 0 where
  pub events : j.state.events ≡ n
  pub size : length j.mem ≡ 100
  pub room : j.state.waiting + h ≤ 68

-- the lets stay
abbrev pub SameLets : Judging → Judging → Type 0
SameLets j k = (i : ℕ) → i < 32 → table_at k.mem i ≡ table_at j.mem i

module _ (n : ℕ) where
  -- F adds a table that shows f, wherever there is room for h and the lets are as in j
  abbrev pub Adds : ℕ → (ℕ → ℕ → Bool) → Judging → (Judging → Judging) → Type 0
  Adds h f j F = (k : Judging) → Room n h k → SameLets j k → Added n f k (F k)

  pub added_lets : (f : ℕ → ℕ → Bool) (j k l : Judging) → SameLets j k → Added n f k l → SameLets j l
  added_lets f j k l s a i h = a.kept i (omega arith) ∙ s i h

  -- a table stored behind those that waited
  added_store : (f : ℕ → ℕ → Bool) (k : Judging) (m : List (List ℕ)) (st : JudgedSoFar) (i : ℕ) (t : List ℕ)
      → st ≡ waiting_now k.state (k.state.waiting + 1) → length m ≡ length k.mem
      → ((i : ℕ) → i < 32 + k.state.waiting → table_at m i ≡ table_at k.mem i)
      → i ≡ 32 + k.state.waiting → i < length m → Shows n t f → Added n f k (record { mem = set m i t; state = st })
  added_store f k m st i t z l b e h shows =
      record {
        state = z;
        size = length-set m i t ∙ l;
        kept = λ x y. get_or-set_other m i x t blank (λ c. omega arith) ∙ b x y;
        shown = subst (λ u. Shows n u f) (sym (ap (table_at (set m i t)) (sym e) ∙ get_or-set_same m i t blank h)) shows;
      }

  -- what is put there at once
  pub adds_given : (f : ℕ → ℕ → Bool) (j : Judging) (t : Judging → List ℕ) → ((k : Judging) → Room n 1 k → SameLets j k → Shows n (t k) f)
      → Adds 1 f j (λ k. pushed k (t k))
  unfolding pushed
  adds_given f j t shows k r s =
      let w = k.state.waiting in
      subst (Added n f k)
      (sym (ap (λ b. cond b (record { mem = set k.mem (32 + w) (t k); state = waiting_now k.state (w + 1) }) k) (lt-ltb w 68 (omega (arith, r.room)))))
      (added_store f k k.mem (waiting_now k.state (w + 1)) (32 + w) (t k) refl refl (λ i h. refl) refl (omega (arith, r.size, r.room)) (shows k r s))

  -- an operator with one operand
  pub adds_changed : (h : ℕ) (f g : ℕ → ℕ → Bool) (j : Judging) (F : Judging → Judging) (op : List ℕ → List ℕ) → 1 ≤ h
      → ((t : List ℕ) → Shows n t f → Shows n (op t) g) → Adds h f j F → Adds h g j (λ k. changed_top op (F k))
  unfolding changed_top
  adds_changed h f g j F op one shows a k r s =
      let x = a k r s in
      let w = k.state.waiting in
      let e : 31 + (F k).state.waiting ≡ 32 + w = omega (arith, ap (λ (s : JudgedSoFar). s.waiting) x.state) in
      added_store g k (F k).mem (F k).state (31 + (F k).state.waiting) (op (top (F k))) x.state x.size x.kept e
      (omega (arith, x.size, r.size, r.room))
      (shows (top (F k)) (subst (λ i. Shows n (table_at (F k).mem i) f) (sym e) x.shown))

  -- an operator with two operands: while the right one is worked out the left one waits
  pub adds_merged : (h i : ℕ) (f g e : ℕ → ℕ → Bool) (j : Judging) (F K : Judging → Judging) (op : List ℕ → List ℕ → List ℕ) → 1 ≤ h
      → ((t u : List ℕ) → Shows n t f → Shows n u g → Shows n (op t u) e) → Adds h f j F → Adds i g j K
      → Adds (max h (suc i)) e j (λ k. merged op (K (F k)))
  unfolding merged
  adds_merged h i f g e j F K op one shows a b k r s =
      let w = k.state.waiting in
      let x = a k (record { events = r.events; size = r.size; room = omega (arith, r.room) }) s in
      let y = b (F k)
      (record {
        events = ap (λ (s : JudgedSoFar). s.events) x.state ∙ r.events;
        size = x.size ∙ r.size;
        room = omega (arith, ap (λ (s : JudgedSoFar). s.waiting) x.state, r.room);
      })
      (added_lets f j k (F k) s x) in
      let l = K (F k) in
      let v : (F k).state.waiting ≡ w + 1 = ap (λ (s : JudgedSoFar). s.waiting) x.state in
      let z : l.state.waiting ≡ w + 2 = omega (arith, ap (λ (s : JudgedSoFar). s.waiting) y.state) in
      let low : 30 + l.state.waiting ≡ 32 + w = omega arith in
      let high : 31 + l.state.waiting ≡ 32 + (F k).state.waiting = omega arith in
      added_store e k l.mem (waiting_now l.state (l.state.waiting - 1)) (30 + l.state.waiting) (op (second l) (top l))
      (ap₂ waiting_now y.state (omega arith) ∙ ap (λ s. waiting_now s (w + 1)) x.state)
      (y.size ∙ x.size)
      (λ i h. y.kept i (omega arith) ∙ x.kept i h)
      low
      (omega (arith, y.size, x.size, r.size, r.room))
      (shows (second l) (top l)
      (subst (λ i. Shows n (table_at l.mem i) f) (sym low) (subst (λ t. Shows n t f) (sym (y.kept (32 + w) (omega arith))) x.shown))
      (subst (λ i. Shows n (table_at l.mem i) g) (sym high) y.shown))

module _ (n : ℕ) (f : ℕ → ℕ → Bool) (j k : Judging) (a : Added n f j k) where
  -- so many tables wait then, and the other numbers stay
  pub one_more : k.state.waiting ≡ j.state.waiting + 1
  one_more = ap (λ (s : JudgedSoFar). s.waiting) a.state

  -- the new table is on top
  pub top_shows : Shows n (top k) f
  top_shows =
      let e : 32 + j.state.waiting ≡ 31 + k.state.waiting = omega (arith, one_more) in
      subst (λ i. Shows n (table_at k.mem i) f) e a.shown

  -- and after another one below it
  pub second_shows : (g : ℕ → ℕ → Bool) (l : Judging) → Added n g k l → Shows n (second l) f
  second_shows g l b =
      let e : 32 + j.state.waiting ≡ 30 + l.state.waiting = omega (arith, one_more, ap (λ (s : JudgedSoFar). s.waiting) b.state) in
      subst (λ i. Shows n (table_at l.mem i) f) e
      (subst (λ t. Shows n t f) (sym (b.kept (32 + j.state.waiting) (omega (arith, one_more)))) a.shown)
