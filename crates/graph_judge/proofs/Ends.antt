-- The ends of lines, a law for each way that a code goes: the state behind it, and the memory, are what the definition says.
-- Assumes nothing.
use Prim.Native.Nat.{ℕ, ◌+◌, ◌-◌, ◌≤◌, ◌<◌}
use native.Mathlib.Omega.{arith}
use mathlib.Core.Path.{◌≡◌, refl, sym, ◌∙◌, ap, ap₂}
use mathlib.Core.Bool.{Bool, true, false, cond, not, ◌&&◌}
use mathlib.Core.List.{List}
use lib.Dec.{eqb, ltb}
use lib.ListN.{get_or, set, replicate}
use borrow.Author.Tests.{lt-ltb, le-ltb, eq-eqb, ne_eqb}
use Rattle.memory.specs.Memory.{zeros}
use Rattle.rows.specs.Rows.{blank, composed, lowest_pair}
use Rattle.graph_tables.specs.declared.JudgedSoFar.{JudgedSoFar}
use Rattle.graph_tables.specs.Listed.{relation_rows, events_with}
use Rattle.graph_tables.specs.Machine.{Judging, judging, top, second, operated}
use Rattle.graph_judge.specs.Machine.{onward, broken_if, found_now, kept_let, outside, unclosed, any_pair, any_loop, relation_line, judged_line, line_ended, performed}

-- the first broken line
pub first_now : (b : Bool) (old line : ℕ) → b ≡ true → old ≡ 0 → line ≡ cond (b && eqb old 0) line old
first_now b old line e f = sym (ap₂ (λ x y. cond (x && y) line old) e (eq-eqb old 0 f))

pub first_before : (b : Bool) (old line : ℕ) → b ≡ true → (old ≡ 0 → ⊥) → old ≡ cond (b && eqb old 0) line old
first_before b old line e f = sym (ap₂ (λ x y. cond (x && y) line old) e (ne_eqb old 0 f))

pub not_now : (b : Bool) (old line : ℕ) → b ≡ false → old ≡ cond (b && eqb old 0) line old
not_now b old line e = sym (ap (λ x. cond (x && eqb old 0) line old) e)

abbrev at_end_lem : JudgedSoFar → ℕ → JudgedSoFar
at_end_lem s b = record { events = s.events; waiting = 0; lets = s.lets; line = s.line + 1; broken = b; found = s.found }

pub broken_state : (s : JudgedSoFar) (b : Bool) (m : ℕ) → m ≡ cond (b && eqb s.broken 0) s.line s.broken
    → record { events = s.events; waiting = 0; lets = s.lets; line = s.line + 1; broken = m; found = s.found } ≡ broken_if b s
unfolding broken_if
broken_state s b m e = ap (at_end_lem s) e

pub found_state : (s : JudgedSoFar) (m : ℕ)
    → record { events = s.events; waiting = 0; lets = s.lets; line = s.line + 1; broken = s.broken; found = m } ≡ found_now m s
unfolding found_now
found_state s m = refl

-- nothing to judge
pub onward_state : (s : JudgedSoFar) → broken_if false s ≡ onward s
unfolding broken_if
onward_state s = refl

-- the table of a let
pub kept_room : (m m' : List (List ℕ)) (s : JudgedSoFar) (t : List ℕ) → s.lets < 32 → t ≡ get_or m (31 + s.waiting) blank → m' ≡ set m s.lets t
    → judging m' (record {
      events = s.events;
      waiting = 0;
      lets = s.lets + 1;
      line = s.line + 1;
      broken = s.broken;
      found = s.found;
    }) ≡ kept_let (judging m s)
unfolding kept_let
kept_room m m' s t h e f =
    let after : JudgedSoFar = record { events = s.events; waiting = 0; lets = s.lets + 1; line = s.line + 1; broken = s.broken; found = s.found } in
    ap (λ x. judging x after) (f ∙ ap (set m s.lets) e)
    ∙ sym (ap (λ c. cond c (judging (set m s.lets (top (judging m s))) after) (judging m (onward s))) (lt-ltb s.lets 32 h))

pub kept_full : (m : List (List ℕ)) (s r : JudgedSoFar) → 32 ≤ s.lets → r ≡ broken_if false s → judging m r ≡ kept_let (judging m s)
unfolding kept_let
kept_full m s r h e =
    let after : JudgedSoFar = record { events = s.events; waiting = 0; lets = s.lets + 1; line = s.line + 1; broken = s.broken; found = s.found } in
    ap (judging m) (e ∙ onward_state s)
    ∙ sym (ap (λ c. cond c (judging (set m s.lets (top (judging m s))) after) (judging m (onward s))) (le-ltb s.lets 32 h))

-- the lowest pair and event of the table on top
pub pair_read : (m : List (List ℕ)) (s : JudgedSoFar) (t : List ℕ) (r : ℕ) → t ≡ get_or m (31 + s.waiting) blank
    → r ≡ lowest_pair t (replicate 64 0) s.events → r ≡ any_pair (judging m s)
unfolding blank zeros
pair_read m s t r e f = f ∙ ap (λ u. lowest_pair u (replicate 64 0) s.events) e

pub apart_read : (m : List (List ℕ)) (s : JudgedSoFar) (t u : List ℕ) (r : ℕ) → t ≡ get_or m (30 + s.waiting) blank → u ≡ get_or m (31 + s.waiting) blank
    → r ≡ lowest_pair t u s.events → r ≡ lowest_pair (second (judging m s)) (top (judging m s)) s.events
apart_read m s t u r e f g = g ∙ ap₂ (λ x y. lowest_pair x y s.events) e f

-- the limits of a relation, and whether it is closed
pub limits_read : (L : List ℕ) (m : List (List ℕ)) (s : JudgedSoFar) (r : ℕ) (t u e f g : List ℕ) (k : ℕ) → t ≡ get_or m (30 + s.waiting) blank
    → u ≡ get_or m (31 + s.waiting) blank → e ≡ relation_rows L r → f ≡ composed t e → g ≡ composed f u → k ≡ lowest_pair e g s.events
    → ltb k 4096 ≡ outside L (judging m s) r
unfolding outside
limits_read L m s r t u e f g k a b c d h i =
    ap (λ x. ltb x 4096) (i
    ∙ ap₂ (λ x y. lowest_pair x y s.events) c
    (h ∙ ap₂ composed (d ∙ ap₂ composed a c) b))

pub closed_read : (L : List ℕ) (s : JudgedSoFar) (r : ℕ) (e f : List ℕ) (k : ℕ) → e ≡ relation_rows L r → f ≡ composed e e → k ≡ lowest_pair f e s.events
    → ltb k 4096 ≡ unclosed L s r
unfolding unclosed
closed_read L s r e f k a b c =
    ap (λ x. ltb x 4096) (c ∙ ap₂ (λ x y. lowest_pair x y s.events) (b ∙ ap (λ x. composed x x) a) a)

module _ (L : List ℕ) (j : Judging) (k : ℕ) where
  pub ends_bare : k < 144 → relation_line L j k ≡ onward j.state
  unfolding relation_line
  ends_bare h = rw (lt-ltb k 144 h) refl

  pub ends_within : 144 ≤ k → k < 160 → relation_line L j k ≡ broken_if (outside L j (k - 144)) j.state
  unfolding relation_line
  ends_within h i = rw (le-ltb k 144 h, lt-ltb k 160 i) refl

  pub ends_closed : 160 ≤ k → k < 176 → relation_line L j k ≡ broken_if (unclosed L j.state (k - 160)) j.state
  unfolding relation_line
  ends_closed h i = rw (le-ltb k 144 (omega arith), le-ltb k 160 h, lt-ltb k 176 i) refl

  pub ends_past : 176 ≤ k → relation_line L j k ≡ onward j.state
  unfolding relation_line
  ends_past h = rw (le-ltb k 144 (omega arith), le-ltb k 160 (omega arith), le-ltb k 176 h) refl

  module _ (x : ℕ) where
    pub ends_never : k ≡ 131 → judged_line L j k x ≡ broken_if (not (eqb (events_with L j.state.events x) 0)) j.state
    unfolding judged_line
    ends_never e = rw e refl

    pub ends_empty : k ≡ 133 → judged_line L j k x ≡ broken_if (ltb (any_pair j) 4096) j.state
    unfolding judged_line
    ends_empty e = rw e refl

    pub ends_irreflexive : k ≡ 134 → judged_line L j k x ≡ broken_if (ltb (any_loop j) 4096) j.state
    unfolding judged_line
    ends_irreflexive e = rw e refl

    pub ends_left : k ≡ 135 → judged_line L j k x ≡ j.state
    unfolding judged_line
    ends_left e = rw e refl

    pub ends_include : k ≡ 136 → judged_line L j k x ≡ found_now (lowest_pair (second j) (top j) j.state.events) j.state
    unfolding judged_line
    ends_include e = rw e refl

    pub ends_claim_empty : k ≡ 137 → judged_line L j k x ≡ found_now (any_pair j) j.state
    unfolding judged_line
    ends_claim_empty e = rw e refl

    pub ends_claim_irreflexive : k ≡ 138 → judged_line L j k x ≡ found_now (any_loop j) j.state
    unfolding judged_line
    ends_claim_irreflexive e = rw e refl

    pub ends_other : (k ≡ 131 → ⊥) → (k ≡ 133 → ⊥) → (k ≡ 134 → ⊥) → (k ≡ 135 → ⊥) → (k ≡ 136 → ⊥) → (k ≡ 137 → ⊥) → (k ≡ 138 → ⊥)
        → judged_line L j k x ≡ relation_line L j k
    unfolding judged_line
    ends_other a b c d e f g =
        rw (ne_eqb k 131 a, ne_eqb k 133 b, ne_eqb k 134 c, ne_eqb k 135 d, ne_eqb k 136 e, ne_eqb k 137 f, ne_eqb k 138 g) refl

    -- one code
    pub does_operate : k < 128 → operated L j k x ≡ performed L j (record { code = k; arg = x })
    unfolding performed
    does_operate h = sym (ap (λ c. cond c (operated L j k x) (line_ended L j k x)) (lt-ltb k 128 h))

    pub does_keep : 128 ≤ k → k ≡ 130 → kept_let j ≡ performed L j (record { code = k; arg = x })
    unfolding performed line_ended
    does_keep h e =
        sym (ap (λ c. cond c (operated L j k x) (line_ended L j k x)) (le-ltb k 128 h)
        ∙ ap (λ c. cond c (kept_let j) (record { mem = j.mem; state = judged_line L j k x })) (eq-eqb k 130 e))

    pub does_end : 128 ≤ k → (k ≡ 130 → ⊥) → (r : JudgedSoFar) → r ≡ judged_line L j k x → judging j.mem r ≡ performed L j (record { code = k; arg = x })
    unfolding performed line_ended
    does_end h n r e =
        ap (judging j.mem) e
        ∙ sym (ap (λ c. cond c (operated L j k x) (line_ended L j k x)) (le-ltb k 128 h)
        ∙ ap (λ c. cond c (kept_let j) (record { mem = j.mem; state = judged_line L j k x })) (ne_eqb k 130 n))
