-- `rows::lowest_from` meets its contract. The invariant: the lowest pair from the events from x on is the lowest of all, since none before has
-- one.
-- Assumes nothing.
use Prim.Native.Nat.{ℕ, ◌-◌, ◌^◌}
use native.Mathlib.Omega.{arith}
use mathlib.Core.Path.{◌≡◌, refl, ◌∙◌}
use lib.Bits.{bit_and, and_le_r}
use lib.ListN.{get_or}
use mathlib.Core.List.{List}
use Rattle.bits.proofs.Lowest.{Lowest, lowest}
use Rattle.rows.proofs.Sought.{pair_begin, pair_more, pair_found, pair_end}
use Rattle.rows.proofs.lowest_from.Goals as goal

-- what u lacks of t in a row
abbrev lacking : List ℕ → List ℕ → ℕ → ℕ
lacking t u x = bit_and (get_or t x 0) (2 ^ 64 - 1 - get_or u x 0)

-- its lowest member, where it has one
lowest_lacking : (t u : List ℕ) (x : ℕ) → (lacking t u x ≡ 0 → ⊥) → Lowest 64 (lacking t u x)
lowest_lacking t u x h = lowest 64 (lacking t u x) (omega (arith, and_le_r (get_or t x 0) (2 ^ 64 - 1 - get_or u x 0))) h

pub loop-x-init : goal.loop-x-init
loop-x-init c =
    let a = c.args in
    (omega arith, c.least-m.ensures, pair_begin a.t.now a.u.now a.n)

pub overflow_sub-left : goal.overflow_sub-left
overflow_sub-left c = omega (arith, c.shared_slice_known-in-loop-x-2-1.given c.loop-x.x)

pub overflow_cast-y : goal.overflow_cast-y
overflow_cast-y c = omega (arith, (lowest_lacking c.args.t.now c.args.u.now c.loop-x.x c.if-left-ne0.true).inside)

pub overflow_mul-result : goal.overflow_mul-result
overflow_mul-result c = omega (arith, (lowest_lacking c.args.t.now c.args.u.now c.loop-x.x c.if-left-ne0.true).inside)

pub overflow_add-result : goal.overflow_add-result
overflow_add-result c = omega (arith, (lowest_lacking c.args.t.now c.args.u.now c.loop-x.x c.if-left-ne0.true).inside)

pub returns-then-left-ne0 : goal.returns-then-left-ne0
returns-then-left-ne0 c =
    let l = c.loop-x in
    let a = c.args in
    pair_found a.t.now a.u.now l.x a.n (lacking a.t.now a.u.now l.x) (omega arith) refl (lowest_lacking c.args.t.now c.args.u.now c.loop-x.x c.if-left-ne0.true) ∙ l.invariant.2

pub loop-x-preserved : goal.loop-x-preserved
loop-x-preserved c =
    let l = c.loop-x in
    let a = c.args in
    (omega arith, l.invariant.1, pair_more a.t.now a.u.now l.x a.n _ (omega arith) refl c.if-left-ne0.false ∙ l.invariant.2)

pub returns : goal.returns
returns c =
    let l = c.loop-x in
    let a = c.args in
    pair_end a.t.now a.u.now l.x a.n (omega arith) ∙ l.invariant.2
