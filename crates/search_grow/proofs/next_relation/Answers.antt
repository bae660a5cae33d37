-- `search_grow::next_relation` meets its contract: the relations that are passed over are not tried with the atom.
-- Assumes nothing.
use mathlib.Core.Path.{◌≡◌, refl, sym, ◌∙◌, ap}
use Rattle.search_grow.proofs.Letters.{relation_skip, relations_none}
use Rattle.search_grow.specs.Masks.{relations_left, tried}
use borrow.Author.Rules.{rules}
use native.Mathlib.Omega.{arith}
use Prim.Native.Nat.{◌-◌, ◌≤◌}
use Rattle.search_grow.proofs.next_relation.Goals as goal

pub loop-i-init : goal.loop-i-init
loop-i-init c = (omega arith, omega arith, refl)

pub returns-then-member : goal.returns-then-member
unfolding tried
returns-then-member c = (c.loop-i.invariant.0, omega arith, c.loop-i.invariant.2, sym c.member.ensures ∙ c.if-member.true)

pub loop-i-preserved : goal.loop-i-preserved
unfolding tried
loop-i-preserved c = (
  omega arith,
  omega arith,
  c.loop-i.invariant.2 ∙ relation_skip _ _ _ _ (omega arith) (sym c.member.ensures ∙ c.if-member.false),
)

pub returns : goal.returns
returns c =
    let l = c.loop-i in
    l.invariant.2 ∙ relations_none c.args.masks.now c.args.relations c.args.a l.i (omega arith)
