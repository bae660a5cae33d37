-- `search_grow::behind` meets its contract, by whether the place is that of the empty prefix.
-- Assumes nothing.
use Rattle.search_grow.proofs.OneLetter.{behind_nothing, behind_standing}
use native.Mathlib.Omega.{arith}
use borrow.Author.Rules.{rules}
use Rattle.search_grow.proofs.behind.Goals as goal

pub returns-then-place-eq0 : goal.returns-then-place-eq0
returns-then-place-eq0 c = λ rows e. behind_nothing _ _ _ _ _ _ _ _ c.if-place-eq0.true c.begin.ensures

pub stand-requires : goal.stand-requires
stand-requires c = λ e. omega (arith, c.requires e)

pub returns : goal.returns
returns c = λ rows e.
    let a = c.args in
    behind_standing a.k a.left.now a.right.now rows a.words.now a.place (record { atom = a.a; relation = a.r }) _ _
    c.if-place-eq0.false
    (c.stand.ensures rows e) c.onward.ensures
