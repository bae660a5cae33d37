-- `sheet_cover::some_pair_turns` meets its contract. The invariant: some row of those left passes exactly where some row does.
-- Assumes nothing.
use native.Mathlib.Omega.{arith}
use mathlib.Core.Path.{sym, ◌∙◌, ap₂}
use Rattle.sheet_standings.specs.RingCells.{row_n}
use Rattle.sheet_cover.specs.inner.Rounds.{pairs_of}
use Rattle.sheet_cover.proofs.Sought.{pairs_begin, pairs_hit, pairs_miss, pairs_end}
use Rattle.sheet_cover.proofs.some_pair_turns.Goals as goal

pub loop-q-init : goal.loop-q-init
loop-q-init c = pairs_begin c.args.t.now c.args.s.now c.args.m

pub pair_turns-requires : goal.pair_turns-requires
pair_turns-requires c = (omega arith, c.requires)

pub returns-then-pair_turns : goal.returns-then-pair_turns
unfolding row_n
returns-then-pair_turns c =
    let l = c.loop-q in
    let a = c.args in
    sym (pairs_hit a.t.now a.s.now a.m l.q (omega arith)
    (sym (ap₂ (λ w v. pairs_of w v l.q a.m) c.word.ensures c.word-in-loop-q.ensures)
    ∙ sym c.pair_turns.ensures ∙ c.if-pair_turns.true))
    ∙ l.invariant

pub loop-q-preserved : goal.loop-q-preserved
unfolding row_n
loop-q-preserved c =
    let l = c.loop-q in
    let a = c.args in
    pairs_miss a.t.now a.s.now a.m l.q (omega arith)
    (sym (ap₂ (λ w v. pairs_of w v l.q a.m) c.word.ensures c.word-in-loop-q.ensures)
    ∙ sym c.pair_turns.ensures ∙ c.if-pair_turns.false)
    ∙ l.invariant

pub returns : goal.returns
returns c =
    let l = c.loop-q in
    let a = c.args in
    sym (pairs_end a.t.now a.s.now a.m l.q (omega arith)) ∙ l.invariant
