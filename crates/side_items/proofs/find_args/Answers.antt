-- `side_items::find_args` meets its contract. The invariant: the memory follows the walk over the codes passed. The measure is what
-- is left of the codes.
-- Assumes nothing.
use native.Mathlib.Omega.{arith}
use mathlib.Core.Path.{refl, sym, ◌∙◌, ap}
use lib.ListN.{length, get_or, length-set}
use Rattle.side_items.proofs.Needed.{follows_start, follows_on, follows_end}
use Rattle.side_items.proofs.find_args.Goals as goal

pub loop-i-init : goal.loop-i-init
loop-i-init c =
    let a = c.args in
    (c.requires.0, omega arith, follows_start a.codes.now a.args.now)

pub arg_of-x-requires : goal.arg_of-x-requires
arg_of-x-requires c =
    let l = c.loop-i in
    (l.invariant.2.behind, omega arith, omega arith, l.invariant.2.blank)

pub bounds-args-i : goal.bounds-args-i
bounds-args-i c = simp c.arg_of-x.ensures.1 (omega arith)

pub loop-i-preserved : goal.loop-i-preserved
loop-i-preserved c =
    let k = c.keep_let in
    let x = c.arg_of-x in
    let l = c.loop-i in
    let codes = c.args.codes.now in (
      simp length-set (ap length x.ensures.1 ∙ l.invariant.0),
      omega arith,
      follows_on codes l.args _ l.starts k.new.lets l.i l.line c.line_after-line.result l.from c.from_after-from.result l.lets
          c.lets_after-lets.result (get_or codes l.i 0) x.result l.invariant.2 x.ensures.1 refl x.ensures.0 k.ensures
          c.line_after-line.ensures c.from_after-from.ensures c.lets_after-lets.ensures (omega arith) (omega arith),
    )

pub shape_of-args : goal.shape_of-args
shape_of-args c = c.loop-i.invariant.0 ∙ sym c.requires.0

pub returns : goal.returns
returns c =
    let l = c.loop-i in
    follows_end c.args.codes.now l.args l.starts l.i l.line l.from l.lets l.invariant.2
    (omega arith) (omega arith)
