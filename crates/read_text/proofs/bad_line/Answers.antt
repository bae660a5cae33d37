-- `read_text::bad_line` meets its contract. The invariant: what is found in the bytes left, from the line reached, is what is found in all.
-- Assumes nothing.
use Prim.Native.Nat.{◌+◌}
use native.Mathlib.Omega.{arith}
use mathlib.Core.Path.{refl, sym, ◌∙◌, ap}
use lib.ListN.{drop}
use Rattle.claims.specs.Reading.{bad_line}
use Rattle.read_text.proofs.TextLines.{byte_ends, byte_allowed, byte_low, byte_high, bytes_over}
use Rattle.read_text.proofs.bad_line.Goals as goal
use Rattle.read_text.proofs.bad_line.Goals.{then-b-eq10, else-b-eq10+else-b-lt32+else-b-gt126}

pub loop-x-init : goal.loop-x-init
loop-x-init c = (omega arith, omega arith, refl)

pub returns-then-b-lt32 : goal.returns-then-b-lt32
returns-then-b-lt32 c =
    let l = c.loop-x in
    sym l.invariant.2 ∙ byte_low l.line _ l.x-index (omega arith) c.if-b-eq10.false c.if-b-lt32.true

pub returns-then-b-gt126 : goal.returns-then-b-gt126
returns-then-b-gt126 c =
    let l = c.loop-x in
    sym l.invariant.2 ∙ byte_high l.line _ l.x-index (omega arith) c.if-b-eq10.false c.if-b-gt126.true

pub loop-x-preserved : goal.loop-x-preserved
loop-x-preserved c =
    let l = c.loop-x in
    elim c.if-b-eq10.branch [
      | then-b-eq10 w ↦ (omega arith, omega (arith, w.line-is), ap (λ n. bad_line n (drop (l.x-index + 1) c.args.text.now)) w.line-is ∙ byte_ends l.line _ l.x-index (omega arith) w.if-b-eq10.true ∙ l.invariant.2)
      | else-b-eq10+else-b-lt32+else-b-gt126 w ↦ (omega arith, omega (arith, w.line-is), ap (λ n. bad_line n (drop (l.x-index + 1) c.args.text.now)) w.line-is ∙ byte_allowed l.line _ l.x-index (omega arith) w.if-b-eq10.false w.if-b-lt32.false w.if-b-gt126.false ∙ l.invariant.2)
    ]

pub returns : goal.returns
returns c =
    let l = c.loop-x in
    sym l.invariant.2 ∙ bytes_over l.line _ l.x-index (omega arith)
