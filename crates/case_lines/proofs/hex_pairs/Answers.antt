use Prim.Native.Nat.{ℕ, ◌*◌, ◌≤◌, ◌<◌}
use native.Mathlib.Omega.{arith}
use mathlib.Core.Path.{◌≡◌, subst}
use lib.ListN.{length}
use Rattle.case_lines.specs.Fields.{Puts, hex_pairs}
use Rattle.case_lines.proofs.FieldLaws.{pairs_more, pairs_space, pairs_end}
use Rattle.case_lines.proofs.Putting.{left_more, left_none, left_full, puts_one}
use borrow.Author.Rules.{rules}
use Rattle.case_lines.proofs.hex_pairs.Goals as goal

pub loop-used-init : goal.loop-used-init
loop-used-init c = (omega arith, search rules, λ r n p. p)

pub returns-then-text-used-lt2 : goal.returns-then-text-used-lt2
returns-then-text-used-lt2 c =
    let at = c.loop-used in left_none (pairs_end c.args.text.now (2 * at.used) c.if-text-used-lt2.true) at.invariant.2

pub returns-then-text-used-eq32 : goal.returns-then-text-used-eq32
returns-then-text-used-eq32 c =
    let at = c.loop-used in
    left_none (pairs_space c.args.text.now _ (omega arith) c.if-text-used-eq32.true) at.invariant.2

pub loop-used-preserved : goal.loop-used-preserved
loop-used-preserved c =
    let at = c.loop-used in
    let t = c.args.text.now in
    let h : at.used < length at.to = omega arith in
    (omega arith, search rules, left_more _ _ (pairs_more t at.used _ (omega arith) c.if-text-used-eq32.false c.hex_byte.ensures) at.invariant.2 (puts_one _ _ _ h))

pub returns : goal.returns
returns c =
    let at = c.loop-used in
    let h : length at.to ≤ at.used = omega arith in
    let e : at.used ≡ length at.to = omega arith in
    subst (λ (k : ℕ). Puts c.args.to.now 0 (hex_pairs c.args.text.now) k at.to) e (left_full _ h at.invariant.2)
