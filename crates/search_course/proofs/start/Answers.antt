-- `search_course::start` meets its contract: a single atom refutes, or the letters behind the empty prefix are left.
-- Assumes nothing.
use Rattle.search_course.proofs.FirstTurn.{atom_refutes, letters_first}
use mathlib.Core.Path.{refl}
use borrow.Author.Rules.{rules}
use Rattle.search_course.proofs.start.Goals as goal

pub returns-then-a-lt64 : goal.returns-then-a-lt64
returns-then-a-lt64 c = let a = c.args in
    let f = c.first_alone-a in
    λ k first later cap r w same ready. (
      refl,
      atom_refutes k a.left.now a.right.now first later cap r w a.live same ready f.result f.ensures c.if-a-lt64.true,
    )

pub returns-else-a-lt64 : goal.returns-else-a-lt64
returns-else-a-lt64 c = let a = c.args in
    let f = c.first_alone-a in
    λ k first later cap r w same ready. (
      refl,
      letters_first k a.left.now a.right.now first later cap r w a.live same ready f.result f.ensures c.if-a-lt64.false (search rules),
    )
