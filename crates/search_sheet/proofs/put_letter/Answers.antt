-- `search_sheet::put_letter` meets its contract: the atom, and the relation behind it.
-- Assumes nothing.
use Prim.Native.Nat.{◌%◌}
use native.Mathlib.Omega.{arith}
use mathlib.Core.Path.{◌∙◌, ap₂}
use Rattle.claims.specs.Fields.{big_endian}
use Rattle.search_contents.specs.Written.{over}
use Rattle.search_sheet.proofs.Steps.{letter_put}
use borrow.Author.Rules.{rules}
use Rattle.search_sheet.proofs.put_letter.Goals as goal

pub returns : goal.returns
returns c =
    let a = c.args in
    let first = c.put_big_endian-second in
    let second = c.put_big_endian in
    second.ensures.1 ∙ ap₂ (λ k xs. over k (big_endian 1 (a.l % 16)) xs) first.ensures.0 first.ensures.1
    ∙ letter_put a.at a.l a.out.now (omega arith)
