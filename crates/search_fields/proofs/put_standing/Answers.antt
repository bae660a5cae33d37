-- `search_fields::put_standing` meets its contract: the field by the kind of the claim.
-- Assumes nothing.
use native.Mathlib.Omega.{arith}
use mathlib.Core.Path.{sym, ◌∙◌, ap}
use Rattle.search_contents.specs.Written.{written}
use Rattle.search_contents.specs.FieldWords.{field_words}
use Rattle.search_contents.proofs.Fields.{length_ring, length_path}
use borrow.Author.Rules.{rules}
use Rattle.search_fields.proofs.put_standing.Goals as goal

pub put_ring-requires : goal.put_ring-requires
put_ring-requires c = omega (arith, length_ring _ c.if-ring.true)

pub returns-then-ring : goal.returns-then-ring
returns-then-ring c =
    let a = c.args in
    let p = c.put_ring in (
      p.ensures.0 ∙ sym (length_ring a.ring c.if-ring.true),
      p.ensures.1 ∙ ap (λ b. written (field_words b a.s.now) a.out.now) (sym c.if-ring.true),
    )

pub put_path-requires : goal.put_path-requires
put_path-requires c = omega (arith, length_path _ c.if-ring.false)

pub returns : goal.returns
returns c =
    let a = c.args in
    let p = c.put_path in (
      p.ensures.0 ∙ sym (length_path a.ring c.if-ring.false),
      p.ensures.1 ∙ ap (λ b. written (field_words b a.s.now) a.out.now) (sym c.if-ring.false),
    )
