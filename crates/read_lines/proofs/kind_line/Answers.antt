-- `read_lines::kind_line` meets its contract: the kind of the line gives the reader that its first word chooses, and says whether a name is
-- declared. Where no line begins with the word, nothing is read.
-- Assumes nothing.
use Rattle.claims.specs.Lines.{line_kinds}
use Rattle.read_declarations.specs.inner.Kinds.{reads_at, SortOf}
use Rattle.read_lines.specs.Kinds.{number_of}
use Rattle.read_lines.proofs.FirstWords.{kind_at}
use Rattle.read_lines.proofs.FoundKinds.{declares_next, declares_none}
use Rattle.read_lines.proofs.Sorts.{none_read}
use Rattle.read_lines.proofs.Taken.{kept_declared, kept_plain, declared_outcome, plain_outcome}
use Rattle.read_lines.proofs.kind_line.Goals as goal

pub returns-in_default : goal.returns-in_default
returns-in_default c = (
  kept_plain c.plain.result _,
  (λ w sp ke.
      let a = c.args in
      kind_at _ 8 c.in_default.ensures w sp ke a.s.now a.at _ _ _ _ c.plain.result _ _
      (plain_outcome (reads_at line_kinds 8) (SortOf 8 a.s.now a.at) _ _ _ _ _ _ _ c.fail-r.result c.requires.0 (none_read _ _ _ _ _ _ _ _ c.fail-r.ensures) _
      (λ l h. h) _ c.plain.ensures)),
)

pub returns-in-Some-declares : goal.returns-in-Some-declares
returns-in-Some-declares c = (
  kept_declared _ _ _ _ _ c.declare.result _ c.declare.ensures,
  (λ w sp ke.
      let a = c.args in
      let b = c.body-r in
      let kind = c.in-Some.kind in
      kind_at _ (number_of kind) c.in-Some.ensures w sp ke a.s.now a.at _ _ _ _ c.declare.result _ _
      (declared_outcome (reads_at line_kinds (number_of kind)) (SortOf (number_of kind) a.s.now a.at) _ _ _ _ _ _ _ b.result c.requires.0 b.ensures _
      (λ l h. declares_next a.s.now a.at l kind _ c.in-Some-declares.ensures h) _ _ c.declare.ensures)),
)

pub returns-in-None : goal.returns-in-None
returns-in-None c = (
  kept_plain c.plain-in-None.result _,
  (λ w sp ke.
      let a = c.args in
      let b = c.body-r in
      let kind = c.in-Some.kind in
      kind_at _ (number_of kind) c.in-Some.ensures w sp ke a.s.now a.at _ _ _ _ c.plain-in-None.result _ _
      (plain_outcome (reads_at line_kinds (number_of kind)) (SortOf (number_of kind) a.s.now a.at) _ _ _ _ _ _ _ b.result c.requires.0 b.ensures _
      (λ l h. declares_none a.s.now a.at l kind _ c.in-None.ensures c.is_claim.ensures h) _ c.plain-in-None.ensures)),
)
