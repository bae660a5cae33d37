use mathlib.Core.Path.{sym, ◌∙◌}
use Rattle.case_lines.proofs.FieldLaws.{hex_none, hex_some}
use Rattle.case_lines.proofs.hex.Goals as goal

pub returns-then-no_bytes : goal.returns-then-no_bytes
returns-then-no_bytes c = hex_none c.args.text.now _ (sym c.if-no_bytes.true ∙ c.no_bytes.ensures)

pub returns : goal.returns
returns c =
    hex_some c.args.text.now (sym c.if-no_bytes.false ∙ c.no_bytes.ensures) c.hex_pairs-used.ensures
