-- `read_lines::line_kind` meets its contract: the first kind whose word has the key stands where the table of line kinds has that word.
-- Assumes nothing.
use Rattle.std.proofs.Common.{◌∙◌, ap, rules}
use Rattle.std.proofs.lemmas.Iterator.{YieldsList-from_slice}
use Rattle.std.proofs.lemmas.Iterator.Search.{find_from_yields_List}
use Rattle.read_names.specs.Keys.{same_key}
use Rattle.read_lines.specs.Kinds.{place_among, all_kinds}
use Rattle.read_lines.proofs.FoundKinds.{has_key, found_place}
use Rattle.read_lines.proofs.line_kind.Goals as goal

pub returns : goal.returns
unfolding same_key
returns c =
    let found =
    find_from_yields_List (has_key c.args.k) _ _ c.find.result c.find.ensures.ran (YieldsList-from_slice all_kinds (search rules))
    (λ x b q k. search rules) in
    ap place_among (c.copied.ensures ∙ found) ∙ found_place c.args.k
