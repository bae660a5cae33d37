-- `read_text::line_end` meets its contract: what `take_while` gives is as long as the bytes in front that pass.
-- Assumes nothing.
use Rattle.std.proofs.Common.{drop, rules, tests}
use Rattle.std.proofs.lemmas.List.{take_rest}
use Rattle.std.proofs.lemmas.Iterator.{YieldsList-from_slice}
use Rattle.std.proofs.lemmas.Iterator.Consumers.{count_from_yields_List}
use Rattle.std.proofs.lemmas.Iterator.Search.{YieldsList-from_take_while}
use Rattle.read_text.specs.inner.Steps.{in_line}
use Rattle.read_tokens.proofs.Fronts.{front_taken}
use Rattle.read_text.proofs.line_end.Goals as goal

pub returns : goal.returns
unfolding in_line
returns c =
    let s = c.args.text.now in
    let i = c.args.at in
    front_taken in_line s i c.count.result c.requires
    (count_from_yields_List _ _ c.count.ensures.ran
    (YieldsList-from_take_while _ in_line (YieldsList-from_slice (drop i s) (search (rules, take_rest s i))) (search rules) (search rules) (λ x b q k. search (rules, tests))))
