-- `read_tokens::skip` meets its contract: what `take_while` gives is as long as the bytes in front that pass.
-- Assumes nothing.
use Rattle.std.proofs.Common.{◌+◌, drop, arith, rules, tests}
use Rattle.std.proofs.lemmas.List.{take_rest}
use Rattle.std.proofs.lemmas.Iterator.{YieldsList-from_slice}
use Rattle.std.proofs.lemmas.Iterator.Consumers.{count_from_yields_List}
use Rattle.std.proofs.lemmas.Iterator.Search.{YieldsList-from_take_while}
use Rattle.read_tokens.specs.Scan.{is_space}
use Rattle.read_tokens.proofs.Fronts.{front_taken}
use Rattle.read_tokens.proofs.skip.Goals as goal

pub returns : goal.returns
unfolding is_space
returns c =
    let s = c.args.s.now in
    let i = c.args.at in
    front_taken is_space s i c.count.result c.requires
    (count_from_yields_List _ _ c.count.ensures.ran
    (YieldsList-from_take_while _ is_space (YieldsList-from_slice (drop i s) (search (rules, take_rest s i))) (search rules) (search rules) (λ x b q k. search (rules, tests))))
