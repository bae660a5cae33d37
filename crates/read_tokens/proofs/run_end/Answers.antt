-- `read_tokens::run_end` meets its contract: what `take_while` gives is as long as the bytes in front that pass.
-- Assumes nothing.
use Rattle.std.proofs.Common.{◌+◌, drop, arith, rules, tests}
use Rattle.std.proofs.lemmas.List.{take_rest}
use Rattle.std.proofs.lemmas.Iterator.{YieldsList-from_slice}
use Rattle.std.proofs.lemmas.Iterator.Consumers.{count_from_yields_List}
use Rattle.std.proofs.lemmas.Iterator.Search.{YieldsList-from_take_while}
use Rattle.read_tokens.specs.Scan.{word_byte}
use Rattle.read_tokens.proofs.Fronts.{front_taken}
use Rattle.read_tokens.proofs.run_end.Goals as goal

pub returns : goal.returns
returns c =
    let s = c.args.s.now in
    let i = c.args.at in
    front_taken word_byte s i c.count.result c.requires
    (count_from_yields_List _ _ c.count.ensures.ran
    (YieldsList-from_take_while _ word_byte (YieldsList-from_slice (drop i s) (search (rules, take_rest s i))) (search rules) (search rules) (λ x b q k. search (rules, tests))))
