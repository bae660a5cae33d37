-- `bits::meets_rows` meets its contract: `any` over the members is `some` over their list.
-- Assumes nothing.
use Rattle.std.proofs.Common.{rules, tests, ◌∙◌}
use Rattle.std.proofs.lemmas.Iterator.Search.{any_from_yields_List}
use Rattle.std.proofs.lemmas.Iterator.Consumers.{YieldsList-from_first}
use Rattle.bits.specs.Sets.{members, row, meets, meets_rows}
use Rattle.bits.specs.Walk.{members_left}
use Rattle.kat.proofs.Chains.{some_any}
use Rattle.bits.proofs.meets_rows.Goals as goal

pub returns : goal.returns
unfolding meets_rows meets
returns c =
    any_from_yields_List (λ k. meets (row c.args.rows.now k) c.args.t) _ _ _ c.any.ensures.ran
    (YieldsList-from_first (λ x. x) members_left (members c.args.s) c.of.ensures) (λ x b q k. search (rules, tests))
    ∙ some_any _ (members c.args.s)
