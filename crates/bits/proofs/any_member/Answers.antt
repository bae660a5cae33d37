-- `bits::any_member` meets its contract: `any` over the members is `some` over their list.
-- Assumes nothing.
use Rattle.std.proofs.Common.{rules, ◌∙◌}
use Rattle.std.proofs.lemmas.Iterator.Search.{any_from_yields_List}
use Rattle.std.proofs.lemmas.Iterator.Consumers.{YieldsList-from_first}
use Rattle.claims.specs.Query.{bit}
use Rattle.bits.specs.Sets.{members, row, any_member}
use Rattle.bits.specs.Walk.{members_left}
use Rattle.kat.proofs.Chains.{some_any}
use Rattle.bits.proofs.any_member.Goals as goal

pub returns : goal.returns
unfolding any_member
returns c =
    any_from_yields_List (λ p. bit c.args.k (row c.args.rows.now p)) _ _ _ c.any.ensures.ran
    (YieldsList-from_first (λ x. x) members_left (members c.args.s) c.of.ensures) (λ x b q k. search rules)
    ∙ some_any _ (members c.args.s)
