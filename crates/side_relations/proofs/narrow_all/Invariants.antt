-- `side_relations::narrow_all` meets its contract. The invariant: the codes that are left, on the sets as they are, give what all codes give
-- on the sets at the start.
-- Assumes nothing.
use mathlib.Core.Path.{◌≡◌}
use Rattle.side_items.specs.Items.{paired}
use Rattle.side_relations.specs.Relations.{limits_from}
use Rattle.side_relations.proofs.narrow_all.Given as goal

abbrev pub invariant-loop-code : goal.invariant-loop-code
invariant-loop-code l =
    limits_from l.x l.y (paired l.code-iterator.a.rest.now l.code-iterator.b.rest.now) l.limits ≡ limits_from 0 0 (paired l.codes l.args) l.initial.limits
