-- `side_relations::narrow_all` meets its contract. The invariant: the codes that are left, on the sets as they are, give what all codes give
-- on the sets at the start.
-- Assumes nothing.
use mathlib.Core.Path.{sym, ◌∙◌, ap₂}
use mathlib.Core.Logic.{⊎_elim}
use mathlib.Core.List.{List}
use Prim.Native.Nat.{ℕ}
use Rattle.side_items.specs.Items.{paired}
use Rattle.side_relations.specs.Relations.{limits_from}
use Rattle.side_relations.proofs.Narrowed.{limits_more, limits_codes_end, limits_args_end}
use Rattle.side_relations.proofs.narrow_all.Goals as goal

pub loop-code-preserved : goal.loop-code-preserved
loop-code-preserved c =
    let l = c.loop-code in
    let s = c.in-Some.ensures.steps in
    limits_more _ _ l.x l.y _ _ l.limits c.narrow.new.limits _ _ c.narrow.ensures c.behind-x.ensures c.behind-y.ensures
    ∙ ap₂ (λ (ks xs : List ℕ). limits_from l.x l.y (paired ks xs) l.limits) (sym s.0) (sym s.1)
    ∙ l.invariant

pub returns : goal.returns
returns c =
    let l = c.loop-code in
    ⊎_elim (λ e. sym (limits_codes_end l.x l.y l.limits _ _ e.1.0) ∙ l.invariant) (λ e. sym (limits_args_end l.x l.y l.limits _ _ e.1.0) ∙ l.invariant)
    c.in-None.ensures.steps
