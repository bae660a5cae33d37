-- An answer that is a judgement, and which one it is.
-- Assumes nothing.
use mathlib.Core.Path.{◌≡◌, ◌∙◌, ap}
use Rattle.std.specs.Prelude.{Ok}
use Rattle.graph.specs.declared.Judged.{Judged}
use Rattle.graph.specs.Answers.{Answer}

pub judged_as : {j : Answer} {x y : Judged} → j ≡ Ok x → x ≡ y → j ≡ Ok y
judged_as {j} {x} {y} e f = e ∙ ap (λ (z : Judged). Ok z) f
