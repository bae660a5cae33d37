-- `side_relations::closed_set` meets its contract: the fold over the codes is the definition's own walk.
-- Assumes nothing.
use Rattle.std.proofs.Common.{◌≡◌, refl, ◌∙◌, ℕ, List, [], ◌∷◌, rules}
use Rattle.std.specs.List.{fold}
use Rattle.side_relations.specs.Relations.{closed_with, closed_set}
use Rattle.side_relations.proofs.closed_set.Goals as goal

folded : (s : ℕ) (ks : List ℕ) → fold closed_with s ks ≡ closed_set s ks
unfolding closed_set
folded s [] = refl
folded s (k ∷ ks) = folded (closed_with s k) ks

pub returns : goal.returns
returns c = let e : c.fold.result ≡ fold closed_with 0 c.args.codes.now = search rules in e ∙ folded 0 c.args.codes.now
