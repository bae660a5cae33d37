-- `side_relations::removed_set` meets its contract: a fold over the codes with what they need unites what each of them removes.
-- Assumes nothing.
use Rattle.std.proofs.Common.{◌≡◌, sym, ◌∙◌, ℕ, List, [], ◌∷◌, cond, rules}
use Rattle.std.specs.List.{fold, zip}
use Rattle.std.proofs.lemmas.Iterator.{YieldsList-from_slice, YieldsList-from_zip}
use Rattle.std.proofs.lemmas.Iterator.Consumers.{fold_from_yields_List}
use lib.Bits.{bit_or, or_zero_l, or_zero_r}
use lib.Dec.{eqb}
use Rattle.bits.proofs.Bit.{or_assoc}
use Rattle.side_items.specs.Items.{paired}
use Rattle.side_relations.specs.Relations.{removed_set}
use Rattle.side_relations.proofs.removed_set.Goals as goal

-- what one code removes besides
abbrev with_code : ℕ → ℕ × ℕ → ℕ
with_code s p = bit_or s (cond (eqb p.0 131) p.1 0)

folded : (s : ℕ) (ks xs : List ℕ) → fold with_code s (zip ks xs) ≡ bit_or s (removed_set (paired ks xs))
unfolding paired removed_set
folded s [] xs = sym (or_zero_r s)
folded s (k ∷ ks) [] = sym (or_zero_r s)
folded s (k ∷ ks) (x ∷ xs) = folded (with_code s (k, x)) ks xs ∙ or_assoc s (cond (eqb k 131) x 0) (removed_set (paired ks xs))

pub returns : goal.returns
returns c =
    let a = c.args in
    fold_from_yields_List _ with_code 0 c.fold.result c.fold.ensures.ran
    (YieldsList-from_zip (YieldsList-from_slice a.codes.now cc) (YieldsList-from_slice a.args.now cc)) (λ s p r f k. search rules)
    ∙ folded 0 a.codes.now a.args.now ∙ or_zero_l (removed_set (paired a.codes.now a.args.now))
