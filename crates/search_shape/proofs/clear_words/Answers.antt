-- `search_shape::clear_words` meets its contract: n words of 0, and behind them what was lent.
-- Assumes nothing.
use mathlib.Core.Path.{◌≡◌, ◌∙◌, ap}
use mathlib.Core.List.{◌++◌}
use lib.ListN.{length, take, drop, replicate}
use lib.Seq.{length-take-le}
use borrow.Author.Rules.{rules}
use Rattle.claims.specs.Calls.{cleared}
use Rattle.search_shape.proofs.clear_words.Goals as goal

pub returns : goal.returns
unfolding cleared
returns c =
    let a = c.args in
    let e : c.fill.new.self ≡ replicate (length (take a.n a.words.now)) 0 = search rules in
    ap (λ l. l ++ drop a.n a.words.now) (e ∙ ap (λ k. replicate k 0) (length-take-le a.n a.words.now c.requires))
