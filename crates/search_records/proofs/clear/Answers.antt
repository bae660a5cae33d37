-- `search_records::clear` meets its contract: n blank records, and behind them what was lent.
-- Assumes nothing.
use Prim.Native.Nat.{min}
use mathlib.Core.Path.{◌≡◌, ◌∙◌, ap}
use mathlib.Core.List.{◌++◌}
use lib.ListN.{length, take, drop, replicate}
use lib.Seq.{length-take-le}
use borrow.Author.Rules.{rules}
use Rattle.claims.specs.Calls.{cleared}
use Rattle.search_records.specs.Records.{blank}
use Rattle.search_records.proofs.clear.Goals as goal

pub returns : goal.returns
unfolding cleared
returns c =
    let a = c.args in
    let e : c.fill.new.self ≡ replicate (length (take a.n a.records.now)) blank = search rules in
    ap (λ l. l ++ drop a.n a.records.now) (e ∙ ap (λ k. replicate k blank) (length-take-le a.n a.records.now c.requires))
