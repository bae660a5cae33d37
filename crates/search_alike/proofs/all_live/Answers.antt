-- `search_alike::all_live` meets its contract: each word is the set.
-- Assumes nothing.
use Prim.Native.Nat.{ℕ}
use mathlib.Core.Path.{◌≡◌, ◌∙◌}
use lib.ListN.{length-replicate, get_or-replicate}
use borrow.Author.Rules.{rules}
use Rattle.std.specs.Prelude.{replicate}
use Rattle.memory.proofs.Words.{words_ext}
use Rattle.search_alike.proofs.all_live.Goals as goal

pub returns : goal.returns
returns c =
    let live : ℕ = c.args.live in
    let e : c.fill.new.self ≡ replicate 16 live = search rules in
    e ∙ words_ext (replicate 16 live) 16 (λ k. live) (length-replicate 16 live) (λ k h. get_or-replicate 16 k live 0 h)
