-- `search_outcomes::tell` meets its contract, by what was found.
-- Assumes nothing.
use Rattle.search_outcomes.proofs.Reported.{tell_short, tell_proved, tell_refuted, tell_spent}
use borrow.Author.Rules.{rules}
use Rattle.search_outcomes.proofs.tell.Goals as goal

pub returns-then-x : goal.returns-then-x
returns-then-x c = λ ring r w b₀ word b ended h. tell_short ring r w b₀ word b _ ended c.if-x.true _ h

pub returns-in-Proved : goal.returns-in-Proved
returns-in-Proved c = λ ring r w b₀ word b ended h. tell_proved ring r w b₀ word b _ ended c.if-x.false _ _ c.in-Proved.is h

pub returns-in-Refuted : goal.returns-in-Refuted
returns-in-Refuted c = λ ring r w b₀ word b ended h. tell_refuted ring r w b₀ word b _ ended c.if-x.false _ _ _ c.in-Refuted.is h

pub returns-in-Spent : goal.returns-in-Spent
returns-in-Spent c = λ ring r w b₀ word b ended h. tell_spent ring r w b₀ word b _ ended _ c.in-Spent.is h
