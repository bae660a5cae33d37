-- `sheet_cover::merged` meets its contract.
-- Assumes nothing.
use Rattle.sheet_cover.proofs.Rounds.{merged_in, merged_out}
use Rattle.sheet_cover.proofs.merged.Goals as goal

pub returns-then-member : goal.returns-then-member
returns-then-member c = let a = c.args in merged_in a.w a.c a.k c.member.result c.member.ensures c.if-member.true

pub returns-else-member : goal.returns-else-member
returns-else-member c = let a = c.args in merged_out a.w a.c a.k c.member.result c.member.ensures c.if-member.false
