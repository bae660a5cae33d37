use Rattle.judge_line.proofs.JudgedLaws.{words_line, words_none, words_claim}
use Rattle.judge_line.proofs.broken_words.Goals as goal

pub returns-then-line-gt0 : goal.returns-then-line-gt0
returns-then-line-gt0 c = words_line _ _ _ c.if-line-gt0.true c.line_words.ensures

pub returns-then-holds : goal.returns-then-holds
returns-then-holds c = words_none _ _ _ _ c.if-line-gt0.false c.if-holds.true

pub returns : goal.returns
returns c = words_claim _ _ _ _ c.if-line-gt0.false c.if-holds.false c.line_ends.ensures c.line_words-2.ensures
