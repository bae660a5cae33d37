-- `search_run::decide_alone` meets its contract: it is the search on a decision with records of zeros.
-- Assumes nothing.
use Rattle.search_run.proofs.decide_alone.Goals as goal

pub returns : goal.returns
returns c = (c.decide.new.records, c.decide.ensures)
