-- `confirmed_search::search_and_check` meets its contract: the outcome of the search, kept by the check of its sheet, is the outcome.
-- Assumes nothing.
use Rattle.confirmed_search.proofs.Confirmed.{checked_gives}
use Rattle.confirmed_search.proofs.search_and_check.Goals as goal

pub returns : goal.returns
returns c =
    let a = c.args in
    let s = c.search-r in
    checked_gives a.text.now a.allowance a.records.now a.words.now a.buffer.now s.new.records s.new.words s.new.buffer s.result s.ensures.gives _
    c.sheet_of-sheet.ensures c.kept.result c.kept.ensures
