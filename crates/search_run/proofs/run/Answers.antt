-- `search_run::run` meets its contract: the letters that are tried, the levels, the report and the memory that is cleared, in a row. `OneRun` and
-- `OverRecords` have what each call asks and what they give together.
-- Assumes nothing.
use Rattle.search_records.specs.Rows.{rows}
use Rattle.search_run.proofs.OneRun.{levels_ready, run_reportable, run_words}
use Rattle.search_run.proofs.OverRecords.{clear_asks, ran}
use Rattle.search_run.proofs.run.Goals as goal

pub levels-found-requires : goal.levels-found-requires
levels-found-requires c =
    let a = c.args in
    levels_ready a.f c.shape_of-k.result c.shape_of-k.ensures a.allowance (rows a.records.now) a.words.now c.requires.0 c.requires.1

pub report-r-requires : goal.report-r-requires
report-r-requires c =
    let a = c.args in
    let t = c.letters_tried in
    let l = c.levels-found in
    run_reportable a.f a.left.now a.right.now t.new.first t.new.later a.allowance (rows a.records.now) a.words.now c.requires.0
    (t.ensures.first_ones, t.ensures.later_ones) c.shape_of-k.result c.shape_of-k.ensures l.result (rows l.new.records) l.new.words l.ensures

pub clear-requires : goal.clear-requires
clear-requires c =
    let a = c.args in
    let t = c.letters_tried in
    let l = c.levels-found in
    clear_asks a.f a.left.now a.right.now t.new.first t.new.later a.allowance a.records.now a.words.now c.requires.0
    (t.ensures.first_ones, t.ensures.later_ones) c.shape_of-k.result c.shape_of-k.ensures l.result l.new.records l.new.words l.ensures
    c.records_needed-slots.result c.records_needed-slots.ensures

pub words_needed-cells-requires : goal.words_needed-cells-requires
words_needed-cells-requires c = c.requires.0.allowance

pub clear_words-requires : goal.clear_words-requires
clear_words-requires c =
    let a = c.args in
    let t = c.letters_tried in
    let l = c.levels-found in
    run_words a.f a.left.now a.right.now t.new.first t.new.later a.allowance (rows a.records.now) a.words.now c.requires.0
    (t.ensures.first_ones, t.ensures.later_ones) c.shape_of-k.result c.shape_of-k.ensures l.result (rows l.new.records) l.new.words l.ensures
    c.words_needed-cells.result c.words_needed-cells.ensures

pub returns : goal.returns
returns c =
    let a = c.args in
    let t = c.letters_tried in
    let l = c.levels-found in
    ran a.f a.left.now a.right.now t.new.first t.new.later a.allowance a.records.now a.words.now c.requires.0
    (t.ensures.first_ones, t.ensures.later_ones) c.shape_of-k.result c.shape_of-k.ensures l.result l.new.records l.new.words l.ensures
    a.buffer.now c.report-r.new.buffer c.report-r.result c.report-r.ensures c.records_needed-slots.result c.words_needed-cells.result
    c.records_needed-slots.ensures c.words_needed-cells.ensures c.clear.new.records c.clear_words.new.words c.clear.ensures c.clear_words.ensures
