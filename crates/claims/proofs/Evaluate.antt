-- The definitions opened, so that they compute on given bytes: a declaration that says `unfolding everything` may evaluate any of them,
-- here and below. Each name here stands for the definitions of one file of `specs/`.
-- Assumes nothing.
use Rattle.claims.specs.Fields
use Rattle.claims.specs.SheetBytes
use Rattle.claims.specs.SheetReading
use Rattle.claims.specs.GraphBytes
use Rattle.claims.specs.Judgement
use Rattle.claims.specs.Drawn
use Rattle.claims.specs.Calls
use Rattle.claims.specs.Printed
use Rattle.verdicts.proofs.Evaluate.{everything as below}

unfoldable pub open-Fields : Unit {0}
unfolding Fields.big_endian Fields.from_bytes Fields.set_number Fields.number_set Fields.field Fields.contents_of Fields.next_field
open-Fields = tt

unfoldable pub open-SheetBytes : Unit {0}
unfolding SheetBytes.set_bytes SheetBytes.row_bytes SheetBytes.table_bytes SheetBytes.contents_length SheetBytes.path_bytes SheetBytes.ring_bytes SheetBytes.standing_fields SheetBytes.sheet_bytes
open-SheetBytes = tt

unfoldable pub open-SheetReading : Unit {0}
unfolding SheetReading.set_of SheetReading.set_fits SheetReading.path_of SheetReading.row_numbers SheetReading.rows_pass SheetReading.row_of_m SheetReading.row_of_n SheetReading.table_of SheetReading.ring_of SheetReading.word_of SheetReading.tagged SheetReading.verdict_is SheetReading.word_in SheetReading.standing_in SheetReading.standings_in SheetReading.word_from SheetReading.part_from SheetReading.part_in SheetReading.only_part SheetReading.sheet_in
open-SheetReading = tt

unfoldable pub open-GraphBytes : Unit {0}
unfolding GraphBytes.same_edge GraphBytes.with_event GraphBytes.with_edge GraphBytes.with_field GraphBytes.fields_in GraphBytes.graph_in GraphBytes.finite
open-GraphBytes = tt

unfoldable pub open-Judgement : Unit {0}
unfolding Judgement.events Judgement.pairs_of Judgement.some_pair Judgement.judged Judgement.breaks Judgement.first_broken Judgement.lowest_event Judgement.lowest_to Judgement.lowest_pair Judgement.claimed Judgement.judgement
open-Judgement = tt

unfoldable pub open-Drawn : Unit {0}
unfolding Drawn.line_atoms Drawn.all_but_last Drawn.ring_atoms Drawn.line_steps Drawn.ring_steps Drawn.steps_of Drawn.filled Drawn.drawn
open-Drawn = tt

unfoldable pub open-Calls : Unit {0}
unfolding Calls.answer_of Calls.searched Calls.asked Calls.needed_records Calls.needed_words Calls.cleared Calls.left_behind Calls.enough_memory Calls.finish Calls.search_asked Calls.search_call Calls.passed_of Calls.checked Calls.check_call Calls.judge_call
open-Calls = tt

unfoldable pub open-Printed : Unit {0}
unfolding Printed.answer_line Printed.line_of Printed.answered Printed.program_allowance Printed.memory_for Printed.asks_ring Printed.program_result Printed.printed
open-Printed = tt

unfoldable pub everything : Unit {0}
unfolding below open-Fields open-SheetBytes open-SheetReading open-GraphBytes open-Judgement open-Drawn open-Calls open-Printed
everything = tt
