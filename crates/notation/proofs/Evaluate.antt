-- The definitions opened, so that they compute on given bytes: a declaration that says `unfolding everything` may evaluate any of them,
-- here and below. Each name here stands for the definitions of one file of `specs/`.
-- Assumes nothing.
use Rattle.kat.specs.Tables
use Rattle.notation.specs.Bytes
use Rattle.notation.specs.Tokens
use Rattle.notation.specs.Grammar
use Rattle.notation.specs.Lines
use Rattle.notation.specs.Refusals
use Rattle.notation.specs.RefusalLine
use Rattle.notation.specs.Names
use Rattle.notation.specs.Query
use Rattle.notation.specs.Width
use Rattle.notation.specs.Expanded
use Rattle.notation.specs.Counting
use Rattle.notation.specs.Decisions
use Rattle.notation.specs.Reading
use Rattle.notation.specs.Sides

unfoldable pub open-Tables : Unit {0}
unfolding Tables.after Tables.ends
open-Tables = tt

unfoldable pub open-Bytes : Unit {0}
unfolding Bytes.in_front Bytes.raw_lines
open-Bytes = tt

unfoldable pub open-Tokens : Unit {0}
unfolding Tokens.longer Tokens.pieces Tokens.word_like Tokens.marks Tokens.tokens_of Tokens.tokens Tokens.reserved_words Tokens.is_reserved
open-Tokens = tt

unfoldable pub open-Grammar : Unit {0}
unfolding Grammar.before_mark Grammar.name_next Grammar.test_word Grammar.test_union Grammar.union_of
open-Grammar = tt

unfoldable pub open-Lines : Unit {0}
unfolding Lines.enough Lines.expression Lines.condition Lines.bracketed Lines.declared Lines.choose Lines.let_reader Lines.within_reader Lines.include_reader Lines.assumptions Lines.claims Lines.line_kinds Lines.line_by Lines.line
open-Lines = tt

unfoldable pub open-Refusals : Unit {0}
unfolding Refusals.number
open-Refusals = tt

unfoldable pub open-RefusalLine : Unit {0}
unfolding RefusalLine.digits_before RefusalLine.decimal RefusalLine.spaced RefusalLine.refusal_line
open-RefusalLine = tt

unfoldable pub open-Names : Unit {0}
unfolding Names.test_uses Names.tree_uses Names.claim_uses Names.uses Names.declares? Names.kind_of Names.test_slip Names.relation_slip Names.either_slip Names.declaration_slip Names.slip Names.first_slip
open-Names = tt

unfoldable pub open-Query : Unit {0}
unfolding Query.test_names Query.relation_names Query.lets Query.nevers Query.limits Query.closed_names Query.assumed_empty Query.assumed_irreflexive Query.claims_of Query.tests Query.relations Query.closed Query.names Query.bit Query.holds Query.atoms Query.removed Query.live
open-Query = tt

unfoldable pub open-Width : Unit {0}
unfolding Width.width Width.row_length Width.beside_columns Width.ring_words
open-Width = tt

unfoldable pub open-Expanded : Unit {0}
unfolding Expanded.bounded Expanded.stands_for Expanded.expanded_in Expanded.expanded Expanded.count_expanded
open-Expanded = tt

unfoldable pub open-Counting : Unit {0}
unfolding Counting.count Counting.occurrences_of Counting.leaves_of Counting.size_of Counting.with_anys Counting.left_size Counting.right_size Counting.right_limit Counting.within_limits
open-Counting = tt

unfoldable pub open-Decisions : Unit {0}
unfolding Decisions.decisions_from Decisions.decisions Decisions.first_over Decisions.last_of
open-Decisions = tt

unfoldable pub open-Reading : Unit {0}
unfolding Reading.bad_line Reading.crowded Reading.claim_of Reading.read_line Reading.read_lines Reading.limited Reading.read
open-Reading = tt

unfoldable pub open-Sides : Unit {0}
unfolding Sides.expand Sides.meant Sides.single Sides.expr_of Sides.replaced Sides.side Sides.a0 Sides.a1 Sides.zero Sides.somewhere Sides.decision
open-Sides = tt

unfoldable pub everything : Unit {0}
unfolding open-Tables open-Bytes open-Tokens open-Grammar open-Lines open-Refusals open-RefusalLine open-Names open-Query open-Width open-Expanded open-Counting open-Decisions open-Reading open-Sides
everything = tt
