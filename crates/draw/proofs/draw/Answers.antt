-- `draw::draw` meets its contract: what the reader or the sheet check refuses, and what the check says to be proved, is handed on; the word of a
-- refuted sheet, behind seven bytes, is drawn.
-- Assumes nothing.
use native.Mathlib.Omega.{arith}
use mathlib.Core.Path.{refl}
use Rattle.query.proofs.Asked.{few_relations_lem}
use Rattle.sheet_checked.proofs.Ended.{refused_says, accepted_says}
use Rattle.draw.proofs.Breaking.{graph_breaks}
use Rattle.draw.proofs.Calls.{refusal_drawn, proved_drawn, refuted_passes}
use Rattle.draw.proofs.Reading.{long_enough, refuted_drawn}
use borrow.Author.Rules.{rules}
use Rattle.draw.proofs.draw.Goals as goal

pub slice_bounds-draw_word-count : goal.slice_bounds-draw_word-count
slice_bounds-draw_word-count c =
    let k = c in
    let a = c in
    let r = a.read-asked in
    let says = accepted_says _ _ r.result r.ensures.0 _ a.in-Ok.is _ _ r.ensures.2 r.ensures.3 _ k.check_decided-checked.ensures in
    omega (arith, long_enough _ _ (refuted_passes _ _ k.check_decided-checked.result says c.in-Refuted.is))

pub slice_bounds-draw_word-start : goal.slice_bounds-draw_word-start
slice_bounds-draw_word-start c =
    let k = c in
    let a = c in
    let r = a.read-asked in
    let says = accepted_says _ _ r.result r.ensures.0 _ a.in-Ok.is _ _ r.ensures.2 r.ensures.3 _ k.check_decided-checked.ensures in
    omega (arith, long_enough _ _ (refuted_passes _ _ k.check_decided-checked.result says c.in-Refuted.is))

pub overflow_cast-f : goal.overflow_cast-f
overflow_cast-f c =
    let k = c in
    let a = c in
    let r = a.read-asked in
    omega (arith, few_relations_lem _ r.result r.ensures.0 _ a.in-Ok.is _ _ r.ensures.2 r.ensures.3)

pub draw_word-requires : goal.draw_word-requires
draw_word-requires c =
    let k = c in
    let a = c in
    let r = a.read-asked in
    omega (arith, few_relations_lem _ r.result r.ensures.0 _ a.in-Ok.is _ _ r.ensures.2 r.ensures.3)

pub returns-in-Err : goal.returns-in-Err
returns-in-Err c =
    let r = c.read-asked in
    let d = refusal_drawn _ _ _ (refused_says _ _ r.result r.ensures.0 _ c.in-Err.is) _ _ _ refl in
    record { draws = d; breaks = graph_breaks _ _ _ _ _ d }

pub returns-in-Proved : goal.returns-in-Proved
returns-in-Proved c =
    let k = c in
    let a = c in
    let r = a.read-asked in
    let says = accepted_says _ _ r.result r.ensures.0 _ a.in-Ok.is _ _ r.ensures.2 r.ensures.3 _ k.check_decided-checked.ensures in
    let d = proved_drawn _ _ k.check_decided-checked.result says _ c.in-Proved.is in
    record { draws = d; breaks = graph_breaks _ _ _ _ _ d }

pub returns-in-Refused : goal.returns-in-Refused
returns-in-Refused c =
    let k = c in
    let a = c in
    let r = a.read-asked in
    let says = accepted_says _ _ r.result r.ensures.0 _ a.in-Ok.is _ _ r.ensures.2 r.ensures.3 _ k.check_decided-checked.ensures in
    let d = refusal_drawn _ _ k.check_decided-checked.result says _ _ _ c.in-Refused.is in
    record { draws = d; breaks = graph_breaks _ _ _ _ _ d }

pub returns-in-Refuted : goal.returns-in-Refuted
returns-in-Refuted c =
    let e = c in
    let k = c in
    let a = c in
    let r = a.read-asked in
    let says = accepted_says _ _ r.result r.ensures.0 _ a.in-Ok.is _ _ r.ensures.2 r.ensures.3 _ k.check_decided-checked.ensures in
    let passed = refuted_passes _ _ k.check_decided-checked.result says e.in-Refuted.is in
    let d =
    refuted_drawn _ _ passed r.result r.ensures.0 _ a.in-Ok.is _ _ _ r.ensures.1 r.ensures.2 r.ensures.3 _
    refl _ _ refl c.draw_word.ensures
    in
    record { draws = d; breaks = graph_breaks _ _ _ _ _ d }
