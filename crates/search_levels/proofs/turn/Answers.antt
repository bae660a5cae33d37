-- `search_levels::turn` meets its contract: what each of its calls asks, and what they give together (`OverRecords`).
-- Assumes nothing.
use mathlib.Core.Path.{◌≡◌, sym, ◌∙◌, ap}
use mathlib.Core.Bool.{Bool, cond}
use mathlib.Core.List.{List}
use lib.ListN.{set}
use Rattle.search_records.specs.declared.Record.{Record}
use Rattle.search_course.specs.Turns.{record_of}
use Rattle.search_levels.proofs.OverRecords.{step_asks, unoffered, find_asks, settle_asks, turned}
use Rattle.search_levels.proofs.turn.Goals as goal
use Rattle.search_levels.proofs.turn.Goals.{then-puts, else-puts}

pub step-m-requires : goal.step-m-requires
step-m-requires c =
    let a = c.args in
    step_asks a.k a.left.now a.right.now a.first.now a.later.now a.cap a.t a.records.now a.words.now c.requires

pub returns-in_default : goal.returns-in_default
returns-in_default c =
    let a = c.args in
    unoffered a.k a.left.now a.right.now a.first.now a.later.now a.cap a.t a.records.now a.words.now c.requires
    c.load-from.result c.load-from.ensures c.step-m.result c.step-m.new.words c.step-m.ensures c.in_default.is

pub find-found-requires : goal.find-found-requires
find-found-requires c =
    let a = c.args in
    find_asks a.k a.left.now a.right.now a.first.now a.later.now a.cap a.t a.records.now a.words.now c.requires
    c.load-from.result c.load-from.ensures c.step-m.result c.step-m.new.words c.step-m.ensures c.in-Some.o c.in-Some.is

pub settle-requires : goal.settle-requires
settle-requires c =
    let a = c.args in
    settle_asks a.k a.left.now a.right.now a.first.now a.later.now a.cap a.t a.records.now a.words.now c.requires
    c.load-from.result c.load-from.ensures c.step-m.result c.step-m.new.words c.step-m.ensures c.in-Some.o c.in-Some.is

pub returns : goal.returns
returns c =
    let a = c.args in
    let o = c.in-Some.o in
    let all : Bool → List Record = λ b. cond b (set a.records.now o.seek (record_of c.step-m.result.course o)) a.records.now in
    let kept : c.if-puts.records ≡ all c.puts.result =
    elim c.if-puts.branch [
      | then-puts w ↦ w.records-is ∙ w.keep.ensures ∙ ap (set a.records.now o.seek) w.record_of.ensures ∙ sym (ap all w.if-puts.true)
      | else-puts w ↦ w.records-is ∙ sym (ap all w.if-puts.false)
    ]
    in
    turned a.k a.left.now a.right.now a.first.now a.later.now a.cap a.t a.records.now a.words.now c.requires
    c.load-from.result c.load-from.ensures c.step-m.result c.step-m.new.words c.step-m.ensures c.in-Some.o c.in-Some.is
    c.find-found.result c.find-found.ensures c.puts.result c.puts.ensures c.if-puts.records kept c.settle.result c.settle.ensures
