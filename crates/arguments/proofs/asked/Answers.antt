-- `arguments::asked` meets its contract. By the tests in their order, and then by the call.
-- Assumes nothing.
use mathlib.Core.Path.{◌∙◌}
use Rattle.arguments.specs.Arguments.{called}
use Rattle.arguments.specs.declared.Verb.TheVariants as verbs
use Rattle.arguments.specs.declared.Call.TheVariants as calls
use Rattle.arguments.proofs.Changes.{asks_wrong, asks_short, asks_called, short_of, whole_of}
use Rattle.arguments.proofs.asked.Goals as goal

pub returns-then-s-gt0 : goal.returns-then-s-gt0
unfolding called
returns-then-s-gt0 c = asks_wrong c.args.s c.if-s-gt0.true

pub returns-then-s : goal.returns-then-s
unfolding called
returns-then-s c = asks_short c.args.s c.if-s-gt0.false c.if-s.true

pub returns-then-s-eq0 : goal.returns-then-s-eq0
unfolding called
returns-then-s-eq0 c = short_of (calls.Sheet c.args.s.allowance c.args.s.query) c.if-s-eq0.true ∙ asks_called c.args.s verbs.Sheet c.if-s-gt0.false c.if-s.false c.in-Sheet.is

pub returns-then-s-eq0-2 : goal.returns-then-s-eq0-2
unfolding called
returns-then-s-eq0-2 c = short_of (calls.Check c.args.s.query c.args.s.sheet) c.if-s-eq0-2.true ∙ asks_called c.args.s verbs.Check c.if-s-gt0.false c.if-s.false c.in-Check.is

pub returns-then-s-eq0-3 : goal.returns-then-s-eq0-3
unfolding called
returns-then-s-eq0-3 c = short_of (calls.Draw c.args.s.dot c.args.s.query c.args.s.sheet) c.if-s-eq0-3.true ∙ asks_called c.args.s verbs.Draw c.if-s-gt0.false c.if-s.false c.in-Draw.is

pub returns-then-s-eq0-4 : goal.returns-then-s-eq0-4
unfolding called
returns-then-s-eq0-4 c = short_of (calls.Judge c.args.s.query c.args.s.sheet) c.if-s-eq0-4.true ∙ asks_called c.args.s verbs.Judge c.if-s-gt0.false c.if-s.false c.in-Judge.is

pub returns-in-Query : goal.returns-in-Query
unfolding called
returns-in-Query c = asks_called c.args.s verbs.Query c.if-s-gt0.false c.if-s.false c.in-Query.is

pub returns-else-s-eq0 : goal.returns-else-s-eq0
unfolding called
returns-else-s-eq0 c = whole_of c.if-s-eq0.false ∙ asks_called c.args.s verbs.Sheet c.if-s-gt0.false c.if-s.false c.in-Sheet.is

pub returns-else-s-eq0-2 : goal.returns-else-s-eq0-2
unfolding called
returns-else-s-eq0-2 c = whole_of c.if-s-eq0-2.false ∙ asks_called c.args.s verbs.Check c.if-s-gt0.false c.if-s.false c.in-Check.is

pub returns-else-s-eq0-3 : goal.returns-else-s-eq0-3
unfolding called
returns-else-s-eq0-3 c = whole_of c.if-s-eq0-3.false ∙ asks_called c.args.s verbs.Draw c.if-s-gt0.false c.if-s.false c.in-Draw.is

pub returns-else-s-eq0-4 : goal.returns-else-s-eq0-4
unfolding called
returns-else-s-eq0-4 c = whole_of c.if-s-eq0-4.false ∙ asks_called c.args.s verbs.Judge c.if-s-gt0.false c.if-s.false c.in-Judge.is

pub returns-in-Help : goal.returns-in-Help
unfolding called
returns-in-Help c = asks_called c.args.s verbs.Help c.if-s-gt0.false c.if-s.false c.in-Help.is

pub returns-in-Unknown : goal.returns-in-Unknown
unfolding called
returns-in-Unknown c = asks_called c.args.s verbs.Unknown c.if-s-gt0.false c.if-s.false c.in-Unknown.is
