-- What the arguments of the program ask for, one after the other.
-- Assumes nothing.
use Rattle.std.specs.Prelude.{ℕ, true, false, cond, List, eqb, ltb, Some, None, Option}
use Rattle.layout.specs.Layout.{PROGRAM-ALLOWANCE}
use Rattle.arguments.specs.declared.Verb.{Verb}
use Rattle.arguments.specs.declared.Verb.TheVariants as verbs
use Rattle.arguments.specs.declared.Kind.{Kind}
use Rattle.arguments.specs.declared.Kind.TheVariants as kinds
use Rattle.arguments.specs.ArgumentWords.{verb_of, kind_of, allowance_in}
use Rattle.arguments.specs.declared.Seen.{Seen}
use Rattle.arguments.specs.declared.Call.{Call}
use Rattle.arguments.specs.declared.Call.TheVariants as calls
use Rattle.arguments.specs.inner.Wanted.{wanted_by}

-- argument i does not fit
unfoldable pub wrong_at : Seen → ℕ → Seen
wrong_at s i =
    record {
      verb = s.verb;
      allowance = s.allowance;
      counting = s.counting;
      dot = s.dot;
      query = s.query;
      sheet = s.sheet;
      wrong = i;
    }

-- a call with nothing behind it
unfoldable pub nothing_behind : Verb → Seen
nothing_behind v =
    record { verb = v; allowance = PROGRAM-ALLOWANCE; counting = false; dot = false; query = 0; sheet = 0; wrong = 0 }

-- before any argument: the query program on standard input
unfoldable pub none_seen : Seen
none_seen = nothing_behind verbs.Query

-- the first argument is the call
unfoldable pub begun : Verb → ℕ → Seen
begun v i = cond (wanted_by v).known (nothing_behind v) (wrong_at (nothing_behind v) i)

-- an allowance where one is awaited
unfoldable pub with_count : Seen → Option ℕ → ℕ → Seen
with_count s (Some n) i =
    record { verb = s.verb; allowance = n; counting = false; dot = s.dot; query = s.query; sheet = s.sheet; wrong = 0 }
with_count s None i = wrong_at s i

-- a file: the query and then the sheet or graph, as many as the call has
unfoldable pub with_file : Seen → ℕ → Seen
with_file s i =
    cond (eqb s.query 0)
    (cond (ltb 0 (wanted_by s.verb).files)
    (record { verb = s.verb; allowance = s.allowance; counting = false; dot = s.dot; query = i; sheet = 0; wrong = 0 })
    (wrong_at s i))
    (cond (eqb s.sheet 0)
    (cond (ltb 1 (wanted_by s.verb).files)
    (record { verb = s.verb; allowance = s.allowance; counting = false; dot = s.dot; query = s.query; sheet = i; wrong = 0 })
    (wrong_at s i))
    (wrong_at s i))

-- an argument behind the first
unfoldable pub with_argument : Seen → Kind → ℕ → Seen
with_argument s kinds.Allowance i =
    cond (wanted_by s.verb).allowance
    (record { verb = s.verb; allowance = s.allowance; counting = true; dot = s.dot; query = s.query; sheet = s.sheet; wrong = 0 })
    (wrong_at s i)
with_argument s kinds.Dot i =
    cond (wanted_by s.verb).draws
    (record { verb = s.verb; allowance = s.allowance; counting = false; dot = true; query = s.query; sheet = s.sheet; wrong = 0 })
    (wrong_at s i)
with_argument s kinds.Other i = wrong_at s i
with_argument s kinds.File i = with_file s i

-- one more argument, the one of number i: the first names the call; after one that does not fit nothing changes
unfoldable pub taken : Seen → List ℕ → ℕ → Seen
taken s w i =
    cond (ltb 0 s.wrong) s
    (cond (eqb i 1) (begun (verb_of w) i)
    (cond s.counting (with_count s (allowance_in w) i) (with_argument s (kind_of w) i)))

-- the call of a verb: each has its files, but that a query may stand on standard input
unfoldable pub called : Verb → Seen → Call
called verbs.Query s = calls.Query s.allowance s.query
called verbs.Sheet s = cond (eqb s.query 0) calls.Short (calls.Sheet s.allowance s.query)
called verbs.Check s = cond (eqb s.sheet 0) calls.Short (calls.Check s.query s.sheet)
called verbs.Draw s = cond (eqb s.sheet 0) calls.Short (calls.Draw s.dot s.query s.sheet)
called verbs.Judge s = cond (eqb s.sheet 0) calls.Short (calls.Judge s.query s.sheet)
called verbs.Help s = calls.Help
called verbs.Unknown s = calls.Short

-- the call that all the arguments ask for
unfoldable pub asks : Seen → Call
asks s = cond (ltb 0 s.wrong) (calls.Wrong s.wrong) (cond s.counting calls.Short (called s.verb s))
