-- How many files each call names at most, whether it has an allowance, whether it draws, and whether it is one.
-- Assumes nothing.
use Rattle.std.specs.Prelude.{true, false}
use Rattle.arguments.specs.declared.Verb.{Verb}
use Rattle.arguments.specs.declared.Verb.TheVariants as verbs
use Rattle.arguments.specs.declared.Wanted.{Wanted}

-- what goes with a call
unfoldable pub wanted_by : Verb → Wanted
wanted_by verbs.Query = record { files = 1; allowance = true; draws = false; known = true }
wanted_by verbs.Sheet = record { files = 1; allowance = true; draws = false; known = true }
wanted_by verbs.Check = record { files = 2; allowance = false; draws = false; known = true }
wanted_by verbs.Draw = record { files = 2; allowance = false; draws = true; known = true }
wanted_by verbs.Judge = record { files = 2; allowance = false; draws = false; known = true }
wanted_by verbs.Help = record { files = 0; allowance = false; draws = false; known = true }
wanted_by verbs.Unknown = record { files = 0; allowance = false; draws = false; known = false }
