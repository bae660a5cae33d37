-- What a single argument of the program is.
-- Assumes nothing.
use Rattle.std.specs.Prelude.{ℕ, ◌+◌, ◌-◌, ◌*◌, Bool, false, cond, List, [], ◌∷◌, eqb, ltb, length, get_or, Some, None, Option}
use Rattle.claims.specs.Bytes.{text, same}
use Rattle.layout.specs.Layout.{MOST-STANDINGS}
use Rattle.arguments.specs.declared.Verb.{Verb}
use Rattle.arguments.specs.declared.Verb.TheVariants as verbs
use Rattle.arguments.specs.declared.Kind.{Kind}
use Rattle.arguments.specs.declared.Kind.TheVariants as kinds

-- the call that the first argument names
unfoldable pub verb_of : List ℕ → Verb
verb_of w =
    cond (same w (text "query")) verbs.Query
    (cond (same w (text "sheet")) verbs.Sheet
    (cond (same w (text "check")) verbs.Check
    (cond (same w (text "draw")) verbs.Draw
    (cond (same w (text "judge")) verbs.Judge
    (cond (same w (text "--help")) verbs.Help verbs.Unknown)))))

-- the word begins with two dashes
unfoldable pub dashes_first : List ℕ → Bool
dashes_first w = cond (ltb (length w) 2) false (cond (eqb (get_or w 0 0) 45) (eqb (get_or w 1 0) 45) false)

-- what a later argument is
unfoldable pub kind_of : List ℕ → Kind
kind_of w =
    cond (same w (text "--allowance")) kinds.Allowance
    (cond (same w (text "--dot")) kinds.Dot (cond (dashes_first w) kinds.Other kinds.File))

-- a number with one more digit; one over MOST-STANDINGS stays as it is, since every such allowance is refused alike
unfoldable pub more : ℕ → ℕ → ℕ
more v d = cond (ltb MOST-STANDINGS v) v (10 * v + d)

-- the allowance that digits are, behind those of the number v
unfoldable pub count_from : ℕ → List ℕ → Option ℕ
count_from v [] = Some v
count_from v (b ∷ bs) = cond (ltb b 48) None (cond (ltb 57 b) None (count_from (more v (b - 48)) bs))

-- the allowance that an argument is, if it is one
unfoldable pub allowance_in : List ℕ → Option ℕ
allowance_in w = cond (eqb (length w) 0) None (count_from 0 w)
