-- Expressions of Kleene algebra with tests over atoms and relations that are numbers. (Document 01, "The query" and "Words"; document
-- 000, section 2.) A set of atoms or of relations is a test on numbers, so that `zero`, a test read from a query and `any` are all
-- expressions. The strict iteration `+` is primitive and `*` is made of it, as document 01 has it: neither `+` nor `?` adds a
-- relation occurrence.
-- Assumes nothing.
use Rattle.std.specs.Prelude.{ℕ, Bool, true, false, eqb}

-- expressions ("Words")
pub data Expr : Type 0 where
  step : (ℕ → Bool) → Expr  -- one step of a relation in the set
  test : (ℕ → Bool) → Expr  -- stay at an event whose atom is in the set
  alt : Expr → Expr → Expr  -- union
  seq : Expr → Expr → Expr  -- sequence
  plus : Expr → Expr  -- one or more times

-- one step of relation r ("Words")
abbrev pub rel : ℕ → Expr
rel r = step (eqb r)

-- one step of whichever relation ("Words")
abbrev pub any : Expr
any = step (λ r. true)

-- the union of nothing ("Words")
abbrev pub none : Expr
none = test (λ a. false)

-- `?` adds each event with itself ("Words")
abbrev pub opt : Expr → Expr
opt e = alt e (test (λ a. true))

-- `*` is `+`, then `?` ("Words")
abbrev pub star : Expr → Expr
star e = opt (plus e)
