-- The postfixes `*`, `+`, `?` behind a factor. (Document 01, "The query".)
-- Assumes nothing.
use Rattle.std.specs.Prelude.{Option, Some, None, ℕ, suc, ◌+◌, ◌*◌, ◌-◌, ◌≤◌, ◌<◌, ◌≡◌, List, [], ◌∷◌, ◌++◌, length, drop}
use Rattle.std.proofs.lemmas.List.Edits.{sets}
use Rattle.claims.specs.Tokens.{tokens}
use Rattle.claims.specs.Grammar.{got, postfix_more}
use Rattle.claims.specs.Tree.{Tree}
use Rattle.claims.specs.Names.{tree_uses}
use Rattle.claims.specs.Query.{Query}
use Rattle.codes.specs.Codes.{tree_codes}
use Rattle.read_tests.specs.declared.Place.{Place}
use Rattle.read_exprs.specs.declared.Sign.{Sign}

-- the codes cs behind those of any tree make the codes of the tree under postfixes
pub record Wraps (wrapped : Tree → Tree) (cs : List ℕ) : Type 0 where
  pub codes : (q : Query) (e : Tree) → tree_codes q (wrapped e) ≡ tree_codes q e ++ cs
  pub uses : (e : Tree) → tree_uses (wrapped e) ≡ tree_uses e

-- a postfix stands next, and r has its code and the position behind it
pub record SignStands (s : List ℕ) (at : ℕ) (r : Sign) : Type 0 where
  pub wrapped : Tree → Tree
  pub wraps : Wraps wrapped (r.code ∷ [])
  pub read : (f d : ℕ) (e : Tree) → postfix_more (suc f) d e (tokens (drop at s)) ≡ postfix_more f d (wrapped e) (tokens (drop r.at s))
  pub after : at < r.at
  pub within : r.at ≤ length s
  pub fewer : length (tokens (drop r.at s)) < length (tokens (drop at s))

-- the postfix that stands next, if one does
abbrev pub SignNext : List ℕ → ℕ → Option Sign → Type 0
SignNext s at (Some r) = SignStands s at r
SignNext s at None = (f d : ℕ) (e : Tree) → postfix_more (suc f) d e (tokens (drop at s)) ≡ got e (tokens (drop at s))

-- all postfixes that stand next were read from the place p to the place r, and their codes stored, whichever tree stands before them
pub record PostfixesNext (s : List ℕ) (p : Place) (before after : List ℕ) (r : Place) : Type 0 where
  pub wrapped : Tree → Tree
  pub codes : List ℕ
  pub wraps : Wraps wrapped codes
  pub read : (f d : ℕ) (e : Tree) → 8 * length (tokens (drop p.at s)) + 1 ≤ f
      → postfix_more f d e (tokens (drop p.at s)) ≡ got (wrapped e) (tokens (drop r.at s))
  pub written : after ≡ sets before p.used codes
  pub used : r.used ≡ p.used + length codes
  pub slip : r.slip ≡ p.slip
  pub onward : p.at ≤ r.at
  pub within : p.at ≤ length s → r.at ≤ length s
  pub room : r.used + (length s - r.at) ≤ p.used + (length s - p.at)
  pub fewer : length (tokens (drop r.at s)) ≤ length (tokens (drop p.at s))
