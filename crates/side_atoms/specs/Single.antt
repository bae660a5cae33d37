-- Expressions with one occurrence: one step of a relation between its limits, its `+` if the relation is closed, and `any`. (Document 01,
-- "Words".)
-- Assumes nothing.
use Rattle.std.specs.Prelude.{ℕ, suc, ◌≡◌, Bool, false, List}
use Rattle.kat.specs.Expr.{Expr}
use Rattle.kat.specs.Lists.{every}
use Rattle.kat.specs.Tables.{occurrences, reads, null, firsts, lasts, follows}
use Rattle.claims.specs.Tree.{Name}
use Rattle.claims.specs.Query.{Limit, holds}

-- E has one occurrence: at the atoms of F it may be read first, at those of L last, at those of G after itself; it reads the relations
-- of S, and no single atom is a word
pub record Single (E : Expr) (F L G S : ℕ → Bool) : Type 0 where
  pub one : occurrences E ≡ 1
  pub is_first : (k a : ℕ) → firsts E k (suc k) a ≡ F a
  pub is_last : (k a : ℕ) → lasts E k (suc k) a ≡ L a
  pub follows_itself : (k a : ℕ) → follows E k (suc k) (suc k) a ≡ G a
  pub is_read : (k r : ℕ) → reads E k (suc k) r ≡ S r
  pub not_null : (a : ℕ) → null E a ≡ false

-- an atom at which a relation with these limits may start, and stop ("Words")
unfoldable pub starts : List Name → List Limit → ℕ → Bool
starts ts ls a = every (λ (l : Limit). holds ts l.from a) ls

unfoldable pub stops : List Name → List Limit → ℕ → Bool
stops ts ls a = every (λ (l : Limit). holds ts l.to a) ls
