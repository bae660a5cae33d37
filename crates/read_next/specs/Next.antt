-- What stands next in a line, as a reader asks for it: a given mark, a given word, a run of one mark. (Document 01, "The query".)
-- Assumes nothing.
use Rattle.std.specs.Prelude.{Option, Some, None, ℕ, ◌+◌, ◌-◌, ◌≤◌, ◌≡◌, false, cond, List, ◌++◌, eqb, length, drop, replicate}
use Rattle.claims.specs.Tokens as Notation
use Rattle.claims.specs.Tokens.{tokens}
use Rattle.claims.specs.Grammar.{goes_on}
use Rattle.read_tokens.specs.declared.Key.{Key}
use Rattle.read_tokens.specs.declared.Token.{Token}
use Rattle.read_tokens.specs.declared.Token.TheVariants.{Word, Mark, Bad, End}
use Rattle.read_tokens.specs.Scan.{token_at}
use Rattle.read_names.specs.Keys.{same_key}
use Rattle.read_next.specs.declared.Run.{Run}

-- the position behind the mark b, if that is what was found
unfoldable pub mark_end : ℕ → Token → Option ℕ
mark_end b (Word k e) = None
mark_end b (Mark c e) = cond (eqb b c) (Some e) None
mark_end b Bad = None
mark_end b End = None

-- the position behind the word with the key k, if that is what was found
unfoldable pub word_end : Key → Token → Option ℕ
word_end k (Word l e) = cond (same_key k l) (Some e) None
word_end k (Mark c e) = None
word_end k Bad = None
word_end k End = None

-- the position behind the mark b where it stands next
unfoldable pub mark_next : List ℕ → ℕ → ℕ → Option ℕ
mark_next s at b = mark_end b (token_at s at)

-- the position behind the word with the key k where it stands next
unfoldable pub word_next : List ℕ → ℕ → Key → Option ℕ
word_next s at k = word_end k (token_at s at)

-- as many marks b as stand next, and the position behind them
pub record MarksNext (s : List ℕ) (at b : ℕ) (r : Run) : Type 0 where
  pub read : tokens (drop at s) ≡ replicate r.count (Notation.mark b) ++ tokens (drop r.at s)
  pub stop : goes_on b (tokens (drop r.at s)) ≡ false
  pub onward : at ≤ r.at
  pub room : r.count + (length s - r.at) ≤ length s - at
