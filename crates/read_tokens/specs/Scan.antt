-- Where the tokens of a line stand. (Document 01, "The query".) `token_at` says what a scanner finds at a position;
-- `proofs/Tokens.antt` shows that it finds the tokens of `Rattle.claims.specs.Tokens`, one after the other.
-- Assumes nothing.
use Rattle.std.specs.Prelude.{ℕ, suc, ◌+◌, Bool, cond, ◌&&◌, ◌||◌, true, List, [], ◌∷◌, map, ◌≡◌, eqb, leb, take, drop, get_or}
use Rattle.kat.specs.Lists.{some, counted, every}
use Rattle.claims.specs.Bytes.{letter, digit}
use Rattle.claims.specs.Tokens.{marks, word_like}
use Rattle.claims.specs.Fields.{from_bytes}
use Rattle.read_tokens.specs.declared.Key.{Key}
use Rattle.read_tokens.specs.declared.Token.{Token}
use Rattle.read_tokens.specs.declared.Token.TheVariants.{Word, Mark, Bad, End}

unfoldable pub is_space : ℕ → Bool
is_space b = eqb b 32

unfoldable pub word_byte : ℕ → Bool
word_byte b = letter b || digit b

unfoldable pub is_mark : ℕ → Bool
is_mark b = some (eqb b) marks

-- how many bytes in front pass the test
unfoldable pub front : (ℕ → Bool) → List ℕ → ℕ
front p [] = 0
front p (b ∷ bs) = cond (p b) (suc (front p bs)) 0

-- the 8 bytes of a name from place p on as one number, big-endian, with zeros behind the name
unfoldable pub half_of : List ℕ → ℕ → ℕ
half_of w p = from_bytes 0 (map (λ j. get_or w j 0) (counted p 8))

-- a name of at most 16 bytes in two numbers
unfoldable pub key_of : List ℕ → Key
key_of w = record { high = half_of w 0; low = half_of w 8 }

-- a run of n letters and digits at i, the first of them b: a letter comes first, and 16 are the most
unfoldable pub word_at : List ℕ → ℕ → ℕ → ℕ → Token
word_at s i b n = cond (letter b && leb n 16) (Word (key_of (take n (drop i s))) (i + n)) Bad

-- the token that begins with the first of the bytes, which stand at i
unfoldable pub token_from : List ℕ → ℕ → List ℕ → Token
token_from s i [] = End
token_from s i (b ∷ bs) =
    cond (word_byte b) (word_at s i b (front word_byte (b ∷ bs))) (cond (is_mark b) (Mark b (i + 1)) Bad)

-- the token that begins at `at`, or behind the spaces there
unfoldable pub token_at : List ℕ → ℕ → Token
token_at s at = token_from s (at + front is_space (drop at s)) (drop (at + front is_space (drop at s)) s)

-- the byte that stands at `at`, or behind the spaces there; 0 behind the last one
unfoldable pub first_byte : List ℕ → ℕ → ℕ
first_byte s at = get_or (drop (at + front is_space (drop at s)) s) 0 0

-- spelled as names are: a letter and then up to 15 letters or digits
pub record Spelled (w : List ℕ) : Type 0 where
  pub like : word_like w ≡ true
  pub bytes : every word_byte w ≡ true
