-- The language of an expression in the textbook's form (Kozen 1997): two words are joined where the last atom of one is the first
-- of the other, and that atom is written once. It stands here so that a reader recognises Kleene algebra with tests;
-- `proofs/Fusion.antt` has the theorem that it is the language of `Language.antt`.
-- Assumes nothing.
use Rattle.std.specs.Prelude.{ℕ, ◌≡◌, ◌⊎◌, true}
use Rattle.kat.specs.Expr.{Expr, step, test, alt, seq, plus}
use Rattle.kat.specs.Word.{Word, end, at, first, last}

-- u and v joined: u without its last atom, then v
abbrev pub fuse : Word → Word → Word
fuse (end a) v = v
fuse (at a r u) v = at a r (fuse u v)

-- w is a fusion product of a word of L and a word of M
abbrev pub Product : (Word → Type 0) → (Word → Type 0) → Word → Type 0
Product L M w = (u : Word) × (v : Word) × L u × M v × (last u ≡ first v) × (w ≡ fuse u v)

-- a fusion product of one or more words of L
pub data Power (L : Word → Type 0) : Word → Type 0 where
  single : {w : Word} → L w → Power L w
  join : {u v w : Word} → L u → Power L v → last u ≡ first v → w ≡ fuse u v → Power L w

-- the language of E by fusion products
abbrev pub Textbook : Expr → Word → Type 0
Textbook (step s) w = (a : ℕ) × (r : ℕ) × (b : ℕ) × (s r ≡ true) × (w ≡ at a r (end b))
Textbook (test s) w = (a : ℕ) × (s a ≡ true) × (w ≡ end a)
Textbook (alt e f) w = Textbook e w ⊎ Textbook f w
Textbook (seq e f) w = Product (Textbook e) (Textbook f) w
Textbook (plus e) w = Power (Textbook e) w
