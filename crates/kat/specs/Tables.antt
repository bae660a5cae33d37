-- The occurrence tables of an expression. (Document 01, "Standings".) The relation occurrences of an expression are numbered in
-- written order, from 1 where nothing stands before it; 0 means that nothing has been read. The tables are those of the
-- position (Glushkov) automaton: which occurrences may be read first, may be read last, or may follow one another, at which atom.
-- k is always the number of occurrences that stand before the expression.
-- Assumes nothing.
use Rattle.std.specs.Prelude.{ℕ, zero, suc, ◌+◌, ◌≡◌, Bool, true, false, ◌&&◌, ◌||◌, List, eqb}
use Rattle.kat.specs.Expr.{Expr, step, test, alt, seq, plus}
use Rattle.kat.specs.Word.{Word, end, at}
use Rattle.kat.specs.Lists.{upto, filter, some}

-- how many relation occurrences the expression has ("Standings")
abbrev pub occurrences : Expr → ℕ
occurrences (step s) = 1
occurrences (test s) = 0
occurrences (alt e f) = occurrences e + occurrences f
occurrences (seq e f) = occurrences e + occurrences f
occurrences (plus e) = occurrences e

-- occurrence q reads relation r ("Standings")
abbrev pub reads : Expr → ℕ → ℕ → ℕ → Bool
reads (step s) k q r = eqb q (suc k) && s r
reads (test s) k q r = false
reads (alt e f) k q r = reads e k q r || reads f (k + occurrences e) q r
reads (seq e f) k q r = reads e k q r || reads f (k + occurrences e) q r
reads (plus e) k q r = reads e k q r

-- the single atom a is a word ("Standings")
abbrev pub null : Expr → ℕ → Bool
null (step s) a = false
null (test s) a = s a
null (alt e f) a = null e a || null f a
null (seq e f) a = null e a && null f a
null (plus e) a = null e a

-- at atom a, occurrence q may be read first ("Standings")
abbrev pub firsts : Expr → ℕ → ℕ → ℕ → Bool
firsts (step s) k q a = eqb q (suc k)
firsts (test s) k q a = false
firsts (alt e f) k q a = firsts e k q a || firsts f (k + occurrences e) q a
firsts (seq e f) k q a = firsts e k q a || (null e a && firsts f (k + occurrences e) q a)
firsts (plus e) k q a = firsts e k q a

-- at atom a, the word may end after occurrence p ("Standings")
abbrev pub lasts : Expr → ℕ → ℕ → ℕ → Bool
lasts (step s) k p a = eqb p (suc k)
lasts (test s) k p a = false
lasts (alt e f) k p a = lasts e k p a || lasts f (k + occurrences e) p a
lasts (seq e f) k p a = (lasts e k p a && null f a) || lasts f (k + occurrences e) p a
lasts (plus e) k p a = lasts e k p a

-- at atom a, occurrence q may be read after occurrence p ("Standings")
abbrev pub follows : Expr → ℕ → ℕ → ℕ → ℕ → Bool
follows (step s) k p q a = false
follows (test s) k p q a = false
follows (alt e f) k p q a = follows e k p q a || follows f (k + occurrences e) p q a
follows (seq e f) k p q a =
    (follows e k p q a || follows f (k + occurrences e) p q a) || (lasts e k p a && firsts f (k + occurrences e) q a)
follows (plus e) k p q a = follows e k p q a || (lasts e k p a && firsts e k q a)

-- at atom a, q may be read next, where p was read last (0: nothing yet) ("Standings")
abbrev pub next : Expr → ℕ → ℕ → ℕ → Bool
next E zero q a = firsts E 0 q a
next E (suc p) q a = follows E 0 (suc p) q a

-- at atom a, the word may end, where p was read last (0: nothing yet) ("Standings")
abbrev pub stop : Expr → ℕ → ℕ → Bool
stop E zero a = null E a
stop E (suc p) a = lasts E 0 (suc p) a

-- the tables read the word: one occurrence after another, from p on, up to one at which the word may end ("Standings")
abbrev pub Reads : Expr → ℕ → Word → Type 0
Reads E p (end a) = stop E p a ≡ true
Reads E p (at a r w) = (q : ℕ) × (next E p q a ≡ true) × (reads E 0 q r ≡ true) × Reads E q w

-- the occurrences that may have just been read after atom a and relation r, where one of P was read before ("Standings")
unfoldable pub after : Expr → List ℕ → ℕ → ℕ → List ℕ
after E P a r = filter (λ q. reads E 0 q r && some (λ p. next E p q a) P) (upto 1 (suc (occurrences E)))

-- one of P may be read last at atom a ("Standings")
unfoldable pub ends : Expr → List ℕ → ℕ → Bool
ends E P a = some (λ p. stop E p a) P
