-- What an expression can have read of a prefix, by the expression alone. (Document 01, "Standings".) A prefix is read from the start of the
-- expression or from behind one of its occurrences, and its last relation is read by occurrence q; what comes after the prefix is not
-- looked at. Whole parts that lie behind are words of the language, or what is left of a part after an occurrence; no table of what may
-- come first, last or next is looked at. `reached_is_way` and `ended_is_way` of `proofs/ReadFrom.antt` show that these are the
-- occurrences on which the ways through the tables end.
-- Assumes nothing.
use Rattle.std.specs.Prelude.{ℕ, zero, suc, ◌+◌, ◌≡◌, ◌⊎◌, true}
use Rattle.kat.specs.Expr.{Expr, step, test, alt, seq, plus}
use Rattle.kat.specs.Word.{end}
use Rattle.kat.specs.Language.{Lang}
use Rattle.kat.specs.Ring.{Prefix, nothing, then, onto, join, start}
use Rattle.kat.specs.Tables.{occurrences}
use Rattle.kat.specs.Rest.{Rest}

-- the prefix u, up to the atom where v begins, is a word of E; v always has a relation where this is used, so 0 is never taken
abbrev pub Whole : Expr → Prefix → Prefix → Type 0
Whole E u v = Lang E (onto u (end (start 0 v)))

-- E, whose occurrences are numbered from k + 1 on in written order, can read the prefix l from its start so that occurrence q reads the
-- last relation: one step reads one letter; a sequence is in its left part, or has read a word of it and is in its right part; `+` has
-- read no round or whole ones, and is in the next ("Standings")
abbrev pub ReadsTo : Expr → ℕ → Prefix → ℕ → Type 0
ReadsTo (step s) k l q = (a : ℕ) × (r : ℕ) × (l ≡ then nothing a r) × (s r ≡ true) × (q ≡ suc k)
ReadsTo (test s) k l q = ⊥
ReadsTo (alt e f) k l q = ReadsTo e k l q ⊎ ReadsTo f (k + occurrences e) l q
ReadsTo (seq e f) k l q =
    ReadsTo e k l q ⊎ ((u : Prefix) × (v : Prefix) × (l ≡ join u v) × Whole e u v × ReadsTo f (k + occurrences e) v q)
ReadsTo (plus e) k l q =
    (u : Prefix) × (v : Prefix) × (l ≡ join u v) × ((u ≡ nothing) ⊎ Whole (plus e) u v) × ReadsTo e k v q

-- E, where its occurrence p was read last, can read the prefix u, up to the atom where v begins, and end there ("Standings")
abbrev pub EndsFrom : Expr → ℕ → ℕ → Prefix → Prefix → Type 0
EndsFrom E k p u v = Rest E k p (onto u (end (start 0 v))) (end (start 0 v))

-- E, where its occurrence p was read last, can read the prefix l so that occurrence q reads the last relation: a step has nothing left; a
-- sequence is still in its left part, or has ended that and is in its right part, or p was in its right part; `+` is still in the round
-- of p, or has ended that and reads on from its start ("Standings")
abbrev pub ReadsFrom : Expr → ℕ → ℕ → Prefix → ℕ → Type 0
ReadsFrom (step s) k p l q = ⊥
ReadsFrom (test s) k p l q = ⊥
ReadsFrom (alt e f) k p l q = ReadsFrom e k p l q ⊎ ReadsFrom f (k + occurrences e) p l q
ReadsFrom (seq e f) k p l q =
    ReadsFrom e k p l q
    ⊎ (((u : Prefix) × (v : Prefix) × (l ≡ join u v) × EndsFrom e k p u v × ReadsTo f (k + occurrences e) v q)
    ⊎ ReadsFrom f (k + occurrences e) p l q)
ReadsFrom (plus e) k p l q =
    ReadsFrom e k p l q
    ⊎ ((u : Prefix) × (v : Prefix) × (l ≡ join u v) × EndsFrom e k p u v × ReadsTo (plus e) k v q)

-- from p (0: from the start), E can read the prefix l so that occurrence q reads the last relation ("Standings")
abbrev pub Reached : Expr → ℕ → Prefix → ℕ → Type 0
Reached E zero l q = ReadsTo E 0 l q
Reached E (suc p) l q = ReadsFrom E 0 (suc p) l q

-- from p (0: from the start), E can read the prefix u, up to the atom where v begins, and end there ("Standings")
abbrev pub Ended : Expr → ℕ → Prefix → Prefix → Type 0
Ended E zero u v = Whole E u v
Ended E (suc p) u v = EndsFrom E 0 (suc p) u v
