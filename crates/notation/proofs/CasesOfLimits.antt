-- The limits of a query as rows, each at the limit and one past it: the leaves and occurrences of both sides, the bytes of a name,
-- open brackets, and the declarations; and how wide a ring standing is. (Document 01, "The query", "Standings", Limits and last paragraph,
-- "Sheet and graph bytes", and refusals 3, 4, 6 and 8.) All of it holds by computation over the definitions.
-- Assumes nothing.
use Prim.Native.Nat.{ℕ}
use Prim.Native.String.{String}
use mathlib.Core.Path.{◌≡◌, refl}
use mathlib.Core.List.{List, [], ◌∷◌, map}
use Rattle.notation.specs.Bytes.{text}
use Rattle.notation.specs.Refusals.{Result, ok, refused}
use Rattle.notation.specs.Query.{Query}
use Rattle.notation.specs.Width.{width, row_length, ring_words}
use Rattle.notation.specs.Reading.{read}
use Rattle.notation.specs.RefusalLine.{refusal_line}
use Rattle.notation.proofs.Evaluate.{everything}

pub record Read : Type 0 where
  pub query : String
  pub line : String

-- what becomes of a query that is read
abbrev pub read_line : Result Query → List ℕ
read_line (ok q) = text "accepted"
read_line (refused r) = refusal_line r

unfoldable pub reads : Read → List ℕ
reads c = read_line (read (text c.query))

abbrev pub expected : Read → List ℕ
expected c = text c.line

-- the leaves of a side: 512 are within the limit, and 513 are not
abbrev pub leaves : List Read
leaves =
    -- 512 left leaves
    record { query = "let a = [true];[true]\nlet b = a;a\nlet c = b;b\nlet d = c;c\nlet e = d;d\nlet f = e;e\nlet g = f;f\nlet h = g;g\nclaim empty h;h\n"; line = "accepted" }
    -- 513 left leaves
    ∷ record { query = "let a = [true];[true]\nlet b = a;a\nlet c = b;b\nlet d = c;c\nlet e = d;d\nlet f = e;e\nlet g = f;f\nlet h = g;g\nclaim empty h;h;[true]\n"; line = "refusal 8 line 9" }
    -- 512 right leaves, with the two anys and zero
    ∷ record { query = "rel r\nlet a = [true];[true]\nlet b = a;a\nlet c = b;b\nlet d = c;c\nlet e = d;d\nlet f = e;e\nlet g = f;f\nlet h = g;g\nclaim include r in h;g;f;e;d;c;b;[true]\n"; line = "accepted" }
    -- 513 right leaves
    ∷ record { query = "rel r\nlet a = [true];[true]\nlet b = a;a\nlet c = b;b\nlet d = c;c\nlet e = d;d\nlet f = e;e\nlet g = f;f\nlet h = g;g\nclaim include r in h;g;f;e;d;c;b;a\n"; line = "refusal 8 line 10" }
    -- 512 right leaves of an empty claim, with the anys, `[false]` and zero
    ∷ record { query = "rel r\nlet a = [true];[true]\nlet b = a;a\nlet c = b;b\nlet d = c;c\nlet e = d;d\nlet f = e;e\nlet g = f;f\nlet h = g;g\nassume empty h;g;f;e;d;c\nassume empty b\nclaim empty r\n"; line = "accepted" }
    -- 513
    ∷ record { query = "rel r\nlet a = [true];[true]\nlet b = a;a\nlet c = b;b\nlet d = c;c\nlet e = d;d\nlet f = e;e\nlet g = f;f\nlet h = g;g\nassume empty h;g;f;e;d;c\nassume empty b;[true]\nclaim empty r\n"; line = "refusal 8 line 12" }
    -- 512 right leaves of a ring claim, what is assumed irreflexive and what is assumed empty, with the anys
    ∷ record { query = "rel r\nlet a = [true];[true]\nlet b = a;a\nlet c = b;b\nlet d = c;c\nlet e = d;d\nlet f = e;e\nlet g = f;f\nlet h = g;g\nassume irreflexive h;g;f;e;d;c\nassume empty b;a\nclaim irreflexive r\n"; line = "accepted" }
    -- 513
    ∷ record { query = "rel r\nlet a = [true];[true]\nlet b = a;a\nlet c = b;b\nlet d = c;c\nlet e = d;d\nlet f = e;e\nlet g = f;f\nlet h = g;g\nassume irreflexive h;g;f;e;d;c\nassume empty b;a;[true]\nclaim irreflexive r\n"; line = "refusal 8 line 12" }
    -- 512 leaves of what a path claim assumes irreflexive
    ∷ record { query = "rel r\nlet a = [true];[true]\nlet b = a;a\nlet c = b;b\nlet d = c;c\nlet e = d;d\nlet f = e;e\nlet g = f;f\nlet h = g;g\nassume irreflexive h;h\nclaim empty r\n"; line = "accepted" }
    -- 513
    ∷ record { query = "rel r\nlet a = [true];[true]\nlet b = a;a\nlet c = b;b\nlet d = c;c\nlet e = d;d\nlet f = e;e\nlet g = f;f\nlet h = g;g\nassume irreflexive h;h;[true]\nclaim empty r\n"; line = "refusal 8 line 11" }
    -- a relation with four `within` lines has 9 leaves: 56 times it are 504 leaves
    ∷ record { query = "rel r\nlet a = r;r\nlet b = a;a\nlet c = b;b\nlet d = c;c\nlet e = d;d\nwithin r [true] [true]\nwithin r [true] [true]\nwithin r [true] [true]\nwithin r [true] [true]\nclaim empty e;d;c\n"; line = "accepted" }
    -- and 57 times it are 513
    ∷ record { query = "rel r\nlet a = r;r\nlet b = a;a\nlet c = b;b\nlet d = c;c\nlet e = d;d\nwithin r [true] [true]\nwithin r [true] [true]\nwithin r [true] [true]\nwithin r [true] [true]\nclaim empty e;d;c;r\n"; line = "refusal 8 line 11" }
    ∷ []

pub leaves_within : map reads leaves ≡ map expected leaves
unfolding reads everything
leaves_within = refl

-- the occurrences of a side: 64, and 31 on the right of a ring claim
abbrev pub occurrences : List Read
occurrences =
    -- 64 left occurrences
    record { query = "rel r\nlet a = r;r\nlet b = a;a\nlet c = b;b\nlet d = c;c\nlet e = d;d\nclaim empty e;e\n"; line = "accepted" }
    -- 65
    ∷ record { query = "rel r\nlet a = r;r\nlet b = a;a\nlet c = b;b\nlet d = c;c\nlet e = d;d\nclaim empty e;e;r\n"; line = "refusal 8 line 7" }
    -- 64 right occurrences, with the two anys
    ∷ record { query = "rel r\nlet a = r;r\nlet b = a;a\nlet c = b;b\nlet d = c;c\nlet e = d;d\nclaim include r in e;d;c;b;a\n"; line = "accepted" }
    -- 65
    ∷ record { query = "rel r\nlet a = r;r\nlet b = a;a\nlet c = b;b\nlet d = c;c\nlet e = d;d\nclaim include r in e;d;c;b;a;r\n"; line = "refusal 8 line 7" }
    -- 31 right occurrences of a ring claim
    ∷ record { query = "rel r\nlet a = r;r\nlet b = a;a\nlet c = b;b\nlet d = c;c\nlet e = d;d\nassume irreflexive d;c;b;r\nclaim irreflexive r\n"; line = "accepted" }
    -- 32
    ∷ record { query = "rel r\nlet a = r;r\nlet b = a;a\nlet c = b;b\nlet d = c;c\nlet e = d;d\nassume irreflexive d;c;b;a\nclaim irreflexive r\n"; line = "refusal 8 line 8" }
    ∷ []

pub occurrences_within : map reads occurrences ≡ map expected occurrences
unfolding reads everything
occurrences_within = refl

-- names: a letter, and 15 letters or digits at most; no reserved word
abbrev pub names : List Read
names =
    -- 16 bytes
    record { query = "rel abcdefghijklmnop\nclaim empty abcdefghijklmnop\n"; line = "accepted" }
    -- 17 bytes
    ∷ record { query = "rel abcdefghijklmnopq\nclaim empty abcdefghijklmnopq\n"; line = "refusal 3 line 1" }
    -- a digit behind a letter
    ∷ record { query = "rel r1\nclaim empty r1\n"; line = "accepted" }
    -- a digit first
    ∷ record { query = "rel r\nrel 1r\nclaim empty r\n"; line = "refusal 3 line 2" }
    -- a line word declared, and one where an expression is wanted
    ∷ record { query = "rel closed\nclaim empty [true]\n"; line = "refusal 5 line 1" }
    ∷ record { query = "rel r\nclaim empty closed\n"; line = "refusal 3 line 2" }
    -- the other reserved words declared
    ∷ record { query = "rel in\nclaim empty [true]\n"; line = "refusal 5 line 1" }
    ∷ record { query = "rel empty\nclaim empty [true]\n"; line = "refusal 5 line 1" }
    ∷ record { query = "rel include\nclaim empty [true]\n"; line = "refusal 5 line 1" }
    ∷ record { query = "rel irreflexive\nclaim empty [true]\n"; line = "refusal 5 line 1" }
    ∷ record { query = "rel true\nclaim empty [true]\n"; line = "refusal 5 line 1" }
    ∷ record { query = "rel false\nclaim empty [true]\n"; line = "refusal 5 line 1" }
    -- the first and the last of the letters and of the digits, and the bytes next to them
    ∷ record { query = "rel AZaz09\nclaim empty AZaz09\n"; line = "accepted" }
    ∷ record { query = "rel r/\nclaim empty r/\n"; line = "refusal 3 line 1" }
    ∷ record { query = "rel r:\nclaim empty r:\n"; line = "refusal 3 line 1" }
    ∷ record { query = "rel r@\nclaim empty r@\n"; line = "refusal 3 line 1" }
    ∷ record { query = "rel r[\nclaim empty r[\n"; line = "refusal 3 line 1" }
    ∷ record { query = "rel r`\nclaim empty r`\n"; line = "refusal 3 line 1" }
    ∷ record { query = "rel r{\nclaim empty r{\n"; line = "refusal 3 line 1" }
    ∷ []

pub names_within : map reads names ≡ map expected names
unfolding reads everything
names_within = refl

-- brackets: 32 open ones
abbrev pub brackets : List Read
brackets =
    -- 32 in an expression
    record { query = "rel r\nclaim empty ((((((((((((((((((((((((((((((((r))))))))))))))))))))))))))))))))\n"; line = "accepted" }
    -- 33
    ∷ record { query = "rel r\nclaim empty (((((((((((((((((((((((((((((((((r)))))))))))))))))))))))))))))))))\n"; line = "refusal 4 line 2" }
    -- 32 in a test
    ∷ record { query = "never ((((((((((((((((((((((((((((((((true))))))))))))))))))))))))))))))))\nclaim empty [true]\n"; line = "accepted" }
    -- 33
    ∷ record { query = "never (((((((((((((((((((((((((((((((((true)))))))))))))))))))))))))))))))))\nclaim empty [true]\n"; line = "refusal 4 line 1" }
    ∷ []

pub brackets_within : map reads brackets ≡ map expected brackets
unfolding reads everything
brackets_within = refl

-- 6 tests, 16 relations and 32 lets
abbrev pub declarations : List Read
declarations =
    -- six tests
    record { query = "test A\ntest B\ntest C\ntest D\ntest E\ntest F\nclaim empty [A]\n"; line = "accepted" }
    -- a seventh
    ∷ record { query = "test A\ntest B\ntest C\ntest D\ntest E\ntest F\ntest G\nclaim empty [A]\n"; line = "refusal 6 line 7" }
    -- 16 relations
    ∷ record { query = "rel a\nrel b\nrel c\nrel d\nrel e\nrel f\nrel g\nrel h\nrel i\nrel j\nrel k\nrel l\nrel m\nrel n\nrel o\nrel p\nclaim empty a\n"; line = "accepted" }
    -- a 17th
    ∷ record { query = "rel a\nrel b\nrel c\nrel d\nrel e\nrel f\nrel g\nrel h\nrel i\nrel j\nrel k\nrel l\nrel m\nrel n\nrel o\nrel p\nrel q\nclaim empty a\n"; line = "refusal 6 line 17" }
    -- 32 lets
    ∷ record { query = "rel r\nlet a = r\nlet b = r\nlet c = r\nlet d = r\nlet e = r\nlet f = r\nlet g = r\nlet h = r\nlet i = r\nlet j = r\nlet k = r\nlet l = r\nlet m = r\nlet n = r\nlet o = r\nlet p = r\nlet q = r\nlet s = r\nlet t = r\nlet u = r\nlet v = r\nlet w = r\nlet x = r\nlet y = r\nlet z = r\nlet A = r\nlet B = r\nlet C = r\nlet D = r\nlet E = r\nlet F = r\nlet G = r\nclaim empty a\n"; line = "accepted" }
    -- a 33rd
    ∷ record { query = "rel r\nlet a = r\nlet b = r\nlet c = r\nlet d = r\nlet e = r\nlet f = r\nlet g = r\nlet h = r\nlet i = r\nlet j = r\nlet k = r\nlet l = r\nlet m = r\nlet n = r\nlet o = r\nlet p = r\nlet q = r\nlet s = r\nlet t = r\nlet u = r\nlet v = r\nlet w = r\nlet x = r\nlet y = r\nlet z = r\nlet A = r\nlet B = r\nlet C = r\nlet D = r\nlet E = r\nlet F = r\nlet G = r\nlet H = r\nclaim empty a\n"; line = "refusal 6 line 34" }
    ∷ []

pub declarations_within : map reads declarations ≡ map expected declarations
unfolding reads everything
declarations_within = refl

-- a ring standing: 32 rows of 4 bytes for each of its tables, and 40 words of working memory
pub ring_standing_wide : (width ≡ 32) × (row_length ≡ 4) × (ring_words ≡ 40)
unfolding everything
ring_standing_wide = (refl, refl, refl)
