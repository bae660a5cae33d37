-- Names by their kinds and codes, when a line more is read: a name that was declared keeps its code, a name that the line declares gets the
-- next one of its kind, and every other name has none. The idea: the names of a kind are one list, to which a line adds at the end.
-- Assumes nothing.
use Prim.Native.Nat.{ℕ, suc, ◌+◌, ◌≤◌, ◌<◌}
use native.Mathlib.Omega.{arith}
use mathlib.Core.Path.{◌≡◌, refl, sym, ◌∙◌, ap, subst}
use mathlib.Core.Bool.{Bool, true, false, ◌||◌, true≢false}
use mathlib.Core.List.{List, [], ◌∷◌, ◌++◌, map, map-append, append-nil}
use mathlib.Core.Option.{Option, some as just, none}
use lib.ListN.{length, length-map}
use Rattle.kat.specs.Lists.{some}
use Rattle.kat.proofs.Bools.{bool_ext, or_left, or_right}
use Rattle.claims.specs.Bytes.{same}
use Rattle.claims.specs.Tree.{Name, Tree, Line, test_line, rel_line, let_line, never_line, within_line, closed_line, assume_empty, assume_irreflexive, claim_line}
use Rattle.claims.specs.Names.{Kind, a_test, a_relation, a_let, declares?, kind_of}
use Rattle.claims.specs.Query.{Query, Bound, each, index_of, tests, relations, lets, test_names, relation_names}
use Rattle.claims.proofs.Results.{same_is_equal, same_self, each_append}
use Rattle.codes.specs.Codes.{let_names, kind_code, code_of}

-- the names that a line declares as a kind, those of all lines, and the code before the first of them
of_kind : Kind → Line → List Name
of_kind a_test l = test_names l
of_kind a_relation l = relation_names l
of_kind a_let l = map (λ (b : Bound Tree). b.called) (lets l)

all_of : Kind → Query → List Name
all_of a_test q = tests q
all_of a_relation q = relations q
all_of a_let q = let_names q

base : Kind → ℕ
base a_test = 16
base a_relation = 32
base a_let = 64

all_front : (k : Kind) (l : Line) (q : Query) → all_of k (l ∷ q) ≡ of_kind k l ++ all_of k q
unfolding of_kind all_of tests relations let_names
all_front a_test l q = refl
all_front a_relation l q = refl
all_front a_let l q = map-append (λ (b : Bound Tree). b.called) (lets l) (each lets q)

pub each_more : {A : Type 0} (f : Line → List A) (q : Query) (l : Line) → each f (q ++ (l ∷ [])) ≡ each f q ++ f l
each_more f q l = each_append f q (l ∷ []) ∙ ap (λ r. each f q ++ r) (append-nil (f l))

all_more : (k : Kind) (q : Query) (l : Line) → all_of k (q ++ (l ∷ [])) ≡ all_of k q ++ of_kind k l
unfolding of_kind all_of tests relations let_names
all_more a_test q l = each_more test_names q l
all_more a_relation q l = each_more relation_names q l
all_more a_let q l =
    ap (map (λ (b : Bound Tree). b.called)) (each_more lets q l) ∙ map-append (λ (b : Bound Tree). b.called) (each lets q) (lets l)

-- whether a name is in a list of names, and at which place
same_turned : (m n : Name) → same m n ≡ same n m
same_turned m n = bool_ext (same m n) (same n m) (turn m n) (turn n m)
  where
    turn : (m n : Name) → same m n ≡ true → same n m ≡ true
    turn m n e = subst (λ x. same x m ≡ true) (same_is_equal m n e) (same_self m)

some_append : (p : Name → Bool) (xs ys : List Name) → some p (xs ++ ys) ≡ (some p xs || some p ys)
some_append p [] ys = refl
some_append p (x ∷ xs) ys = go (p x) (some_append p xs ys)
  where
    go : (b : Bool) → some p (xs ++ ys) ≡ (some p xs || some p ys) → (b || some p (xs ++ ys)) ≡ ((b || some p xs) || some p ys)
    go true e = refl
    go false e = e

index_kept : (v : Name) (ms ns : List Name) → some (same v) ms ≡ true → index_of v (ms ++ ns) ≡ index_of v ms
index_kept v [] ns e = absurd (true≢false (sym e))
index_kept v (m ∷ ms) ns e = go (same v m) e (index_kept v ms ns)
  where
    go : (b : Bool) → (b || some (same v) ms) ≡ true → (some (same v) ms ≡ true → index_of v (ms ++ ns) ≡ index_of v ms)
        → ◌≡◌ {A = ℕ} (elim b [ true ↦ 0 | false ↦ suc (index_of v (ms ++ ns)) ]) (elim b [ true ↦ 0 | false ↦ suc (index_of v ms) ])
    go true f k = refl
    go false f k = ap suc (k f)

index_new : (v : Name) (ms : List Name) → some (same v) ms ≡ false → index_of v (ms ++ (v ∷ [])) ≡ length ms
index_new v [] e = rw (same_self v, index_of)
index_new v (m ∷ ms) e = go (same v m) e (index_new v ms)
  where
    go : (b : Bool) → (b || some (same v) ms) ≡ false → (some (same v) ms ≡ false → index_of v (ms ++ (v ∷ [])) ≡ length ms)
        → ◌≡◌ {A = ℕ} (elim b [ true ↦ 0 | false ↦ suc (index_of v (ms ++ (v ∷ []))) ]) (suc (length ms))
    go true f k = absurd (true≢false f)
    go false f k = ap suc (k f)

index_below : (v : Name) (ms : List Name) → some (same v) ms ≡ true → index_of v ms < length ms
index_below v [] e = absurd (true≢false (sym e))
index_below v (m ∷ ms) e = go (same v m) e (index_below v ms)
  where
    go : (b : Bool) → (b || some (same v) ms) ≡ true → (some (same v) ms ≡ true → index_of v ms < length ms)
        → elim b [ true ↦ 0 | false ↦ suc (index_of v ms) ] < suc (length ms)
    go true f k = omega arith
    go false f k = omega (arith, k f)

-- a line declares the name as kind k, or it is among none of the line's names
declared_in : (l : Line) (v : Name) (k : Kind) → declares? l v ≡ just k → some (same v) (of_kind k l) ≡ true
unfolding declares? of_kind test_names relation_names lets
declared_in (test_line n) v k e = go (same n v) refl e
  where
    go : (b : Bool) → same n v ≡ b → elim b [ true ↦ just a_test | false ↦ none ] ≡ just k → some (same v) (of_kind k (test_line n)) ≡ true
    go true f g = let h : a_test ≡ k = cc in subst (λ x. some (same v) (of_kind x (test_line n)) ≡ true) h (or_left false (same_turned v n ∙ f))
    go false f g = absurd (let z : ◌≡◌ {A = ℕ} 0 1 = cc in omega arith)
declared_in (rel_line n) v k e = go (same n v) refl e
  where
    go : (b : Bool) → same n v ≡ b → elim b [ true ↦ just a_relation | false ↦ none ] ≡ just k → some (same v) (of_kind k (rel_line n)) ≡ true
    go true f g = let h : a_relation ≡ k = cc in subst (λ x. some (same v) (of_kind x (rel_line n)) ≡ true) h (or_left false (same_turned v n ∙ f))
    go false f g = absurd (let z : ◌≡◌ {A = ℕ} 0 1 = cc in omega arith)
declared_in (let_line n t) v k e = go (same n v) refl e
  where
    go : (b : Bool) → same n v ≡ b → elim b [ true ↦ just a_let | false ↦ none ] ≡ just k → some (same v) (of_kind k (let_line n t)) ≡ true
    go true f g = let h : a_let ≡ k = cc in subst (λ x. some (same v) (of_kind x (let_line n t)) ≡ true) h (or_left false (same_turned v n ∙ f))
    go false f g = absurd (let z : ◌≡◌ {A = ℕ} 0 1 = cc in omega arith)
declared_in (never_line t) v k e = absurd (let z : ◌≡◌ {A = ℕ} 0 1 = cc in omega arith)
declared_in (within_line n t u) v k e = absurd (let z : ◌≡◌ {A = ℕ} 0 1 = cc in omega arith)
declared_in (closed_line n) v k e = absurd (let z : ◌≡◌ {A = ℕ} 0 1 = cc in omega arith)
declared_in (assume_empty t) v k e = absurd (let z : ◌≡◌ {A = ℕ} 0 1 = cc in omega arith)
declared_in (assume_irreflexive t) v k e = absurd (let z : ◌≡◌ {A = ℕ} 0 1 = cc in omega arith)
declared_in (claim_line c) v k e = absurd (let z : ◌≡◌ {A = ℕ} 0 1 = cc in omega arith)

-- the one name that a line declares is no other name
not_named : (n v : Name) (k : Kind) → ◌≡◌ {A = Option Kind} (elim (same n v) [ true ↦ just k | false ↦ none ]) none → some (same v) (n ∷ []) ≡ false
not_named n v k e = go (same n v) refl e
  where
    go : (b : Bool) → same n v ≡ b → ◌≡◌ {A = Option Kind} (elim b [ true ↦ just k | false ↦ none ]) none → some (same v) (n ∷ []) ≡ false
    go true f g = absurd (let z : ◌≡◌ {A = ℕ} 0 1 = cc in omega arith)
    go false f g = rw (same_turned v n, f)

none_of : (l : Line) (v : Name) → test_names l ≡ [] → relation_names l ≡ [] → lets l ≡ [] → (k : Kind) → some (same v) (of_kind k l) ≡ false
unfolding of_kind
none_of l v a b c a_test = ap (some (same v)) a
none_of l v a b c a_relation = ap (some (same v)) b
none_of l v a b c a_let = ap (λ bs. some (same v) (map (λ (b : Bound Tree). b.called) bs)) c

declared_out : (l : Line) (v : Name) → declares? l v ≡ none → (k : Kind) → some (same v) (of_kind k l) ≡ false
unfolding declares? of_kind test_names relation_names lets
declared_out (test_line n) v e a_test = not_named n v a_test e
declared_out (test_line n) v e a_relation = refl
declared_out (test_line n) v e a_let = refl
declared_out (rel_line n) v e a_test = refl
declared_out (rel_line n) v e a_relation = not_named n v a_relation e
declared_out (rel_line n) v e a_let = refl
declared_out (let_line n t) v e a_test = refl
declared_out (let_line n t) v e a_relation = refl
declared_out (let_line n t) v e a_let = not_named n v a_let e
declared_out (never_line t) v e k = none_of (never_line t) v refl refl refl k
declared_out (within_line n t u) v e k = none_of (within_line n t u) v refl refl refl k
declared_out (closed_line n) v e k = none_of (closed_line n) v refl refl refl k
declared_out (assume_empty t) v e k = none_of (assume_empty t) v refl refl refl k
declared_out (assume_irreflexive t) v e k = none_of (assume_irreflexive t) v refl refl refl k
declared_out (claim_line c) v e k = none_of (claim_line c) v refl refl refl k

-- a name of kind k is among the names of that kind, and a name of none is among no names
kind_in : (q : Query) (v : Name) (k : Kind) → kind_of q v ≡ just k → some (same v) (all_of k q) ≡ true
unfolding kind_of
kind_in [] v k e = absurd (let z : ◌≡◌ {A = ℕ} 0 1 = cc in omega arith)
kind_in (l ∷ q) v k e = rw (all_front k l q, some_append (same v) (of_kind k l) (all_of k q)) (go (declares? l v) refl e (kind_in q v k))
  where
    go : (o : Option Kind) → declares? l v ≡ o → elim o [ just j ↦ just j | none ↦ kind_of q v ] ≡ just k
        → (kind_of q v ≡ just k → some (same v) (all_of k q) ≡ true) → (some (same v) (of_kind k l) || some (same v) (all_of k q)) ≡ true
    go (just j) f g h = or_left (some (same v) (all_of k q)) (declared_in l v k (f ∙ g))
    go none f g h = or_right (some (same v) (of_kind k l)) (h g)

kind_out : (q : Query) (v : Name) → kind_of q v ≡ none → (k : Kind) → some (same v) (all_of k q) ≡ false
unfolding kind_of all_of tests relations let_names
kind_out [] v e a_test = refl
kind_out [] v e a_relation = refl
kind_out [] v e a_let = refl
kind_out (l ∷ q) v e k = rw (all_front k l q, some_append (same v) (of_kind k l) (all_of k q)) (go (declares? l v) refl e (λ f. kind_out q v f k))
  where
    go : (o : Option Kind) → declares? l v ≡ o → ◌≡◌ {A = Option Kind} (elim o [ just j ↦ just j | none ↦ kind_of q v ]) none
        → (kind_of q v ≡ none → some (same v) (all_of k q) ≡ false) → (some (same v) (of_kind k l) || some (same v) (all_of k q)) ≡ false
    go (just j) f g h = absurd (let z : ◌≡◌ {A = ℕ} 0 1 = cc in omega arith)
    go none f g h = rw (declared_out l v f k) (h g)

-- the kind after a line more: the first that there is
abbrev first : Option Kind → Option Kind → Option Kind
first (just k) o = just k
first none o = o

kind_front : (l : Line) (q : Query) (v : Name) → kind_of (l ∷ q) v ≡ first (declares? l v) (kind_of q v)
unfolding kind_of
kind_front l q v = go (declares? l v)
  where
    go : (o : Option Kind) → elim o [ just k ↦ just k | none ↦ kind_of q v ] ≡ first o (kind_of q v)
    go (just k) = refl
    go none = refl

kind_more : (q : Query) (l : Line) (v : Name) → kind_of (q ++ (l ∷ [])) v ≡ first (kind_of q v) (declares? l v)
unfolding kind_of
kind_more [] l v = kind_front l [] v ∙ go (declares? l v)
  where
    go : (o : Option Kind) → first o (kind_of [] v) ≡ first (kind_of [] v) o
    go (just k) = refl
    go none = refl
kind_more (m ∷ q) l v =
    kind_front m (q ++ (l ∷ [])) v ∙ ap (first (declares? m v)) (kind_more q l v) ∙ go (declares? m v)
    ∙ ap (λ o. first o (declares? l v)) (sym (kind_front m q v))
  where
    go : (o : Option Kind) → first o (first (kind_of q v) (declares? l v)) ≡ first (first o (kind_of q v)) (declares? l v)
    go (just k) = refl
    go none = refl

-- a code is that of the kind and the place
code_at : (q : Query) (v : Name) (k : Kind) → kind_of q v ≡ just k → code_of q v ≡ base k + index_of v (all_of k q)
unfolding code_of kind_code base all_of
code_at q v k e = ap (kind_code q v) e ∙ go k
  where
    go : (k : Kind) → kind_code q v (just k) ≡ base k + index_of v (all_of k q)
    go a_test = refl
    go a_relation = refl
    go a_let = refl

pub code_none : (q : Query) (v : Name) → kind_of q v ≡ none → code_of q v ≡ 0
unfolding code_of kind_code
code_none q v e = rw (e, kind_code)

-- a name with the code 0 is not declared
pub not_declared : (q : Query) (v : Name) → code_of q v ≡ 0 → kind_of q v ≡ none
unfolding base
not_declared q v e = go (kind_of q v) refl
  where
    positive : (k : Kind) → 0 < base k
    positive a_test = omega arith
    positive a_relation = omega arith
    positive a_let = omega arith

    go : (o : Option Kind) → kind_of q v ≡ o → o ≡ none
    go (just k) f = absurd (omega (arith, code_at q v k f, positive k))
    go none f = refl

-- the code after a line more: of a name that was declared, of one that the line does not declare, and of one that it does
code_kept : (q : Query) (l : Line) (v : Name) (k : Kind) → kind_of q v ≡ just k → code_of (q ++ (l ∷ [])) v ≡ code_of q v
code_kept q l v k e =
    code_at (q ++ (l ∷ [])) v k (kind_more q l v ∙ ap (λ o. first o (declares? l v)) e)
    ∙ ap (λ i. base k + i) (ap (index_of v) (all_more k q l) ∙ index_kept v (all_of k q) (of_kind k l) (kind_in q v k e))
    ∙ sym (code_at q v k e)

pub code_other : (q : Query) (l : Line) (v : Name) → declares? l v ≡ none → code_of (q ++ (l ∷ [])) v ≡ code_of q v
code_other q l v e = go (kind_of q v) refl
  where
    go : (o : Option Kind) → kind_of q v ≡ o → code_of (q ++ (l ∷ [])) v ≡ code_of q v
    go (just k) f = code_kept q l v k f
    go none f =
        code_none (q ++ (l ∷ [])) v (kind_more q l v ∙ ap (λ o. first o (declares? l v)) f ∙ e) ∙ sym (code_none q v f)

code_new : (q : Query) (l : Line) (v : Name) (k : Kind) → kind_of q v ≡ none → declares? l v ≡ just k → of_kind k l ≡ v ∷ []
    → code_of (q ++ (l ∷ [])) v ≡ base k + length (all_of k q)
code_new q l v k e f g =
    code_at (q ++ (l ∷ [])) v k (kind_more q l v ∙ ap (λ o. first o (declares? l v)) e ∙ f)
    ∙ ap (λ i. base k + i)
    (ap (index_of v) (all_more k q l ∙ ap (λ ns. all_of k q ++ ns) g) ∙ index_new v (all_of k q) (kind_out q v e k))

-- the three kinds of lines that declare a name
pub code_test : (q : Query) (w : Name) → kind_of q w ≡ none → code_of (q ++ (test_line w ∷ [])) w ≡ 16 + length (tests q)
unfolding declares? of_kind all_of base test_names
code_test q w e = code_new q (test_line w) w a_test e (rw (same_self w, declares?)) refl

pub code_relation : (q : Query) (w : Name) → kind_of q w ≡ none → code_of (q ++ (rel_line w ∷ [])) w ≡ 32 + length (relations q)
unfolding declares? of_kind all_of base relation_names
code_relation q w e = code_new q (rel_line w) w a_relation e (rw (same_self w, declares?)) refl

pub code_let : (q : Query) (w : Name) (t : Tree) → kind_of q w ≡ none → code_of (q ++ (let_line w t ∷ [])) w ≡ 64 + length (each lets q)
unfolding declares? of_kind all_of base lets let_names
code_let q w t e =
    code_new q (let_line w t) w a_let e (rw (same_self w, declares?)) refl
    ∙ ap (λ i. 64 + i) (length-map (each lets q) (λ (b : Bound Tree). b.called))

-- a line that declares w declares no other name
pub other_test : (w v : Name) → same w v ≡ false → declares? (test_line w) v ≡ none
unfolding declares?
other_test w v e = rw (e, declares?)

pub other_relation : (w v : Name) → same w v ≡ false → declares? (rel_line w) v ≡ none
unfolding declares?
other_relation w v e = rw (e, declares?)

pub other_let : (w v : Name) (t : Tree) → same w v ≡ false → declares? (let_line w t) v ≡ none
unfolding declares?
other_let w v t e = rw (e, declares?)

-- the kind by the code, where no more is declared than may be
abbrev pub Coded : Query → Name → Option Kind → ℕ → Type 0
Coded q v none c = c ≡ 0
Coded q v (just a_test) c = (c ≡ 16 + index_of v (tests q)) × (c < 32)
Coded q v (just a_relation) c = (c ≡ 32 + index_of v (relations q)) × (c < 64)
Coded q v (just a_let) c = c ≡ 64 + index_of v (let_names q)

pub coded : (q : Query) (v : Name) → length (tests q) ≤ 16 → length (relations q) ≤ 32 → Coded q v (kind_of q v) (code_of q v)
unfolding base all_of
coded q v a b = go (kind_of q v) refl
  where
    go : (o : Option Kind) → kind_of q v ≡ o → Coded q v o (code_of q v)
    go none e = code_none q v e
    go (just a_test) e = (code_at q v a_test e, omega (arith, code_at q v a_test e, index_below v (tests q) (kind_in q v a_test e)))
    go (just a_relation) e =
        (code_at q v a_relation e, omega (arith, code_at q v a_relation e, index_below v (relations q) (kind_in q v a_relation e)))
    go (just a_let) e = code_at q v a_let e
