-- The lines of a query that was read: each is taken after those before it, so its names are declared and of the right kind, and none of
-- its declarations is one too many. What a name is declared as says in which list of names it stands, and it stands in one only.
-- Assumes nothing.
use Prim.Native.Nat.{ℕ}
use native.Mathlib.Omega.{arith}
use mathlib.Core.Path.{◌≡◌, refl, sym, ◌∙◌, ap, ap₂, subst}
use mathlib.Core.Bool.{Bool, true, false, ◌||◌, or-false}
use mathlib.Core.List.{List, [], ◌∷◌, ◌++◌, map, append-nil, append_assoc, map-append}
use mathlib.Core.Option.{Option, some, none}
use Rattle.claims.specs.Bytes.{RawLine, same}
use Rattle.claims.specs.Tokens.{is_reserved}
use Rattle.claims.specs.Tree.{Name, Tree, Line, test_line, rel_line, let_line, never_line, within_line, closed_line, assume_empty, assume_irreflexive, claim_line}
use Rattle.claims.specs.Names.{Kind, a_test, a_relation, a_let, Use, declares, uses, declares?, kind_of, slip, first_slip, declaration_slip}
use Rattle.claims.specs.Query.{Query, Bound, each, relation_names, lets, relations}
use Rattle.claims.specs.Refusals.{Cause, ok}
use Rattle.claims.specs.Reading.{crowded, read_lines}
use Rattle.claims.proofs.Results.{same_is_equal, each_append}
use Rattle.claims.proofs.LineOrder.{lines_taken}
use Rattle.claims.specs.RefusalOrder.{Taken}
use Rattle.claims.proofs.Limits.{Declared, nothing_declared, declared_more}
use Rattle.codes.specs.Codes.{let_names}
use Rattle.codes.proofs.Names.{has, same_turned, has_append}

-- the lines ls are in order after those of p
abbrev pub Orderly : Query → List Line → Type 0
Orderly p [] = Unit {0}
Orderly p (l ∷ ls) = (first_slip p (uses l) ≡ none) × (crowded p l ≡ false) × Orderly (p ++ (l ∷ [])) ls

taken_on : (p : Query) (ls : List RawLine) (q : Query) → Taken p ls q → (r : List Line) × (q ≡ p ++ r) × Orderly p r
taken_on p [] q e = ([], sym e ∙ sym (append-nil p), tt)
taken_on p (l ∷ ls) q (x, t, ts) =
    let (r, e, o) = taken_on (p ++ (x ∷ [])) ls q ts in
    (x ∷ r, e ∙ append_assoc p (x ∷ []) r, (t.names_in_order, t.room_for_it, o))

-- lines that are taken one after another are in order
pub taken_orderly : (ls : List RawLine) (q : Query) → Taken [] ls q → Orderly [] q
taken_orderly ls q ts = let (r, e, o) = taken_on [] ls q ts in subst (Orderly []) (sym e) o

pub read_orderly : (ls : List RawLine) (q : Query) → read_lines [] 1 ls ≡ ok q → Orderly [] q
read_orderly ls q e = taken_orderly ls q ((lines_taken [] 1 ls q).0 e)

-- the leftmost slip of several names
pub slip_first : (p : Query) (u : Use) (us : List Use) → first_slip p (u ∷ us) ≡ none → (slip p u ≡ none) × (first_slip p us ≡ none)
unfolding first_slip
slip_first p u us e = go (slip p u) refl e
  where
    go : (s : Option Cause) → slip p u ≡ s → ◌≡◌ {A = Option Cause} (elim s [ some c ↦ some c | none ↦ first_slip p us ]) none
        → (slip p u ≡ none) × (first_slip p us ≡ none)
    go (some c) f h = absurd (let z : ◌≡◌ {A = ℕ} 0 1 = cc in omega arith)
    go none f h = (f, h)

pub slip_append : (p : Query) (us vs : List Use) → first_slip p (us ++ vs) ≡ none → (first_slip p us ≡ none) × (first_slip p vs ≡ none)
unfolding first_slip
slip_append p [] vs e = (refl, e)
slip_append p (u ∷ us) vs e = go (slip p u) e (slip_append p us vs)
  where
    go : (s : Option Cause) → ◌≡◌ {A = Option Cause} (elim s [ some c ↦ some c | none ↦ first_slip p (us ++ vs) ]) none
        → (first_slip p (us ++ vs) ≡ none → (first_slip p us ≡ none) × (first_slip p vs ≡ none))
        → (◌≡◌ {A = Option Cause} (elim s [ some c ↦ some c | none ↦ first_slip p us ]) none) × (first_slip p vs ≡ none)
    go (some c) h k = absurd (let z : ◌≡◌ {A = ℕ} 0 1 = cc in omega arith)
    go none h k = k h

-- what is declared as a relation, and what as a let
abbrev pub is_relation : Option Kind → Bool
is_relation none = false
is_relation (some a_test) = false
is_relation (some a_relation) = true
is_relation (some a_let) = false

abbrev pub is_let : Option Kind → Bool
is_let none = false
is_let (some a_test) = false
is_let (some a_relation) = false
is_let (some a_let) = true

-- the let that a line declares, by its name
abbrev pub let_name : Line → List Name
let_name l = map (λ (b : Bound Tree). b.called) (lets l)

line_relation : (l : Line) (n : Name) → has n (relation_names l) ≡ is_relation (declares? l n)
unfolding relation_names declares?
line_relation (test_line m) n = go (same m n)
  where
    go : (s : Bool) → false ≡ is_relation (elim s [ true ↦ some a_test | false ↦ none ])
    go true = refl
    go false = refl
line_relation (rel_line m) n = ap (λ s. s || false) (same_turned n m) ∙ go (same m n)
  where
    go : (s : Bool) → (s || false) ≡ is_relation (elim s [ true ↦ some a_relation | false ↦ none ])
    go true = refl
    go false = refl
line_relation (let_line m e) n = go (same m n)
  where
    go : (s : Bool) → false ≡ is_relation (elim s [ true ↦ some a_let | false ↦ none ])
    go true = refl
    go false = refl
line_relation (never_line t) n = refl
line_relation (within_line m t u) n = refl
line_relation (closed_line m) n = refl
line_relation (assume_empty e) n = refl
line_relation (assume_irreflexive e) n = refl
line_relation (claim_line c) n = refl

line_let : (l : Line) (n : Name) → has n (let_name l) ≡ is_let (declares? l n)
unfolding lets declares?
line_let (test_line m) n = go (same m n)
  where
    go : (s : Bool) → false ≡ is_let (elim s [ true ↦ some a_test | false ↦ none ])
    go true = refl
    go false = refl
line_let (rel_line m) n = go (same m n)
  where
    go : (s : Bool) → false ≡ is_let (elim s [ true ↦ some a_relation | false ↦ none ])
    go true = refl
    go false = refl
line_let (let_line m e) n = ap (λ s. s || false) (same_turned n m) ∙ go (same m n)
  where
    go : (s : Bool) → (s || false) ≡ is_let (elim s [ true ↦ some a_let | false ↦ none ])
    go true = refl
    go false = refl
line_let (never_line t) n = refl
line_let (within_line m t u) n = refl
line_let (closed_line m) n = refl
line_let (assume_empty e) n = refl
line_let (assume_irreflexive e) n = refl
line_let (claim_line c) n = refl

-- a name is declared once
pub undeclared : (b : Bool) (k : Option Kind) → declaration_slip b k ≡ none → k ≡ none
unfolding declaration_slip
undeclared true k e = absurd (let z : ◌≡◌ {A = ℕ} 0 1 = cc in omega arith)
undeclared false none e = refl
undeclared false (some k) e = absurd (let z : ◌≡◌ {A = ℕ} 0 1 = cc in omega arith)

module _ (p : Query) (n : Name) (k : Kind) (known : kind_of p n ≡ some k) where
  another : (m : Name) (us : List Use) → first_slip p (declares m ∷ us) ≡ none → same m n ≡ false
  unfolding slip
  another m us e =
      let f : kind_of p m ≡ none = undeclared (is_reserved m) (kind_of p m) (slip_first p (declares m) us e).0 in
      go (same m n) refl f
    where
      go : (s : Bool) → same m n ≡ s → kind_of p m ≡ none → s ≡ false
      go true g f =
          let z : kind_of p n ≡ none = subst (λ x. kind_of p x ≡ none) (same_is_equal m n g) f in
          absurd (let y : ◌≡◌ {A = ℕ} 0 1 = cc in omega arith)
      go false g f = refl

  not_again : (l : Line) → first_slip p (uses l) ≡ none → declares? l n ≡ none
  unfolding uses declares?
  not_again (test_line m) e = rw (another m [] e, declares?)
  not_again (rel_line m) e = rw (another m [] e, declares?)
  not_again (let_line m f) e = rw (another m _ e, declares?)
  not_again (never_line t) e = refl
  not_again (within_line m t u) e = refl
  not_again (closed_line m) e = refl
  not_again (assume_empty f) e = refl
  not_again (assume_irreflexive f) e = refl
  not_again (claim_line c) e = refl

-- what further lines declare
abbrev pub first_of : Option Kind → Option Kind → Option Kind
first_of none o = o
first_of (some k) o = some k

pub kind_append : (p r : Query) (n : Name) → kind_of (p ++ r) n ≡ first_of (kind_of p n) (kind_of r n)
unfolding kind_of
kind_append [] r n = refl
kind_append (l ∷ p) r n = go (declares? l n) (kind_append p r n)
  where
    go : (o : Option Kind) → kind_of (p ++ r) n ≡ first_of (kind_of p n) (kind_of r n)
        → ◌≡◌ {A = Option Kind} (elim o [ some k ↦ some k | none ↦ kind_of (p ++ r) n ])
        (first_of (elim o [ some k ↦ some k | none ↦ kind_of p n ]) (kind_of r n))
    go none e = e
    go (some k) e = refl

pub kind_kept : (p r : Query) (n : Name) {k : Kind} → kind_of p n ≡ some k → kind_of (p ++ r) n ≡ some k
kind_kept p r n e = kind_append p r n ∙ ap (λ o. first_of o (kind_of r n)) e

kind_line : (l : Line) (n : Name) → kind_of (l ∷ []) n ≡ declares? l n
unfolding kind_of
kind_line l n = go (declares? l n)
  where
    go : (o : Option Kind) → ◌≡◌ {A = Option Kind} (elim o [ some k ↦ some k | none ↦ none ]) o
    go none = refl
    go (some k) = refl

-- the lists of names go by what the names are declared as
pub record Known (p : Query) : Type 0 where
  pub a_relation : (n : Name) → has n (relations p) ≡ is_relation (kind_of p n)
  pub a_let : (n : Name) → has n (let_names p) ≡ is_let (kind_of p n)

module _ (is : Option Kind → Bool) (nothing : is none ≡ false) (p : Query) (l : Line) (n : Name) where
  both_lists : first_slip p (uses l) ≡ none → (is (kind_of p n) || is (declares? l n)) ≡ is (kind_of (p ++ (l ∷ [])) n)
  both_lists e = go (kind_of p n) refl ∙ sym (ap is (kind_append p (l ∷ []) n ∙ ap (first_of (kind_of p n)) (kind_line l n)))
    where
      go : (o : Option Kind) → kind_of p n ≡ o → (is o || is (declares? l n)) ≡ is (first_of o (declares? l n))
      go none f = ap (λ b. b || is (declares? l n)) nothing
      go (some k) f = ap (λ o. is (some k) || is o) (not_again p n k f l e) ∙ ap (λ b. is (some k) || b) nothing ∙ or-false (is (some k))

pub let_names_more : (p : Query) (l : Line) → let_names (p ++ (l ∷ [])) ≡ let_names p ++ let_name l
unfolding let_names
let_names_more p l =
    ap (map (λ (b : Bound Tree). b.called)) (each_append lets p (l ∷ []) ∙ ap (λ x. each lets p ++ x) (append-nil (lets l)))
    ∙ map-append (λ (b : Bound Tree). b.called) (each lets p) (lets l)

known_more : (p : Query) (l : Line) → first_slip p (uses l) ≡ none → Known p → Known (p ++ (l ∷ []))
unfolding relations let_names
known_more p l e h =
    record {
      a_relation = λ n.
          ap (has n) (each_append relation_names p (l ∷ []) ∙ ap (λ x. each relation_names p ++ x) (append-nil (relation_names l)))
          ∙ has_append n (each relation_names p) (relation_names l) ∙ ap₂ ◌||◌ (h.a_relation n) (line_relation l n)
          ∙ both_lists is_relation refl p l n e;
      a_let = λ n.
          ap (has n) (let_names_more p l) ∙ has_append n (let_names p) (let_name l) ∙ ap₂ ◌||◌ (h.a_let n) (line_let l n)
          ∙ both_lists is_let refl p l n e;
    }

known_on : (p r : Query) → Orderly p r → Known p → Known (p ++ r)
known_on p [] o h = subst Known (sym (append-nil p)) h
known_on p (l ∷ r) (e, c, o) h =
    subst Known (append_assoc p (l ∷ []) r) (known_on (p ++ (l ∷ [])) r o (known_more p l e h))

nothing_known : Known []
unfolding relations let_names kind_of
nothing_known = record { a_relation = λ n. refl; a_let = λ n. refl }

-- declarations keep to their numbers
room_on : (p r : Query) → Orderly p r → Declared p → Declared (p ++ r)
room_on p [] o d = subst Declared (sym (append-nil p)) d
room_on p (l ∷ r) (e, c, o) d =
    subst Declared (append_assoc p (l ∷ []) r) (room_on (p ++ (l ∷ [])) r o (declared_more p l c d))

-- what is known of the names that the lines of p declare
pub record Settled (p : Query) : Type 0 where
  pub known : Known p
  pub room : Declared p

pub settled_none : Settled []
settled_none = record { known = nothing_known; room = nothing_declared }

pub settled_more : (p : Query) (l : Line) → first_slip p (uses l) ≡ none → crowded p l ≡ false → Settled p → Settled (p ++ (l ∷ []))
settled_more p l e c s = record { known = known_more p l e s.known; room = declared_more p l c s.room }

pub settled_on : (p r : Query) → Orderly p r → Settled p → Settled (p ++ r)
settled_on p r o s = record { known = known_on p r o s.known; room = room_on p r o s.room }
