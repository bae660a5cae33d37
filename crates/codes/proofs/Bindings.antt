-- What the names of a query are bound to, whatever they are bound to: the relations first, then the lets, each with what f makes of its
-- expression over the names before it. Where f goes by names that are bound, further names change nothing, so that each let is bound to
-- what f makes of its expression over all the names.
-- Assumes nothing.
use Prim.Native.Nat.{ℕ, suc, ◌+◌}
use native.Mathlib.Omega.{arith}
use mathlib.Core.Path.{◌≡◌, refl, sym, ◌∙◌, ap, ap₂, subst}
use mathlib.Core.Logic.{◌⊎◌, ⊎_elim}
use mathlib.Core.Logic.◌⊎◌.{inl, inr}
use mathlib.Core.Bool.{Bool, true, false, ◌||◌, true≢false}
use mathlib.Core.List.{List, [], ◌∷◌, ◌++◌, append-nil, append_assoc, map-append}
use mathlib.Core.Option.{Option, some, none}
use lib.ListN.{length}
use Rattle.kat.specs.Expr.{alt, seq, none as nowhere, opt as optional, star as starred, plus as repeated}
use Rattle.kat.proofs.Bools.{or_left, or_right}
use Rattle.claims.specs.Bytes.{same}
use Rattle.claims.specs.Tokens.{is_reserved}
use Rattle.claims.specs.Tree.{Name, Tree, name, tested, union, sequence, star, plus, opt, Line, test_line, rel_line, let_line, never_line, within_line, closed_line, assume_empty, assume_irreflexive, claim_line}
use Rattle.claims.specs.Names.{Kind, a_test, a_relation, a_let, declares, uses_either, uses, tree_uses, declares?, kind_of, slip, first_slip, either_slip}
use Rattle.claims.specs.Query.{Query, Bound, lookup, bound, bound_lets, each, index_of, names, relation_names, lets, relations}
use Rattle.claims.specs.Counting.{count}
use Rattle.claims.specs.Sides.{expand}
use Rattle.claims.proofs.Results.{same_is_equal, same_self, each_append}
use Rattle.codes.specs.Codes.{let_names}
use Rattle.codes.proofs.Names.{has, has_append, index_append, called, lookup_first, lookup_second, called_bound, lookup_bound}
use Rattle.codes.proofs.Orderly.{Orderly, slip_first, slip_append, is_relation, is_let, undeclared, first_of, kind_append, Settled, settled_none, settled_on}

-- lines in order, in two parts
pub orderly_parts : (p a b : Query) → Orderly p (a ++ b) → Orderly p a × Orderly (p ++ a) b
orderly_parts p [] b o = (tt, subst (λ x. Orderly x b) (sym (append-nil p)) o)
orderly_parts p (l ∷ a) b (e, c, o) =
    let (h, k) = orderly_parts (p ++ (l ∷ [])) a b o in
    ((e, c, h), subst (λ x. Orderly x b) (append_assoc p (l ∷ []) a) k)

-- a name where a relation or a let is wanted is one
pub relation_or_let : (k : Option Kind) → either_slip k ≡ none → (k ≡ some a_relation) ⊎ (k ≡ some a_let)
unfolding either_slip
relation_or_let none e = absurd (let z : ◌≡◌ {A = ℕ} 0 1 = cc in omega arith)
relation_or_let (some a_test) e = absurd (let z : ◌≡◌ {A = ℕ} 0 1 = cc in omega arith)
relation_or_let (some a_relation) e = inl refl
relation_or_let (some a_let) e = inr refl

-- the relations of the first lines are the first relations
relations_append : (p r : Query) → relations (p ++ r) ≡ relations p ++ relations r
unfolding relations
relations_append p r = each_append relation_names p r

pub relation_place : (q p r : Query) → p ++ r ≡ q → (n : Name) → has n (relations p) ≡ true
    → (index_of n (relations p) ≡ index_of n (relations q)) × (has n (relations q) ≡ true)
relation_place q p r z n h =
    let parts : relations q ≡ relations p ++ relations r = ap relations (sym z) ∙ relations_append p r in (
      sym (ap (index_of n) parts ∙ index_append n (relations p) (relations r) h),
      ap (has n) parts ∙ has_append n (relations p) (relations r) ∙ or_left (has n (relations r)) h,
    )

pub relation_in : (p : Query) (n : Name) → Settled p → kind_of p n ≡ some a_relation → has n (relations p) ≡ true
relation_in p n s e = s.known.a_relation n ∙ ap is_relation e

pub let_in : (p : Query) (n : Name) → Settled p → kind_of p n ≡ some a_let → has n (let_names p) ≡ true
let_in p n s e = s.known.a_let n ∙ ap is_let e

-- the let line of a name, among the lines of p
pub record LetLine (p : Query) (n : Name) : Type 0 where
  pub earlier : Query
  pub later : Query
  pub means : Tree
  pub here : p ≡ earlier ++ (let_line n means ∷ later)
  pub number : index_of n (let_names p) ≡ length (each lets earlier)

-- the same line, behind a line that declares no let or another one
line_before : (l : Line) (p : Query) (n : Name) → lets l ≡ [] → LetLine p n → LetLine (l ∷ p) n
unfolding let_names
line_before l p n e r =
    record {
      earlier = l ∷ r.earlier;
      later = r.later;
      means = r.means;
      here = ap (λ x. l ∷ x) r.here;
      number = ap (λ x. index_of n (called (x ++ each lets p))) e ∙ r.number ∙ ap (λ x. length (x ++ each lets r.earlier)) (sym e);
    }

let_before_lem : (m : Name) (e : Tree) (p : Query) (n : Name) → same n m ≡ false → LetLine p n → LetLine (let_line m e ∷ p) n
unfolding let_names lets
let_before_lem m e p n s r =
    record {
      earlier = let_line m e ∷ r.earlier;
      later = r.later;
      means = r.means;
      here = ap (λ x. let_line m e ∷ x) r.here;
      number = ap (λ s. elim s [ true ↦ 0 | false ↦ suc (index_of n (let_names p)) ]) s ∙ ap suc r.number;
    }

-- the first line is it
let_here : (m : Name) (e : Tree) (p : Query) (n : Name) → same n m ≡ true → LetLine (let_line m e ∷ p) n
unfolding let_names lets
let_here m e p n s =
    record {
      earlier = [];
      later = p;
      means = e;
      here = ap (λ x. let_line x e ∷ p) (sym (same_is_equal n m s));
      number = ap (λ s. elim s [ true ↦ 0 | false ↦ suc (index_of n (let_names p)) ]) s;
    }

let_found : (p : Query) (n : Name) → has n (let_names p) ≡ true → LetLine p n
unfolding let_names lets
let_found [] n h = absurd (true≢false (sym h))
let_found (test_line m ∷ p) n h = line_before (test_line m) p n refl (let_found p n h)
let_found (rel_line m ∷ p) n h = line_before (rel_line m) p n refl (let_found p n h)
let_found (let_line m e ∷ p) n h = go (same n m) refl h (let_found p n)
  where
    go : (s : Bool) → same n m ≡ s → (s || has n (let_names p)) ≡ true → (has n (let_names p) ≡ true → LetLine p n)
        → LetLine (let_line m e ∷ p) n
    go true s h k = let_here m e p n s
    go false s h k = let_before_lem m e p n s (k h)
let_found (never_line t ∷ p) n h = line_before (never_line t) p n refl (let_found p n h)
let_found (within_line m t u ∷ p) n h = line_before (within_line m t u) p n refl (let_found p n h)
let_found (closed_line m ∷ p) n h = line_before (closed_line m) p n refl (let_found p n h)
let_found (assume_empty e ∷ p) n h = line_before (assume_empty e) p n refl (let_found p n h)
let_found (assume_irreflexive e ∷ p) n h = line_before (assume_irreflexive e) p n refl (let_found p n h)
let_found (claim_line c ∷ p) n h = line_before (claim_line c) p n refl (let_found p n h)

pub let_line_lem : (p : Query) → Settled p → (n : Name) → kind_of p n ≡ some a_let → LetLine p n
let_line_lem p s n k = let_found p n (let_in p n s k)

module _ {A : Type 0} where
  -- f gives the same over further names
  abbrev pub Grows : (List (Bound A) → Tree → A) → Type 0
  Grows f =
      (p : Query) (a b : List (Bound A)) → ((n : Name) → slip p (uses_either n) ≡ none → has n (called a) ≡ true)
      → (e : Tree) → first_slip p (tree_uses e) ≡ none → f (a ++ b) e ≡ f a e

  module _ (f : List (Bound A) → Tree → A) where
    -- lets are bound behind the names before them, one after another
    lets_extend : (a : List (Bound A)) (bs : List (Bound Tree)) → (b : List (Bound A)) × (bound_lets f a bs ≡ a ++ b)
    lets_extend a [] = ([], sym (append-nil a))
    lets_extend a (x ∷ bs) =
        let y : List (Bound A) = record { called = x.called; means = f a x.means } ∷ [] in
        let (b, e) = lets_extend (a ++ y) bs in
        (y ++ b, e ∙ append_assoc a y b)

    lets_append : (a : List (Bound A)) (bs cs : List (Bound Tree)) → bound_lets f a (bs ++ cs) ≡ bound_lets f (bound_lets f a bs) cs
    lets_append a [] cs = refl
    lets_append a (x ∷ bs) cs = lets_append (a ++ (record { called = x.called; means = f a x.means } ∷ [])) bs cs

    lets_called : (a : List (Bound A)) (bs : List (Bound Tree)) → called (bound_lets f a bs) ≡ called a ++ called bs
    lets_called a [] = sym (append-nil (called a))
    lets_called a (x ∷ bs) =
        let y : List (Bound A) = record { called = x.called; means = f a x.means } ∷ [] in
        lets_called (a ++ y) bs
        ∙ ap (λ l. l ++ called bs) (map-append (λ b. b.called) a y)
        ∙ append_assoc (called a) (x.called ∷ []) (called bs)

module _ {A : Type 0} (d : A) (f : List (Bound A) → Tree → A) (grows : Grows f) (q : Query) (w : Name → A) (o : Orderly [] q) where
  -- a relation is bound to what w gives it
  pub relation_bound : (p r : Query) → p ++ r ≡ q → Settled p → (n : Name) → kind_of p n ≡ some a_relation → lookup d n (names q w f) ≡ w n
  unfolding names
  relation_bound p r z s n k =
      let (b, e) = lets_extend f (bound w (relations q)) (each lets q) in
      ap (lookup d n) e ∙ lookup_bound d w n (relations q) b (relation_place q p r z n (relation_in p n s k)).1

  module _ (p r : Query) (n : Name) (e : Tree) (z : p ++ (let_line n e ∷ r) ≡ q) where
    -- the names before a let line, and the line's own
    abbrev before : List (Bound A)
    before = bound_lets f (bound w (relations q)) (each lets p)

    abbrev own : List (Bound A)
    own = record { called = n; means = f before e } ∷ []

    names_parts : (b : List (Bound A)) × (names q w f ≡ before ++ (own ++ b))
    unfolding names lets
    names_parts =
        let (b, g) = lets_extend f (before ++ own) (each lets r) in (
          b,
          ap (bound_lets f (bound w (relations q))) (ap (each lets) (sym z) ∙ each_append lets p (let_line n e ∷ r))
              ∙ lets_append f (bound w (relations q)) (each lets p) (each lets (let_line n e ∷ r)) ∙ g ∙ append_assoc before own b,
        )

    before_called : called before ≡ relations q ++ let_names p
    unfolding let_names
    before_called =
        lets_called f (bound w (relations q)) (each lets p) ∙ ap (λ l. l ++ let_names p) (called_bound w (relations q))

    settled_before : Settled p
    settled_before = settled_on [] p (orderly_parts [] p (let_line n e ∷ r) (subst (Orderly []) (sym z) o)).0 settled_none

    -- the name is not declared before the line, and what stands in its expression is
    in_order : (kind_of p n ≡ none) × (first_slip p (tree_uses e) ≡ none)
    unfolding uses slip
    in_order =
        let (s, c, k) = (orderly_parts [] p (let_line n e ∷ r) (subst (Orderly []) (sym z) o)).1 in
        let (h, u) = slip_first p (declares n) (tree_uses e) s in
        (undeclared (is_reserved n) (kind_of p n) h, u)

    declared_here : kind_of q n ≡ some a_let
    unfolding kind_of declares?
    declared_here =
        ap (λ x. kind_of x n) (sym z) ∙ kind_append p (let_line n e ∷ r) n
        ∙ ap (λ k. first_of k (kind_of (let_line n e ∷ r) n)) in_order.0 ∙ rw (same_self n, kind_of, declares?)

    not_before : has n (called before) ≡ false
    not_before =
        ap (has n) before_called ∙ has_append n (relations q) (let_names p)
        ∙ ap₂ ◌||◌ ((settled_on [] q o settled_none).known.a_relation n ∙ ap is_relation declared_here)
        (settled_before.known.a_let n ∙ ap is_let in_order.0)

    -- what the line may use is bound before it
    bound_before : (m : Name) → slip p (uses_either m) ≡ none → has m (called before) ≡ true
    unfolding slip
    bound_before m h =
        ap (has m) before_called ∙ has_append m (relations q) (let_names p)
        ∙ ⊎_elim
        (λ k. or_left (has m (let_names p)) (relation_place q p (let_line n e ∷ r) z m (relation_in p m settled_before k)).1)
        (λ k. or_right (has m (relations q)) (let_in p m settled_before k))
        (relation_or_let (kind_of p m) h)

    -- a let is bound to what f makes of its expression over all the names
    meant_there : lookup d n (names q w f) ≡ f (names q w f) e
    meant_there =
        let (b, g) = names_parts in
        ap (lookup d n) g ∙ lookup_second d n before (own ++ b) not_before
        ∙ ap (λ s. elim s as (λ x. A) [ true ↦ f before e | false ↦ lookup d n b ]) (same_self n)
        ∙ sym (ap (λ x. f x e) g ∙ grows p before (own ++ b) bound_before e in_order.1)

  pub let_bound : (p r : Query) → p ++ r ≡ q → (n : Name) → (l : LetLine p n) → lookup d n (names q w f) ≡ f (names q w f) l.means
  let_bound p r z n l =
      meant_there l.earlier (l.later ++ r) n l.means
      (sym (append_assoc l.earlier (let_line n l.means ∷ l.later) r) ∙ ap (λ x. x ++ r) (sym l.here) ∙ z)

-- what an expression counts, and what it is expanded to
pub count_grows : (t : ℕ) → Grows (count t)
unfolding count tree_uses
count_grows t p a b all (name n) s = lookup_first 0 n a b (all n (slip_first p (uses_either n) [] s).0)
count_grows t p a b all (tested u) s = refl
count_grows t p a b all (union e f) s =
    let (h, k) = slip_append p (tree_uses e) (tree_uses f) s in
    ap₂ ◌+◌ (count_grows t p a b all e h) (count_grows t p a b all f k)
count_grows t p a b all (sequence e f) s =
    let (h, k) = slip_append p (tree_uses e) (tree_uses f) s in
    ap₂ ◌+◌ (count_grows t p a b all e h) (count_grows t p a b all f k)
count_grows t p a b all (star e) s = count_grows t p a b all e s
count_grows t p a b all (plus e) s = count_grows t p a b all e s
count_grows t p a b all (opt e) s = count_grows t p a b all e s

pub expand_grows : (ts : List Name) → Grows (expand ts)
unfolding expand tree_uses
expand_grows ts p a b all (name n) s = lookup_first nowhere n a b (all n (slip_first p (uses_either n) [] s).0)
expand_grows ts p a b all (tested u) s = refl
expand_grows ts p a b all (union e f) s =
    let (h, k) = slip_append p (tree_uses e) (tree_uses f) s in
    ap₂ alt (expand_grows ts p a b all e h) (expand_grows ts p a b all f k)
expand_grows ts p a b all (sequence e f) s =
    let (h, k) = slip_append p (tree_uses e) (tree_uses f) s in
    ap₂ seq (expand_grows ts p a b all e h) (expand_grows ts p a b all f k)
expand_grows ts p a b all (star e) s = ap starred (expand_grows ts p a b all e s)
expand_grows ts p a b all (plus e) s = ap repeated (expand_grows ts p a b all e s)
expand_grows ts p a b all (opt e) s = ap optional (expand_grows ts p a b all e s)
