-- Which relations a query closes, from its codes: relation r is in the set exactly where the query has a `closed` line of its name. The code of
-- such a line is 160 and the number of the relation, and no other code is so high. A relation's number is its place among the names, since no
-- name is declared twice.
-- Assumes nothing.
use Prim.Native.Nat.{ℕ, zero, suc, ◌+◌, ◌≤◌, ◌<◌}
use native.Mathlib.Omega.{arith}
use mathlib.Core.Path.{◌≡◌, refl, sym, ◌∙◌, ap, ap₂, subst}
use mathlib.Core.Logic.{⊎_elim}
use mathlib.Core.Bool.{Bool, true, false, ◌||◌, or-false, or_assoc, true≢false}
use mathlib.Core.List.{List, [], ◌∷◌, ◌++◌, append_assoc, append-nil}
use mathlib.Core.Option.{none}
use lib.ListN.{length, get_or, length-append, replicate, get_or-append}
use lib.Seq.{get_or-append_seam}
use borrow.Author.Tests.{ne_eqb}
use Rattle.kat.specs.Lists.{some}
use Rattle.kat.proofs.Bools.{lt_or_le, or_right, or_left}
use Rattle.claims.specs.Bytes.{same}
use Rattle.claims.specs.Tokens.{is_reserved}
use Rattle.claims.specs.Tree.{Name, Claim, includes, empty, irreflexive, Line, test_line, rel_line, let_line, never_line, within_line, closed_line, assume_empty, assume_irreflexive, claim_line}
use Rattle.claims.specs.Names.{declares, uses_relation, uses, kind_of, slip, first_slip}
use Rattle.claims.specs.Query.{Query, bit, each, index_of, relation_names, closed_names, relations, closed}
use Rattle.claims.proofs.Results.{same_self}
use Rattle.codes.specs.Codes.{tree_codes, test_codes, claim_codes, line_codes, lines_codes, query_codes}
use Rattle.codes.proofs.Below.{Below, below_append, test_below, bracket_below, tree_below}
use Rattle.codes.proofs.NamedRelations.{named_relation, same_number}
use Rattle.codes.proofs.NameKinds.{each_more}
use Rattle.codes.proofs.Names.{has, has_append, index_lt, index_append}
use Rattle.codes.proofs.Orderly.{Orderly, is_relation, slip_first, undeclared, Settled, settled_none, settled_more, settled_on}
use Rattle.memory.specs.Memory.{zeros}
use Rattle.side_relations.specs.Relations.{closed_set}
use Rattle.side_relations.proofs.ClosedSets.{of_closed, closed_bit}

-- codes one after another
some_append : (p : ℕ → Bool) (xs ys : List ℕ) → some p (xs ++ ys) ≡ (some p xs || some p ys)
some_append p [] ys = refl
some_append p (x ∷ xs) ys = ap (λ b. p x || b) (some_append p xs ys) ∙ sym (or_assoc (p x) (some p xs) (some p ys))

-- zeros behind the codes close nothing
zeros_close_none : (i n : ℕ) → some (of_closed i) (zeros n) ≡ false
unfolding zeros
zeros_close_none i zero = refl
zeros_close_none i (suc n) = ap (λ b. b || some (of_closed i) (replicate n 0)) (ne_eqb 0 (160 + i) (λ z. omega arith)) ∙ zeros_close_none i n

-- codes below 160 close nothing
low_close_none : (i : ℕ) (ks : List ℕ) → Below 160 ks → some (of_closed i) ks ≡ false
low_close_none i [] b = refl
low_close_none i (k ∷ ks) (h, b) = ap (λ x. x || some (of_closed i) ks) (ne_eqb k (160 + i) (λ z. omega arith)) ∙ low_close_none i ks b

lifted : (ks : List ℕ) → Below 128 ks → Below 160 ks
lifted [] b = tt
lifted (k ∷ ks) (h, b) = (omega arith, lifted ks b)

ended : (ks : List ℕ) (k : ℕ) → Below 128 ks → k < 160 → Below 160 (ks ++ (k ∷ []))
ended ks k b h = below_append 160 ks (k ∷ []) (lifted ks b) (h, tt)

claim_below : (p : Query) → Settled p → (c : Claim) → Below 160 (claim_codes p c)
unfolding claim_codes
claim_below p s (includes e f) =
    below_append 160 (tree_codes p e ++ (135 ∷ tree_codes p f)) (136 ∷ [])
    (below_append 160 (tree_codes p e) (135 ∷ tree_codes p f) (lifted (tree_codes p e) (tree_below p s.room e))
    (omega arith, lifted (tree_codes p f) (tree_below p s.room f))) (omega arith, tt)
claim_below p s (empty e) = ended (tree_codes p e) 137 (tree_below p s.room e) (omega arith)
claim_below p s (irreflexive e) = ended (tree_codes p e) 138 (tree_below p s.room e) (omega arith)

-- the `closed` lines of relation n of the query q
module _ (q : Query) (n : Name) (inQ : has n (relations q) ≡ true) where
  abbrev number : ℕ
  number = index_of n (relations q)

  module _ (p r : Query) (z : p ++ r ≡ q) (s : Settled p) where
    line_closed : (l : Line) → first_slip p (uses l) ≡ none → some (of_closed number) (line_codes p l) ≡ has n (closed_names l)
    unfolding closed_names line_codes uses
    line_closed (test_line m) e = low_close_none number (line_codes p (test_line m)) (omega arith, tt)
    line_closed (rel_line m) e = low_close_none number (line_codes p (rel_line m)) (omega arith, tt)
    line_closed (let_line m t) e =
        low_close_none number (tree_codes p t ++ (130 ∷ [])) (ended (tree_codes p t) 130 (tree_below p s.room t) (omega arith))
    line_closed (never_line t) e =
        low_close_none number (test_codes p t ++ (131 ∷ [])) (ended (test_codes p t) 131 (test_below p s.room t) (omega arith))
    line_closed (within_line m t u) e =
        let k = index_lt m (relations p) (named_relation q p r z s m (slip_first p (uses_relation m) _ e).0) in
        low_close_none number (line_codes p (within_line m t u))
        (below_append 160 (test_codes p t ++ (6 ∷ [])) ((test_codes p u ++ (6 ∷ [])) ++ ((144 + index_of m (relations p)) ∷ []))
        (lifted (test_codes p t ++ (6 ∷ [])) (bracket_below p s.room t))
        (ended (test_codes p u ++ (6 ∷ [])) (144 + index_of m (relations p)) (bracket_below p s.room u) (omega (arith, k, s.room.relations))))
    line_closed (closed_line m) e =
        ap (λ b. b || false) (same_number q p r z s m (slip_first p (uses_relation m) [] e).0 n inQ 160)
    line_closed (assume_empty t) e =
        low_close_none number (tree_codes p t ++ (133 ∷ [])) (ended (tree_codes p t) 133 (tree_below p s.room t) (omega arith))
    line_closed (assume_irreflexive t) e =
        low_close_none number (tree_codes p t ++ (134 ∷ [])) (ended (tree_codes p t) 134 (tree_below p s.room t) (omega arith))
    line_closed (claim_line c) e = low_close_none number (claim_codes p c) (claim_below p s c)

  lines_closed : (p r : Query) → p ++ r ≡ q → Orderly p r → Settled p
      → some (of_closed number) (lines_codes p r) ≡ has n (each closed_names r)
  unfolding lines_codes
  lines_closed p [] z o s = refl
  lines_closed p (l ∷ r) z (e, c, o) s =
      some_append (of_closed number) (line_codes p l) (lines_codes (p ++ (l ∷ [])) r)
      ∙ ap₂ ◌||◌ (line_closed p (l ∷ r) z s l e)
      (lines_closed (p ++ (l ∷ [])) r (append_assoc p (l ∷ []) r ∙ z) o (settled_more p l e c s))
      ∙ sym (has_append n (closed_names l) (each closed_names r))

-- each name stands at its number
abbrev Numbered : List Name → Type 0
Numbered ns = (r : ℕ) → r < length ns → (has (get_or ns r []) ns ≡ true) × (index_of (get_or ns r []) ns ≡ r)

has_self : (n : Name) (ns : List Name) → has n (ns ++ (n ∷ [])) ≡ true
has_self n ns = has_append n ns (n ∷ []) ∙ or_right (has n ns) (or_left false (same_self n))

index_last : (n : Name) (ns : List Name) → has n ns ≡ false → index_of n (ns ++ (n ∷ [])) ≡ length ns
index_last n [] h = ap (λ b. elim b [ true ↦ 0 | false ↦ 1 ]) (same_self n)
index_last n (x ∷ ns) h = go (same n x) h (index_last n ns)
  where
    go : (s : Bool) → (s || has n ns) ≡ false → (has n ns ≡ false → index_of n (ns ++ (n ∷ [])) ≡ length ns)
        → ◌≡◌ {A = ℕ} (elim s [ true ↦ 0 | false ↦ suc (index_of n (ns ++ (n ∷ []))) ]) (suc (length ns))
    go true e i = absurd (true≢false e)
    go false e i = ap suc (i e)

numbered_more : (ns : List Name) (n : Name) → Numbered ns → has n ns ≡ false → Numbered (ns ++ (n ∷ []))
numbered_more ns n N h r l = ⊎_elim old new (lt_or_le r (length ns))
  where
    old : r < length ns → (has (get_or (ns ++ (n ∷ [])) r []) (ns ++ (n ∷ [])) ≡ true) × (index_of (get_or (ns ++ (n ∷ [])) r []) (ns ++ (n ∷ [])) ≡ r)
    old b =
        let (i, j) = N r b in
        subst (λ m. (has m (ns ++ (n ∷ [])) ≡ true) × (index_of m (ns ++ (n ∷ [])) ≡ r)) (sym (get_or-append ns (n ∷ []) [] r b)) (
          has_append (get_or ns r []) ns (n ∷ []) ∙ or_left (has (get_or ns r []) (n ∷ [])) i,
          index_append (get_or ns r []) ns (n ∷ []) i ∙ j,
        )

    new : length ns ≤ r → (has (get_or (ns ++ (n ∷ [])) r []) (ns ++ (n ∷ [])) ≡ true) × (index_of (get_or (ns ++ (n ∷ [])) r []) (ns ++ (n ∷ [])) ≡ r)
    new b =
        let e : length ns ≡ r = omega (arith, length-append ns (n ∷ [])) in
        subst (λ m. (has m (ns ++ (n ∷ [])) ≡ true) × (index_of m (ns ++ (n ∷ [])) ≡ r))
        (sym (get_or-append_seam ns n [] []) ∙ ap (λ k. get_or (ns ++ (n ∷ [])) k []) e) (has_self n ns, index_last n ns h ∙ e)

-- a line declares no relation anew
line_numbered : (p : Query) (l : Line) → first_slip p (uses l) ≡ none → Settled p → Numbered (relations p) → Numbered (relations p ++ relation_names l)
unfolding relation_names uses slip
line_numbered p (test_line m) e s N = subst Numbered (sym (append-nil (relations p))) N
line_numbered p (rel_line m) e s N = numbered_more (relations p) m N (s.known.a_relation m ∙ ap is_relation fresh)
  where
    fresh : kind_of p m ≡ none
    fresh = undeclared (is_reserved m) (kind_of p m) (slip_first p (declares m) [] e).0
line_numbered p (let_line m t) e s N = subst Numbered (sym (append-nil (relations p))) N
line_numbered p (never_line t) e s N = subst Numbered (sym (append-nil (relations p))) N
line_numbered p (within_line m t u) e s N = subst Numbered (sym (append-nil (relations p))) N
line_numbered p (closed_line m) e s N = subst Numbered (sym (append-nil (relations p))) N
line_numbered p (assume_empty t) e s N = subst Numbered (sym (append-nil (relations p))) N
line_numbered p (assume_irreflexive t) e s N = subst Numbered (sym (append-nil (relations p))) N
line_numbered p (claim_line c) e s N = subst Numbered (sym (append-nil (relations p))) N

lines_numbered : (p r : Query) → Orderly p r → Settled p → Numbered (relations p) → Numbered (relations (p ++ r))
unfolding relations
lines_numbered p [] o s N = subst (λ x. Numbered (relations x)) (sym (append-nil p)) N
lines_numbered p (l ∷ r) (e, c, o) s N =
    subst (λ x. Numbered (relations x)) (append_assoc p (l ∷ []) r)
    (lines_numbered (p ++ (l ∷ [])) r o (settled_more p l e c s)
    (subst Numbered (sym (each_more relation_names p l)) (line_numbered p l e s N)))

numbered : (q : Query) → Orderly [] q → Numbered (relations q)
unfolding relations
numbered q o = lines_numbered [] q o settled_none (λ r h. absurd (omega arith))

-- the set of the closed relations
pub closed_relation : (q : Query) → Orderly [] q → (n r : ℕ) → r < length (relations q)
    → bit r (closed_set 0 (query_codes q ++ zeros n)) ≡ closed q (get_or (relations q) r [])
unfolding query_codes closed
closed_relation q o n r h =
    let (i, j) = numbered q o r h in
    let m : Name = get_or (relations q) r [] in
    let few = (settled_on [] q o settled_none).room.relations in
    closed_bit (query_codes q ++ zeros n) r (omega arith)
    ∙ some_append (of_closed r) (query_codes q) (zeros n) ∙ ap (λ b. some (of_closed r) (query_codes q) || b) (zeros_close_none r n)
    ∙ or-false (some (of_closed r) (query_codes q)) ∙ ap (λ k. some (of_closed k) (query_codes q)) (sym j) ∙ lines_closed q m i [] q refl o settled_none
