-- Where the expressions of a query start: the places that the codes give for the ends k are those of the expressions that the lines which count
-- have, in their order. The codes of an expression are below 128, so that the walk over the codes of a line meets the ends of its expressions.
-- Assumes nothing.
use Prim.Native.Nat.{ℕ, suc, ◌+◌, ◌≤◌}
use native.Mathlib.Omega.{arith}
use mathlib.Core.Path.{◌≡◌, refl, sym, ◌∙◌, ap, ap₂, subst}
use mathlib.Core.Logic.{◌⊎◌}
use mathlib.Core.Logic.◌⊎◌.{inl, inr}
use mathlib.Core.Bool.{Bool, true, false, cond, ◌&&◌}
use mathlib.Core.List.{List, [], ◌∷◌, ◌++◌, append-nil, append_assoc}
use mathlib.Core.Option.{none}
use lib.Dec.{eqb, ltb}
use lib.ListN.{length, length-append}
use borrow.Author.Tests.{lt-ltb, le-ltb, ne_eqb}
use Rattle.claims.specs.Tree.{Tree, Claim, includes, empty, irreflexive, Line, test_line, rel_line, let_line, never_line, within_line, closed_line, assume_empty, assume_irreflexive, claim_line}
use Rattle.claims.specs.Names.{uses, claim_uses, tree_uses, first_slip}
use Rattle.claims.specs.Query.{Query, index_of, relations}
use Rattle.codes.specs.Codes.{test_codes, tree_codes, claim_codes, line_codes, lines_codes, query_codes}
use Rattle.codes.proofs.Orderly.{Orderly, slip_append, Settled, settled_none, settled_more}
use Rattle.codes.proofs.Below.{Below, below_append, test_below, bracket_below, tree_below}
use Rattle.codes.proofs.Claimed.{lines_append}
use Rattle.side_items.specs.Items.{starts_from, starts_of}
use Rattle.side_items.proofs.Placed.{Placed, PlacedAll}

-- x, where the test holds
abbrev pub only : {A : Type 0} → Bool → A → List A
only b x = cond b (x ∷ []) []

-- how many expressions or lines end with the codes of a list, and of a line: an inclusion has two ends
unfoldable ends_in : List ℕ → ℕ
ends_in [] = 0
ends_in (c ∷ cs) = cond (ltb c 128) (ends_in cs) (suc (ends_in cs))

abbrev pub line_ends : Line → ℕ
line_ends (test_line n) = 1
line_ends (rel_line n) = 1
line_ends (let_line n e) = 1
line_ends (never_line t) = 1
line_ends (within_line n t u) = 1
line_ends (closed_line n) = 1
line_ends (assume_empty e) = 1
line_ends (assume_irreflexive e) = 1
line_ends (claim_line (includes e f)) = 2
line_ends (claim_line (empty e)) = 1
line_ends (claim_line (irreflexive e)) = 1

module _ (counts : ℕ → Bool) (k : ℕ) where
  -- the expressions of a claim and of a line, behind n ends, that end with the code k and count
  abbrev pub claim_ending : ℕ → Claim → List Tree
  claim_ending n (includes e f) = only (eqb 135 k && counts n) e ++ only (eqb 136 k && counts (n + 1)) f
  claim_ending n (empty e) = only (eqb 137 k && counts n) e
  claim_ending n (irreflexive e) = only (eqb 138 k && counts n) e

  abbrev pub ending : ℕ → Line → List Tree
  ending i (test_line n) = []
  ending i (rel_line n) = []
  ending i (let_line n e) = []
  ending i (never_line t) = []
  ending i (within_line n t u) = []
  ending i (closed_line n) = []
  ending i (assume_empty e) = only (eqb 133 k && counts i) e
  ending i (assume_irreflexive e) = only (eqb 134 k && counts i) e
  ending i (claim_line c) = claim_ending i c

  -- those of several lines
  abbrev pub endings : ℕ → Query → List Tree
  endings n [] = []
  endings n (l ∷ q) = ending n l ++ endings (n + line_ends l) q

-- codes of an expression end nothing
ends_below : (xs : List ℕ) → Below 128 xs → ends_in xs ≡ 0
unfolding ends_in
ends_below [] b = refl
ends_below (x ∷ xs) (h, b) = rw (lt-ltb x 128 h) (ends_below xs b)

ends_append : (xs ys : List ℕ) → ends_in (xs ++ ys) ≡ ends_in xs + ends_in ys
unfolding ends_in
ends_append [] ys = omega arith
ends_append (x ∷ xs) ys = go (ltb x 128) (ends_append xs ys)
  where
    go : (b : Bool) → ends_in (xs ++ ys) ≡ ends_in xs + ends_in ys
        → cond b (ends_in (xs ++ ys)) (suc (ends_in (xs ++ ys))) ≡ cond b (ends_in xs) (suc (ends_in xs)) + ends_in ys
    go true e = e
    go false e = omega arith

ends_one : (xs : List ℕ) (m : ℕ) → Below 128 xs → 128 ≤ m → ends_in (xs ++ (m ∷ [])) ≡ 1
unfolding ends_in
ends_one xs m b h = ends_append xs (m ∷ []) ∙ ap₂ ◌+◌ (ends_below xs b) (ap (λ c. cond c 0 1) (le-ltb m 128 h))

-- codes of which the last ends an expression, and then others
starts_append : (counts : ℕ → Bool) (k l at start l' end : ℕ) (xs : List ℕ) (m : ℕ) (ys : List ℕ) → 128 ≤ m
    → l + ends_in (xs ++ (m ∷ [])) ≡ l' → at + length (xs ++ (m ∷ [])) ≡ end
    → starts_from counts k l at start ((xs ++ (m ∷ [])) ++ ys) ≡ starts_from counts k l at start (xs ++ (m ∷ [])) ++ starts_from counts k l' end end ys
unfolding starts_from ends_in
starts_append counts k l at start l' end [] m ys h y z = rw (starts_from, le-ltb m 128 h) (go (eqb m k && counts l))
  where
    one : l + 1 ≡ l'
    one = ap (λ c. l + cond c 0 1) (sym (le-ltb m 128 h)) ∙ y

    go : (b : Bool)
        → cond b (start ∷ starts_from counts k (l + 1) (at + 1) (at + 1) ys) (starts_from counts k (l + 1) (at + 1) (at + 1) ys)
        ≡ cond b (start ∷ []) [] ++ starts_from counts k l' end end ys
    go true = ap₂ (λ i n. start ∷ starts_from counts k i n n ys) one z
    go false = ap₂ (λ i n. starts_from counts k i n n ys) one z
starts_append counts k l at start l' end (x ∷ xs) m ys h y z =
    go (ltb x 128) (eqb x k && counts l) y
    (λ e. starts_append counts k l (at + 1) start l' end xs m ys h e (omega arith))
    (λ e. starts_append counts k (l + 1) (at + 1) (at + 1) l' end xs m ys h (omega (arith, e)) (omega arith))
  where
    all : List ℕ
    all = (xs ++ (m ∷ [])) ++ ys

    part : List ℕ
    part = xs ++ (m ∷ [])

    go : (b c : Bool) → l + cond b (ends_in part) (suc (ends_in part)) ≡ l'
        → (l + ends_in part ≡ l' → starts_from counts k l (at + 1) start all ≡ starts_from counts k l (at + 1) start part ++ starts_from counts k l' end end ys)
        → (l + suc (ends_in part) ≡ l'
        → starts_from counts k (l + 1) (at + 1) (at + 1) all ≡ starts_from counts k (l + 1) (at + 1) (at + 1) part ++ starts_from counts k l' end end ys)
        → cond b (starts_from counts k l (at + 1) start all)
        (cond c (start ∷ starts_from counts k (l + 1) (at + 1) (at + 1) all) (starts_from counts k (l + 1) (at + 1) (at + 1) all))
        ≡ cond b (starts_from counts k l (at + 1) start part)
        (cond c (start ∷ starts_from counts k (l + 1) (at + 1) (at + 1) part) (starts_from counts k (l + 1) (at + 1) (at + 1) part))
        ++ starts_from counts k l' end end ys
    go true c y e f = e y
    go false true y e f = ap (λ l. start ∷ l) (f y)
    go false false y e f = f y

-- one expression and its end
starts_one : (counts : ℕ → Bool) (k l at start : ℕ) (xs : List ℕ) (m : ℕ) → 128 ≤ m → Below 128 xs
    → starts_from counts k l at start (xs ++ (m ∷ [])) ≡ only (eqb m k && counts l) start
unfolding starts_from
starts_one counts k l at start [] m h b = rw (starts_from, le-ltb m 128 h)
starts_one counts k l at start (x ∷ xs) m h (i, b) = rw (starts_from, lt-ltb x 128 i) (starts_one counts k l (at + 1) start xs m h b)

starts_none : (counts : ℕ → Bool) (k l at : ℕ) (xs : List ℕ) (m : ℕ) → 128 ≤ m → Below 128 xs → (m ≡ k → ⊥)
    → starts_from counts k l at at (xs ++ (m ∷ [])) ≡ []
starts_none counts k l at xs m h b n =
    starts_one counts k l at at xs m h b ∙ ap (λ x. only (x && counts l) at) (ne_eqb m k n)

-- what each line has ends with a code from 128 on
record LineCodes (p : Query) (l : Line) : Type 0 where
  before : List ℕ
  last : ℕ
  codes : line_codes p l ≡ before ++ (last ∷ [])
  ends : 128 ≤ last
  counted : ends_in (before ++ (last ∷ [])) ≡ line_ends l

module _ (p : Query) (s : Settled p) where
  ended : (l : Line) (xs : List ℕ) (m : ℕ) → line_codes p l ≡ xs ++ (m ∷ []) → Below 128 xs → 128 ≤ m → 1 ≡ line_ends l → LineCodes p l
  ended l xs m e b h z = record { before = xs; last = m; codes = e; ends = h; counted = ends_one xs m b h ∙ z }

  line_codes_lem : (l : Line) → LineCodes p l
  unfolding line_codes claim_codes ends_in
  line_codes_lem (test_line n) = ended (test_line n) [] 128 refl tt (omega arith) refl
  line_codes_lem (rel_line n) = ended (rel_line n) [] 129 refl tt (omega arith) refl
  line_codes_lem (let_line n e) = ended (let_line n e) (tree_codes p e) 130 refl (tree_below p s.room e) (omega arith) refl
  line_codes_lem (never_line t) = ended (never_line t) (test_codes p t) 131 refl (test_below p s.room t) (omega arith) refl
  line_codes_lem (within_line n t u) =
      let m = 144 + index_of n (relations p) in
      ended (within_line n t u) ((test_codes p t ++ (6 ∷ [])) ++ (test_codes p u ++ (6 ∷ []))) m
      (sym (append_assoc (test_codes p t ++ (6 ∷ [])) (test_codes p u ++ (6 ∷ [])) (m ∷ [])))
      (below_append 128 (test_codes p t ++ (6 ∷ [])) (test_codes p u ++ (6 ∷ [])) (bracket_below p s.room t) (bracket_below p s.room u))
      (omega arith) refl
  line_codes_lem (closed_line n) = ended (closed_line n) [] (160 + index_of n (relations p)) refl tt (omega arith) refl
  line_codes_lem (assume_empty e) = ended (assume_empty e) (tree_codes p e) 133 refl (tree_below p s.room e) (omega arith) refl
  line_codes_lem (assume_irreflexive e) = ended (assume_irreflexive e) (tree_codes p e) 134 refl (tree_below p s.room e) (omega arith) refl
  line_codes_lem (claim_line (includes e f)) =
      let a = tree_codes p e in
      let b = tree_codes p f in
      record {
        before = a ++ (135 ∷ b);
        last = 136;
        codes = refl;
        ends = omega arith;
        counted = ends_append (a ++ (135 ∷ b)) (136 ∷ [])
            ∙ ap (λ n. n + 1) (ends_append a (135 ∷ b) ∙ ap₂ (λ x y. x + suc y) (ends_below a (tree_below p s.room e)) (ends_below b (tree_below p s.room f)));
      }
  line_codes_lem (claim_line (empty e)) = ended (claim_line (empty e)) (tree_codes p e) 137 refl (tree_below p s.room e) (omega arith) refl
  line_codes_lem (claim_line (irreflexive e)) = ended (claim_line (irreflexive e)) (tree_codes p e) 138 refl (tree_below p s.room e) (omega arith) refl

placed_append : (q : Query) (es : List Tree) (ss : List ℕ) (fs : List Tree) (ts : List ℕ)
    → PlacedAll q es ss → PlacedAll q fs ts → PlacedAll q (es ++ fs) (ss ++ ts)
placed_append q [] [] fs ts a b = b
placed_append q (e ∷ es) (s ∷ ss) fs ts (x, a) b = (x, placed_append q es ss fs ts a b)
placed_append q [] (s ∷ ss) fs ts a b = elim a [ ]
placed_append q (e ∷ es) [] fs ts a b = elim a [ ]

placed_only : (q : Query) (b : Bool) (e : Tree) (s : ℕ) → Placed q e s → PlacedAll q (only b e) (only b s)
placed_only q true e s x = (x, tt)
placed_only q false e s x = tt

-- an end of something else
none_placed : (counts : ℕ → Bool) (q : Query) (k l n : ℕ) (xs : List ℕ) (m : ℕ) → 128 ≤ m → Below 128 xs → (m ≡ k → ⊥)
    → PlacedAll q [] (starts_from counts k l n n (xs ++ (m ∷ [])))
none_placed counts q k l n xs m h b ne = subst (λ y. PlacedAll q [] y) (sym (starts_none counts k l n xs m h b ne)) tt

-- one line, after those of p
module _ (q p : Query) (l : Line) (r : Query) (whole : p ++ (l ∷ r) ≡ q) (s : Settled p) where
  -- an expression of the line, behind the codes `lead`
  placed_in : (e : Tree) (lead : List ℕ) → ((lead ≡ []) ⊎ ((x : Tree) × (lead ≡ tree_codes p x ++ (135 ∷ [])))) → (m : ℕ) (after : List ℕ)
      → line_codes p l ≡ lead ++ (tree_codes p e ++ (m ∷ after)) → first_slip p (tree_uses e) ≡ none → 128 ≤ m
      → (from : ℕ) → length (lines_codes [] p) + length lead ≡ from → Placed q e from
  unfolding query_codes lines_codes
  placed_in e lead leads m after z u h from at =
      let rest = lines_codes (p ++ (l ∷ [])) r in
      record {
        before = p;
        onward = l ∷ r;
        whole = whole;
        settled = s;
        known = u;
        lead = lead;
        leads = leads;
        ended = m;
        rest = after ++ rest;
        codes =
            ap (lines_codes []) (sym whole) ∙ lines_append [] p (l ∷ r)
            ∙ ap (λ x. lines_codes [] p ++ x)
            (ap (λ x. x ++ rest) z ∙ append_assoc lead (tree_codes p e ++ (m ∷ after)) rest
            ∙ ap (λ x. lead ++ x) (append_assoc (tree_codes p e) (m ∷ after) rest))
            ∙ sym (append_assoc (lines_codes [] p) lead (tree_codes p e ++ (m ∷ (after ++ rest))));
        place = length-append (lines_codes [] p) lead ∙ at;
        ends = h;
      }

  placed_whole : (e : Tree) (m : ℕ) → line_codes p l ≡ tree_codes p e ++ (m ∷ []) → first_slip p (tree_uses e) ≡ none → 128 ≤ m
      → Placed q e (length (lines_codes [] p))
  placed_whole e m z u h = placed_in e [] (inl refl) m [] z u h (length (lines_codes [] p)) (omega arith)

  -- a line of one expression
  one_placed : (counts : ℕ → Bool) (k i : ℕ) (e : Tree) (m : ℕ) → line_codes p l ≡ tree_codes p e ++ (m ∷ []) → first_slip p (tree_uses e) ≡ none → 128 ≤ m
      → PlacedAll q (only (eqb m k && counts i) e)
      (starts_from counts k i (length (lines_codes [] p)) (length (lines_codes [] p)) (tree_codes p e ++ (m ∷ [])))
  one_placed counts k i e m z u h =
      let n = length (lines_codes [] p) in
      rw (starts_one counts k i n n (tree_codes p e) m h (tree_below p s.room e)) (placed_only q (eqb m k && counts i) e n (placed_whole e m z u h))

  -- an inclusion
  two_placed : (counts : ℕ → Bool) (k i : ℕ) (e f : Tree) → line_codes p l ≡ (tree_codes p e ++ (135 ∷ tree_codes p f)) ++ (136 ∷ [])
      → first_slip p (tree_uses e) ≡ none → first_slip p (tree_uses f) ≡ none
      → PlacedAll q (only (eqb 135 k && counts i) e ++ only (eqb 136 k && counts (i + 1)) f)
      (starts_from counts k i (length (lines_codes [] p)) (length (lines_codes [] p)) ((tree_codes p e ++ (135 ∷ tree_codes p f)) ++ (136 ∷ [])))
  two_placed counts k i e f z u v =
      let n = length (lines_codes [] p) in
      let a = tree_codes p e in
      let b = tree_codes p f in
      let mid = n + length (a ++ (135 ∷ [])) in
      let regroup : (a ++ (135 ∷ b)) ++ (136 ∷ []) ≡ (a ++ (135 ∷ [])) ++ (b ++ (136 ∷ [])) =
      append_assoc a (135 ∷ b) (136 ∷ []) ∙ sym (append_assoc a (135 ∷ []) (b ++ (136 ∷ []))) in
      let parts =
      ap (starts_from counts k i n n) regroup
      ∙ starts_append counts k i n n (i + 1) mid a 135 (b ++ (136 ∷ [])) (omega arith) (ap (λ c. i + c) (ends_one a 135 (tree_below p s.room e) (omega arith))) refl
      ∙ ap₂ ◌++◌ (starts_one counts k i n n a 135 (omega arith) (tree_below p s.room e))
      (starts_one counts k (i + 1) mid mid b 136 (omega arith) (tree_below p s.room f)) in
      subst (λ y. PlacedAll q (only (eqb 135 k && counts i) e ++ only (eqb 136 k && counts (i + 1)) f) y) (sym parts)
      (placed_append q (only (eqb 135 k && counts i) e) (only (eqb 135 k && counts i) n) (only (eqb 136 k && counts (i + 1)) f) (only (eqb 136 k && counts (i + 1)) mid)
      (placed_only q (eqb 135 k && counts i) e n
      (placed_in e [] (inl refl) 135 (b ++ (136 ∷ [])) (z ∙ append_assoc a (135 ∷ b) (136 ∷ [])) u (omega arith) n (omega arith)))
      (placed_only q (eqb 136 k && counts (i + 1)) f mid
      (placed_in f (a ++ (135 ∷ [])) (inr (e, refl)) 136 [] (z ∙ regroup) v (omega arith) mid refl)))

-- each line has its expressions where the codes say
line_placed : (counts : ℕ → Bool) (q p : Query) (l : Line) (r : Query) → p ++ (l ∷ r) ≡ q → Settled p → first_slip p (uses l) ≡ none
    → (k i : ℕ) → 133 ≤ k → k ≤ 138
    → PlacedAll q (ending counts k i l) (starts_from counts k i (length (lines_codes [] p)) (length (lines_codes [] p)) (line_codes p l))
unfolding line_codes claim_codes uses claim_uses
line_placed counts q p (test_line n) r z s u k i low high = none_placed counts q k i _ [] 128 (omega arith) tt (λ e. omega arith)
line_placed counts q p (rel_line n) r z s u k i low high = none_placed counts q k i _ [] 129 (omega arith) tt (λ e. omega arith)
line_placed counts q p (let_line n e) r z s u k i low high =
    none_placed counts q k i _ (tree_codes p e) 130 (omega arith) (tree_below p s.room e) (λ e. omega arith)
line_placed counts q p (never_line t) r z s u k i low high =
    none_placed counts q k i _ (test_codes p t) 131 (omega arith) (test_below p s.room t) (λ e. omega arith)
line_placed counts q p (within_line n t v) r z s u k i low high =
    let m = 144 + index_of n (relations p) in
    let a = test_codes p t ++ (6 ∷ []) in
    let b = test_codes p v ++ (6 ∷ []) in
    subst (λ y. PlacedAll q [] (starts_from counts k i (length (lines_codes [] p)) (length (lines_codes [] p)) y)) (append_assoc a b (m ∷ []))
    (none_placed counts q k i _ (a ++ b) m (omega arith)
    (below_append 128 a b (bracket_below p s.room t) (bracket_below p s.room v)) (λ e. omega arith))
line_placed counts q p (closed_line n) r z s u k i low high =
    none_placed counts q k i _ [] (160 + index_of n (relations p)) (omega arith) tt (λ e. omega arith)
line_placed counts q p (assume_empty e) r z s u k i low high = one_placed q p (assume_empty e) r z s counts k i e 133 refl u (omega arith)
line_placed counts q p (assume_irreflexive e) r z s u k i low high = one_placed q p (assume_irreflexive e) r z s counts k i e 134 refl u (omega arith)
line_placed counts q p (claim_line (includes e f)) r z s u k i low high =
    let (a, b) = slip_append p (tree_uses e) (tree_uses f) u in
    two_placed q p (claim_line (includes e f)) r z s counts k i e f refl a b
line_placed counts q p (claim_line (empty e)) r z s u k i low high = one_placed q p (claim_line (empty e)) r z s counts k i e 137 refl u (omega arith)
line_placed counts q p (claim_line (irreflexive e)) r z s u k i low high =
    one_placed q p (claim_line (irreflexive e)) r z s counts k i e 138 refl u (omega arith)

lines_placed : (counts : ℕ → Bool) (q p r : Query) → p ++ r ≡ q → Settled p → Orderly p r → (k i : ℕ) → 133 ≤ k → k ≤ 138
    → PlacedAll q (endings counts k i r) (starts_from counts k i (length (lines_codes [] p)) (length (lines_codes [] p)) (lines_codes p r))
unfolding lines_codes starts_from
lines_placed counts q p [] z s o k i low high = tt
lines_placed counts q p (l ∷ r) z s (u, c, o) k i low high =
    let n = length (lines_codes [] p) in
    let next = p ++ (l ∷ []) in
    let x = line_codes_lem p s l in
    let xs = x.before in
    let m = x.last in
    let end : n + length (xs ++ (m ∷ [])) ≡ length (lines_codes [] next) =
    sym
    (ap length (lines_append [] p (l ∷ []) ∙ ap (λ y. lines_codes [] p ++ y) (append-nil (line_codes p l) ∙ x.codes))
    ∙ length-append (lines_codes [] p) (xs ++ (m ∷ []))) in
    let on = starts_from counts k (i + line_ends l) (length (lines_codes [] next)) (length (lines_codes [] next)) (lines_codes next r) in
    let split : starts_from counts k i n n (line_codes p l ++ lines_codes next r) ≡ starts_from counts k i n n (line_codes p l) ++ on =
    ap (λ y. starts_from counts k i n n (y ++ lines_codes next r)) x.codes
    ∙ starts_append counts k i n n (i + line_ends l) (length (lines_codes [] next)) xs m (lines_codes next r) x.ends (ap (λ c. i + c) x.counted) end
    ∙ ap (λ y. starts_from counts k i n n y ++ on) (sym x.codes) in
    subst (λ y. PlacedAll q (ending counts k i l ++ endings counts k (i + line_ends l) r) y) (sym split)
    (placed_append q (ending counts k i l) (starts_from counts k i n n (line_codes p l)) (endings counts k (i + line_ends l) r) on
    (line_placed counts q p l r z s u k i low high)
    (lines_placed counts q next r (append_assoc p (l ∷ []) r ∙ z) (settled_more p l u c s) o k (i + line_ends l) low high))

-- the expressions of a query that end with the code k, in lines that count, are where the codes say
pub ending_placed : (counts : ℕ → Bool) (q : Query) → Orderly [] q → (k : ℕ) → 133 ≤ k → k ≤ 138
    → PlacedAll q (endings counts k 0 q) (starts_of counts k (query_codes q))
unfolding starts_of query_codes lines_codes
ending_placed counts q o k low high = lines_placed counts q [] q refl settled_none o k 0 low high
