-- The state after a line more, for the reader of a line: what the array, the table of names and the numbers are after a line that declares
-- a name, after one that declares none, and after the claim. (Document 01, "The query".)
-- Assumes nothing.
use Prim.Native.Nat.{ℕ, suc, ◌+◌, ◌<◌}
use native.Mathlib.Omega.{arith}
use native.Mathlib.Nat.{add-zero, zero-add}
use mathlib.Core.Path.{◌≡◌, refl, sym, ◌∙◌, ap, ap₂}
use mathlib.Core.Bool.{Bool, true, false, ◌||◌, or-false}
use mathlib.Core.List.{List, [], ◌∷◌, ◌++◌, append-nil, append_assoc}
use mathlib.Core.Option.{some, none}
use lib.ListN.{length, set, length-append}
use lib.Seq.{sets}
use Rattle.claims.specs.Tree.{Name, Claim, Line, test_line, rel_line, let_line, never_line, within_line, closed_line, assume_empty, assume_irreflexive, claim_line}
use Rattle.claims.specs.Names.{declares?, uses, first_slip}
use Rattle.claims.specs.Query.{Query, each, tests, relations, lets, test_names, relation_names, claims_of}
use Rattle.claims.specs.Reading.{claim_of, crowded}
use Rattle.claims.proofs.ClaimLast.{claims_none}
use Rattle.codes.specs.Codes.{query_codes, lines_codes, line_codes}
use Rattle.read_tokens.specs.Scan.{key_of, Spelled}
use Rattle.read_bodies.specs.Bodies.{Bare}
use Rattle.read_declarations.specs.State.{has_claim, After, Tabled}
use Rattle.read_declarations.specs.inner.Declaring.{number_of, one_more, DeclaresName}
use Rattle.read_names.specs.Keys.{entered}
use Rattle.read_declarations.specs.declared.LineState.{LineState}
use Rattle.codes.proofs.NameKinds.{each_more}
use Rattle.read_declarations.proofs.NameTable.{knows_entered, knows_kept}

-- the codes of a line more stand behind those before it
lines_more : (p : Query) (q : List Line) (l : Line) → lines_codes p (q ++ (l ∷ [])) ≡ lines_codes p q ++ line_codes (p ++ q) l
unfolding lines_codes
lines_more p [] l = append-nil (line_codes p l) ∙ ap (λ r. line_codes r l) (sym (append-nil p))
lines_more p (x ∷ q) l =
    ap (λ r. line_codes p x ++ r) (lines_more (p ++ (x ∷ [])) q l ∙ ap (λ r. lines_codes (p ++ (x ∷ [])) q ++ line_codes r l) (append_assoc p (x ∷ []) q))
    ∙ sym (append_assoc (line_codes p x) (lines_codes (p ++ (x ∷ [])) q) (line_codes (p ++ (x ∷ q)) l))

codes_more : (q : Query) (l : Line) → query_codes (q ++ (l ∷ [])) ≡ query_codes q ++ line_codes q l
unfolding query_codes
codes_more q l = lines_more [] q l

-- a claim, if there was one or the line is one
abbrev any_claim : List Claim → Bool
any_claim [] = false
any_claim (c ∷ cs) = true

any_append : (cs ds : List Claim) → any_claim (cs ++ ds) ≡ (any_claim cs || any_claim ds)
any_append [] ds = refl
any_append (c ∷ cs) ds = refl

claims_some : (q : Query) (c : Claim) (cs : List Claim) → each claims_of q ≡ c ∷ cs → claim_of q ≡ some c
unfolding claim_of
claims_some q c cs e = rw (e, claim_of)

claim_any : (q : Query) → has_claim q ≡ any_claim (each claims_of q)
claim_any q = go (each claims_of q) refl
  where
    go : (cs : List Claim) → each claims_of q ≡ cs → has_claim q ≡ any_claim cs
    go [] e = rw (claims_none q e, has_claim)
    go (c ∷ cs) e = rw (claims_some q c cs e, has_claim)

claimed_more : (q : Query) (l : Line) → has_claim (q ++ (l ∷ [])) ≡ (has_claim q || any_claim (claims_of l))
claimed_more q l =
    claim_any (q ++ (l ∷ [])) ∙ ap any_claim (each_more claims_of q l) ∙ any_append (each claims_of q) (claims_of l)
    ∙ ap (λ b. b || any_claim (claims_of l)) (sym (claim_any q))

-- one run of stores behind another
sets_append : (xs ys b : List ℕ) (i : ℕ) → sets b i (xs ++ ys) ≡ sets (sets b i xs) (i + length xs) ys
sets_append [] ys b i = ap (λ j. sets b j ys) (sym (add-zero i))
sets_append (x ∷ xs) ys b i =
    let e : suc i + length xs ≡ i + suc (length xs) = omega arith in
    sets_append xs ys (set b i x) (suc i) ∙ ap (λ j. sets (sets (set b i x) (suc i) xs) j ys) e

-- a line that declares no name; c says whether it is a claim
pub record Plain (c : Bool) (l : Line) : Type 0 where
  pub tests : test_names l ≡ []
  pub relations : relation_names l ≡ []
  pub lets : lets l ≡ []
  pub none : (w : Name) → declares? l w ≡ none
  pub claim : any_claim (claims_of l) ≡ c
  pub free : (q : Query) → crowded q l ≡ false

pub bare_plain : (c : Bool) (l : Line) → Bare c l → Plain c l
unfolding test_names relation_names lets declares? claims_of crowded
bare_plain c (test_line n) h = absurd h
bare_plain c (rel_line n) h = absurd h
bare_plain c (let_line n e) h = absurd h
bare_plain c (never_line t) h = record { tests = refl; relations = refl; lets = refl; none = λ w. refl; claim = sym h; free = λ q. refl }
bare_plain c (within_line n t u) h = record { tests = refl; relations = refl; lets = refl; none = λ w. refl; claim = sym h; free = λ q. refl }
bare_plain c (closed_line n) h = record { tests = refl; relations = refl; lets = refl; none = λ w. refl; claim = sym h; free = λ q. refl }
bare_plain c (assume_empty e) h = record { tests = refl; relations = refl; lets = refl; none = λ w. refl; claim = sym h; free = λ q. refl }
bare_plain c (assume_irreflexive e) h = record { tests = refl; relations = refl; lets = refl; none = λ w. refl; claim = sym h; free = λ q. refl }
bare_plain c (claim_line x) h = record { tests = refl; relations = refl; lets = refl; none = λ w. refl; claim = sym h; free = λ q. refl }

-- the state after a line more, by what the line declares
module _ (q : Query) (st : LineState) (before out : List ℕ) (a : After q st before out) where
  after_line : (l : Line) (next : LineState) (out' : List ℕ) → out' ≡ sets out st.used (line_codes q l)
      → next.used ≡ st.used + length (line_codes q l) → next.tests ≡ st.tests + length (test_names l)
      → next.relations ≡ st.relations + length (relation_names l) → next.lets ≡ st.lets + length (lets l)
      → next.names ≡ st.names + (length (test_names l) + length (relation_names l) + length (lets l))
      → next.claimed ≡ (st.claimed || any_claim (claims_of l)) → After (q ++ (l ∷ [])) next before out'
  unfolding tests relations
  after_line l next out' w u t r s n c =
      record {
        used = u ∙ ap (λ k. k + length (line_codes q l)) a.used ∙ sym (ap length (codes_more q l) ∙ length-append (query_codes q) (line_codes q l));
        written =
            w ∙ ap₂ (λ b k. sets b k (line_codes q l)) a.written (a.used ∙ sym (zero-add (length (query_codes q))))
            ∙ sym (ap (sets before 0) (codes_more q l) ∙ sets_append (query_codes q) (line_codes q l) before 0);
        tests =
            t ∙ ap (λ k. k + length (test_names l)) a.tests
            ∙ sym (ap length (each_more test_names q l) ∙ length-append (each test_names q) (test_names l));
        relations =
            r ∙ ap (λ k. k + length (relation_names l)) a.relations
            ∙ sym (ap length (each_more relation_names q l) ∙ length-append (each relation_names q) (relation_names l));
        lets =
            s ∙ ap (λ k. k + length (lets l)) a.lets ∙ sym (ap length (each_more lets q l) ∙ length-append (each lets q) (lets l));
        names = omega (arith, a.names);
        claimed = c ∙ ap (λ b. b || any_claim (claims_of l)) a.claimed ∙ sym (claimed_more q l);
      }

  -- a line that declares a name of the kind `of`
  pub after_declared : (of : ℕ) (w : Name) (l : Line) → DeclaresName of w l → (u : ℕ) (out' : List ℕ) → out' ≡ sets out st.used (line_codes q l)
      → u ≡ st.used + length (line_codes q l) → After (q ++ (l ∷ [])) (one_more of u st) before out'
  unfolding one_more
  after_declared of w l d u out' e f =
      after_line l _ out' e f (ap (λ i. st.tests + i) (sym d.tests)) (ap (λ i. st.relations + i) (sym d.relations))
      (ap (λ i. st.lets + i) (sym d.lets)) (omega (arith, d.tests, d.relations, d.lets, d.one))
      (sym (or-false st.claimed) ∙ ap (λ cs. st.claimed || any_claim cs) (sym d.unclaimed))

  -- a line that declares nothing, which may be the claim
  pub after_plain : (c : Bool) (l : Line) → Plain c l → (u : ℕ) (out' : List ℕ) → out' ≡ sets out st.used (line_codes q l)
      → u ≡ st.used + length (line_codes q l)
      → After (q ++ (l ∷ []))
      (record { used = u; names = st.names; tests = st.tests; relations = st.relations; lets = st.lets; claimed = st.claimed || c })
      before out'
  after_plain c l p u out' e f =
      after_line l _ out' e f (omega (arith, ap length p.tests)) (omega (arith, ap length p.relations)) (omega (arith, ap length p.lets))
      (omega (arith, ap length p.tests, ap length p.relations, ap length p.lets)) (ap (λ x. st.claimed || x) (sym p.claim))

-- the table of names after a line more
module _ (names : List ℕ) (n : ℕ) (q : Query) (k : Tabled names n q) where
  pub knows_declared : (of : ℕ) (w : Name) (l : Line) → DeclaresName of w l → (c : ℕ) → Spelled w → n < 64 → first_slip q (uses l) ≡ none
      → c ≡ of + number_of of q → Tabled (entered names n (key_of w) c) (n + 1) (q ++ (l ∷ []))
  knows_declared of w l d c s h e f =
      knows_entered names n q l w c k s h (d.fresh q e) d.others (d.coded q (d.fresh q e) ∙ sym f) (omega (arith, d.code))

  pub knows_plain : (c : Bool) (l : Line) → Plain c l → Tabled names n (q ++ (l ∷ []))
  knows_plain c l p = knows_kept names n q l k p.none
