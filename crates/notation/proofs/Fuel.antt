-- The bound on the depth of calls with which a line is read is enough: a greater one gives the same answer, so no line is called wrong for
-- want of depth. The idea: a reader hands on fewer tokens than it got, and one that goes on after a value no more; so with a bound of at
-- least a rank of the reader and 8 for each token, one more changes nothing. Both are shown together for all readers of T, and then for
-- all of E, by induction on the bound; the chains and the brackets once for both.
-- Assumes nothing.
use Prim.Native.Nat.{ℕ, zero, suc, ◌+◌, ◌*◌, ◌-◌, ◌≤◌, ◌<◌}
use native.Mathlib.Omega.{arith}
use mathlib.Core.Path.{◌≡◌, refl, sym, ◌∙◌, ap, subst}
use mathlib.Core.Bool.{Bool, true, false, true≢false}
use mathlib.Core.List.{List, [], ◌∷◌}
use lib.Dec.{eqb}
use lib.ListN.{length}
use Rattle.notation.specs.Bytes.{byte, text}
use Rattle.notation.specs.Tokens.{Token, word, mark, bad, is_reserved}
use Rattle.notation.specs.Tree.{Name, test_name, either, both, not, Tree, name, tested, union, sequence, star, plus, opt}
use Rattle.notation.specs.Grammar.{Found, got, wrong, deep, and_then, goes_on, past, before_mark, name_next, says_next, test_word, test_union, test_union_more, test_meet, test_meet_more, test_not, test_basic, union_of, union_more, sequence_of, sequence_more, postfix_of, postfix_more, factor_of}
use Rattle.notation.specs.Lines.{enough}

-- fewer than m tokens are left, where something was found
abbrev Leaves : {A : Type 0} → ℕ → Found A → Type 0
Leaves m (got a us) = length us < m
Leaves m wrong = Unit {0}
Leaves m deep = Unit {0}

module _ {A : Type 0} where
  leaves_more : (p m : ℕ) (x : Found A) → p ≤ m → Leaves p x → Leaves m x
  leaves_more p m (got a us) h k = omega arith
  leaves_more p m wrong h k = tt
  leaves_more p m deep h k = tt

  -- one of two readers, by a test
  either_leaves : (m : ℕ) (c : Bool) (x y : Found A) → (c ≡ true → Leaves m x) → (c ≡ false → Leaves m y)
      → Leaves {A = A} m (elim c [ true ↦ x | false ↦ y ])
  either_leaves m true x y f g = f refl
  either_leaves m false x y f g = g refl

  either_same : (c : Bool) (x x' y y' : Found A) → (c ≡ true → x ≡ x') → (c ≡ false → y ≡ y')
      → ◌≡◌ {A = Found A} (elim c [ true ↦ x | false ↦ y ]) (elim c [ true ↦ x' | false ↦ y' ])
  either_same true x x' y y' f g = f refl
  either_same false x x' y y' f g = g refl

module _ {A B : Type 0} where
  -- the second reader goes on where the first ended
  then_leaves : (m : ℕ) (x : Found A) (k : A → List Token → Found B) → Leaves m x
      → ((a : A) (us : List Token) → Leaves (suc (length us)) (k a us)) → Leaves m (and_then x k)
  then_leaves m (got a us) k h f = leaves_more (suc (length us)) m (k a us) (omega arith) (f a us)
  then_leaves m wrong k h f = tt
  then_leaves m deep k h f = tt

  then_same : (m : ℕ) (x y : Found A) (f g : A → List Token → Found B) → x ≡ y → Leaves m y
      → ((a : A) (us : List Token) → length us < m → f a us ≡ g a us) → and_then x f ≡ and_then y g
  then_same m x y f g e h k = ap (λ z. and_then z f) e ∙ same y h
    where
      same : (y : Found A) → Leaves m y → and_then y f ≡ and_then y g
      same (got a us) h = k a us h
      same wrong h = refl
      same deep h = refl

-- a mark, a word or a name that stands next is a token
goes_past : (b : ℕ) (ts : List Token) → goes_on b ts ≡ true → suc (length (past ts)) ≡ length ts
goes_past b [] h = absurd (true≢false (sym h))
goes_past b (t ∷ ts) h = refl

says_past : (w : List ℕ) (ts : List Token) → says_next w ts ≡ true → suc (length (past ts)) ≡ length ts
says_past w [] h = absurd (true≢false (sym h))
says_past w (t ∷ ts) h = refl

past_fewer : (ts : List Token) → length (past ts) ≤ length ts
past_fewer [] = omega arith
past_fewer (t ∷ ts) = omega arith

module _ {A : Type 0} where
  closes_leaves : (b : ℕ) (a : A) (us : List Token) → Leaves (suc (length us)) (before_mark b a us)
  unfolding before_mark
  closes_leaves b a us =
      either_leaves (suc (length us)) (goes_on b us) (got a (past us)) wrong
      (λ h. let p = past_fewer us in omega arith) (λ h. tt)

  name_leaves : (f : Name → A) (ts : List Token) → Leaves (length ts) (name_next f ts)
  unfolding name_next
  name_leaves f [] = tt
  name_leaves f (word w ∷ ts) =
      either_leaves (suc (length ts)) (is_reserved w) wrong (got (f w) ts) (λ h. tt) (λ h. omega arith)
  name_leaves f (mark b ∷ ts) = tt
  name_leaves f (bad ∷ ts) = tt

word_leaves : (ts : List Token) → Leaves (length ts) (test_word ts)
unfolding test_word
word_leaves ts =
    either_leaves (length ts) (says_next (text "true") ts) _ _ (λ h. let p = says_past (text "true") ts h in omega arith)
    (λ n.
    either_leaves (length ts) (says_next (text "false") ts) _ _ (λ h. let p = says_past (text "false") ts h in omega arith)
    (λ m. name_leaves test_name ts))

-- with the bound n a reader hands on fewer tokens than it got, and with a bound of rank c and 8 for each token one more changes nothing
module _ {A : Type 0} where
  abbrev Settled : ℕ → (ℕ → ℕ → List Token → Found A) → ℕ → Type 0
  Settled c R n =
      (d : ℕ) (ts : List Token) → Leaves (length ts) (R n d ts) × (c + 8 * length ts ≤ n → R (suc n) d ts ≡ R n d ts)

  -- the same for a reader that goes on after a value, and may read nothing
  abbrev SettledMore : (ℕ → ℕ → A → List Token → Found A) → ℕ → Type 0
  SettledMore R n =
      (d : ℕ) (a : A) (ts : List Token) → Leaves (suc (length ts)) (R n d a ts) × (1 + 8 * length ts ≤ n → R (suc n) d a ts ≡ R n d a ts)

  -- an operand and what goes on after it
  module _ (whole operand : ℕ → ℕ → List Token → Found A) (more : ℕ → ℕ → A → List Token → Found A)
      (first : (n d : ℕ) (ts : List Token) → whole (suc n) d ts ≡ and_then (operand n d ts) (λ a us. more n d a us)) where
    whole_settled : (c n : ℕ) → Settled c operand n → SettledMore more n → Settled (suc c) whole (suc n)
    whole_settled c n o m d ts = (
      subst (Leaves (length ts)) (sym (first n d ts)) (then_leaves (length ts) (operand n d ts) (more n d) (o d ts).0 (λ a us. (m d a us).0)),
      (λ h.
          first (suc n) d ts
          ∙ then_same (length ts) (operand (suc n) d ts) (operand n d ts) (more (suc n) d) (more n d) ((o d ts).1 (omega arith)) (o d ts).0
          (λ a us k. (m d a us).1 (omega arith))
          ∙ sym (first n d ts)),
    )

  -- a mark between operands
  module _ (operand : ℕ → ℕ → List Token → Found A) (more : ℕ → ℕ → A → List Token → Found A) (join : A → A → A) (sign : ℕ)
      (step : (n d : ℕ) (a : A) (ts : List Token) → more (suc n) d a ts
      ≡ elim (goes_on sign ts) [ true ↦ and_then (operand n d (past ts)) (λ b us. more n d (join a b) us) | false ↦ got a ts ]) where
    more_settled : (c n : ℕ) → c ≤ 8 → Settled c operand n → SettledMore more n → SettledMore more (suc n)
    more_settled c n b o m d a ts = (
      subst (Leaves (suc (length ts))) (sym (step n d a ts))
          (either_leaves (suc (length ts)) (goes_on sign ts) (and_then (operand n d (past ts)) (λ b us. more n d (join a b) us)) (got a ts)
          (λ h.
          let p = past_fewer ts in
          leaves_more (length (past ts)) (suc (length ts)) (and_then (operand n d (past ts)) (λ b us. more n d (join a b) us)) (omega arith)
          (then_leaves (length (past ts)) (operand n d (past ts)) (λ b us. more n d (join a b) us) (o d (past ts)).0
          (λ b us. (m d (join a b) us).0)))
          (λ h. omega arith)),
      (λ h.
          step (suc n) d a ts
          ∙ either_same (goes_on sign ts) (and_then (operand (suc n) d (past ts)) (λ b us. more (suc n) d (join a b) us))
          (and_then (operand n d (past ts)) (λ b us. more n d (join a b) us)) (got a ts) (got a ts)
          (λ g.
          let p = goes_past sign ts g in
          then_same (length (past ts)) (operand (suc n) d (past ts)) (operand n d (past ts)) (λ b us. more (suc n) d (join a b) us)
          (λ b us. more n d (join a b) us) ((o d (past ts)).1 (omega arith)) (o d (past ts)).0
          (λ b us k. (m d (join a b) us).1 (omega arith)))
          (λ g. refl)
          ∙ sym (step n d a ts)),
    )

  -- round brackets, or something else
  module _ (outer inner plain : ℕ → ℕ → List Token → Found A)
      (step : (n d : ℕ) (ts : List Token) → outer (suc n) d ts
      ≡ elim (goes_on (byte "(") ts) [
        | true ↦ elim (eqb d 32) [ true ↦ deep | false ↦ and_then (inner n (suc d) (past ts)) (λ a us. before_mark (byte ")") a us) ]
        | false ↦ plain n d ts
      ]) where
    abbrev inside : ℕ → ℕ → List Token → Found A
    inside n d ts = elim (eqb d 32) [ true ↦ deep | false ↦ and_then (inner n (suc d) (past ts)) (λ a us. before_mark (byte ")") a us) ]

    outer_settled : (c n : ℕ) → c ≤ 8 → Settled c inner n → Settled 0 plain n → Settled 1 outer (suc n)
    outer_settled c n b i o d ts = (
      subst (Leaves (length ts)) (sym (step n d ts))
          (either_leaves (length ts) (goes_on (byte "(") ts) (inside n d ts) (plain n d ts)
          (λ g.
          let p = goes_past (byte "(") ts g in
          either_leaves (length ts) (eqb d 32) deep (and_then (inner n (suc d) (past ts)) (λ a us. before_mark (byte ")") a us)) (λ h. tt)
          (λ h.
          leaves_more (length (past ts)) (length ts) (and_then (inner n (suc d) (past ts)) (λ a us. before_mark (byte ")") a us)) (omega arith)
          (then_leaves (length (past ts)) (inner n (suc d) (past ts)) (λ a us. before_mark (byte ")") a us) (i (suc d) (past ts)).0
          (λ a us. closes_leaves (byte ")") a us))))
          (λ g. (o d ts).0)),
      (λ h.
          step (suc n) d ts
          ∙ either_same (goes_on (byte "(") ts) (inside (suc n) d ts) (inside n d ts) (plain (suc n) d ts) (plain n d ts)
          (λ g.
          let p = goes_past (byte "(") ts g in
          either_same (eqb d 32) deep deep (and_then (inner (suc n) (suc d) (past ts)) (λ a us. before_mark (byte ")") a us))
          (and_then (inner n (suc d) (past ts)) (λ a us. before_mark (byte ")") a us)) (λ k. refl)
          (λ k. ap (λ x. and_then x (λ a us. before_mark (byte ")") a us)) ((i (suc d) (past ts)).1 (omega arith))))
          (λ g. (o d ts).1 (omega arith))
          ∙ sym (step n d ts)),
    )

-- prefix `!`
not_settled : (n : ℕ) → Settled 2 test_not n → Settled 1 test_basic n → Settled 2 test_not (suc n)
unfolding test_not
not_settled n o b d ts = (
  either_leaves (length ts) (goes_on (byte "!") ts) (and_then (test_not n d (past ts)) (λ t us. got (not t) us)) (test_basic n d ts)
      (λ g.
      let p = goes_past (byte "!") ts g in
      leaves_more (length (past ts)) (length ts) (and_then (test_not n d (past ts)) (λ t us. got (not t) us)) (omega arith)
      (then_leaves (length (past ts)) (test_not n d (past ts)) (λ t us. got (not t) us) (o d (past ts)).0 (λ t us. omega arith)))
      (λ g. (b d ts).0),
  (λ h.
      either_same (goes_on (byte "!") ts) (and_then (test_not (suc n) d (past ts)) (λ t us. got (not t) us))
      (and_then (test_not n d (past ts)) (λ t us. got (not t) us)) (test_basic (suc n) d ts) (test_basic n d ts)
      (λ g.
      let p = goes_past (byte "!") ts g in
      ap (λ x. and_then x (λ t us. got (not t) us)) ((o d (past ts)).1 (omega arith)))
      (λ g. (b d ts).1 (omega arith))),
)

-- all readers of T
record TestsSettled (n : ℕ) : Type 0 where
  unions : Settled 4 test_union n
  unions_more : SettledMore test_union_more n
  meets : Settled 3 test_meet n
  meets_more : SettledMore test_meet_more n
  nots : Settled 2 test_not n
  basics : Settled 1 test_basic n

tests_settled : (n : ℕ) → TestsSettled n
unfolding test_union test_union_more test_meet test_meet_more test_not test_basic
tests_settled zero =
    record {
      unions = λ d ts. (tt, (λ h. absurd (omega arith)));
      unions_more = λ d a ts. (tt, (λ h. absurd (omega arith)));
      meets = λ d ts. (tt, (λ h. absurd (omega arith)));
      meets_more = λ d a ts. (tt, (λ h. absurd (omega arith)));
      nots = λ d ts. (tt, (λ h. absurd (omega arith)));
      basics = λ d ts. (tt, (λ h. absurd (omega arith)));
    }
tests_settled (suc n) =
    let k : TestsSettled n = tests_settled n in
    record {
      unions = whole_settled test_union test_meet test_union_more (λ n d ts. refl) 3 n k.meets k.unions_more;
      unions_more = more_settled test_meet test_union_more either (byte "|") (λ n d a ts. refl) 3 n (omega arith) k.meets k.unions_more;
      meets = whole_settled test_meet test_not test_meet_more (λ n d ts. refl) 2 n k.nots k.meets_more;
      meets_more = more_settled test_not test_meet_more both (byte "&") (λ n d a ts. refl) 2 n (omega arith) k.nots k.meets_more;
      nots = not_settled n k.nots k.basics;
      basics = outer_settled test_basic test_union (λ n d ts. test_word ts) (λ n d ts. refl) 4 n (omega arith) k.unions
          (λ d ts. (word_leaves ts, (λ h. refl)));
    }

-- postfix `*`, `+` and `?`
postfix_settled : (n : ℕ) → SettledMore postfix_more n → SettledMore postfix_more (suc n)
unfolding postfix_more
postfix_settled n m d e ts = (
  either_leaves (suc (length ts)) (goes_on (byte "*") ts) (postfix_more n d (star e) (past ts)) _ (λ g. on (star e))
      (λ g.
      either_leaves (suc (length ts)) (goes_on (byte "+") ts) (postfix_more n d (plus e) (past ts)) _ (λ g. on (plus e))
      (λ g.
      either_leaves (suc (length ts)) (goes_on (byte "?") ts) (postfix_more n d (opt e) (past ts)) (got e ts) (λ g. on (opt e))
      (λ g. omega arith))),
  (λ h.
      either_same (goes_on (byte "*") ts) (postfix_more (suc n) d (star e) (past ts)) (postfix_more n d (star e) (past ts)) _ _
      (λ g. let p = goes_past (byte "*") ts g in (m d (star e) (past ts)).1 (omega arith))
      (λ g.
      either_same (goes_on (byte "+") ts) (postfix_more (suc n) d (plus e) (past ts)) (postfix_more n d (plus e) (past ts)) _ _
      (λ g. let p = goes_past (byte "+") ts g in (m d (plus e) (past ts)).1 (omega arith))
      (λ g.
      either_same (goes_on (byte "?") ts) (postfix_more (suc n) d (opt e) (past ts)) (postfix_more n d (opt e) (past ts)) (got e ts) (got e ts)
      (λ g. let p = goes_past (byte "?") ts g in (m d (opt e) (past ts)).1 (omega arith))
      (λ g. refl)))),
)
  where
    on : (f : Tree) → Leaves (suc (length ts)) (postfix_more n d f (past ts))
    on f =
        let p = past_fewer ts in
        leaves_more (suc (length (past ts))) (suc (length ts)) (postfix_more n d f (past ts)) (omega arith) (m d f (past ts)).0

-- a test in square brackets, or a name
abbrev factor : ℕ → ℕ → List Token → Found Tree
factor n d ts =
    elim (goes_on (byte "[") ts) [
      | true ↦ and_then (test_union n d (past ts)) (λ t us. before_mark (byte "]") (tested t) us)
      | false ↦ name_next name ts
    ]

factor_settled : (n : ℕ) → Settled 4 test_union n → Settled 0 factor n
factor_settled n u d ts = (
  either_leaves (length ts) (goes_on (byte "[") ts) (and_then (test_union n d (past ts)) (λ t us. before_mark (byte "]") (tested t) us)) (name_next name ts)
      (λ g.
      let p = goes_past (byte "[") ts g in
      leaves_more (length (past ts)) (length ts) (and_then (test_union n d (past ts)) (λ t us. before_mark (byte "]") (tested t) us)) (omega arith)
      (then_leaves (length (past ts)) (test_union n d (past ts)) (λ t us. before_mark (byte "]") (tested t) us) (u d (past ts)).0
      (λ t us. closes_leaves (byte "]") (tested t) us)))
      (λ g. name_leaves name ts),
  (λ h.
      either_same (goes_on (byte "[") ts) (and_then (test_union (suc n) d (past ts)) (λ t us. before_mark (byte "]") (tested t) us))
      (and_then (test_union n d (past ts)) (λ t us. before_mark (byte "]") (tested t) us)) (name_next name ts) (name_next name ts)
      (λ g.
      let p = goes_past (byte "[") ts g in
      ap (λ x. and_then x (λ t us. before_mark (byte "]") (tested t) us)) ((u d (past ts)).1 (omega arith)))
      (λ g. refl)),
)

-- all readers of E
record TreesSettled (n : ℕ) : Type 0 where
  unions : Settled 4 union_of n
  unions_more : SettledMore union_more n
  sequences : Settled 3 sequence_of n
  sequences_more : SettledMore sequence_more n
  postfixes : Settled 2 postfix_of n
  postfixes_more : SettledMore postfix_more n
  factors : Settled 1 factor_of n

trees_settled : (n : ℕ) → TreesSettled n
unfolding union_of union_more sequence_of sequence_more postfix_of postfix_more factor_of
trees_settled zero =
    record {
      unions = λ d ts. (tt, (λ h. absurd (omega arith)));
      unions_more = λ d a ts. (tt, (λ h. absurd (omega arith)));
      sequences = λ d ts. (tt, (λ h. absurd (omega arith)));
      sequences_more = λ d a ts. (tt, (λ h. absurd (omega arith)));
      postfixes = λ d ts. (tt, (λ h. absurd (omega arith)));
      postfixes_more = λ d a ts. (tt, (λ h. absurd (omega arith)));
      factors = λ d ts. (tt, (λ h. absurd (omega arith)));
    }
trees_settled (suc n) =
    let k : TreesSettled n = trees_settled n in
    record {
      unions = whole_settled union_of sequence_of union_more (λ n d ts. refl) 3 n k.sequences k.unions_more;
      unions_more = more_settled sequence_of union_more union (byte "|") (λ n d a ts. refl) 3 n (omega arith) k.sequences k.unions_more;
      sequences = whole_settled sequence_of postfix_of sequence_more (λ n d ts. refl) 2 n k.postfixes k.sequences_more;
      sequences_more = more_settled postfix_of sequence_more sequence (byte ";") (λ n d a ts. refl) 2 n (omega arith) k.postfixes k.sequences_more;
      postfixes = whole_settled postfix_of factor_of postfix_more (λ n d ts. refl) 1 n k.factors k.postfixes_more;
      postfixes_more = postfix_settled n k.postfixes_more;
      factors = outer_settled factor_of union_of factor (λ n d ts. refl) 4 n (omega arith) k.unions
          (factor_settled n (tests_settled n).unions);
    }

-- one more changes nothing, so any number more does not
module _ {A : Type 0} (c : ℕ) (R : ℕ → ℕ → List Token → Found A) (settled : (n : ℕ) → Settled c R n) where
  many_more : (j n k d : ℕ) (ts : List Token) → n ≡ j + k → c + 8 * length ts ≤ k → R n d ts ≡ R k d ts
  many_more zero n k d ts e h = let same : n ≡ k = omega arith in ap (λ x. R x d ts) same
  many_more (suc j) n k d ts e h =
      let same : n ≡ suc (j + k) = omega arith in
      ap (λ x. R x d ts) same ∙ (settled (j + k) d ts).1 (omega arith) ∙ many_more j (j + k) k d ts refl h

  depth_enough : (n k d : ℕ) (ts : List Token) → c + 8 * length ts ≤ k → k ≤ n → R n d ts ≡ R k d ts
  depth_enough n k d ts h g = many_more (n - k) n k d ts (omega arith) h

-- a line is read with the rank of a union and 8 for each token
enough_ranks : (ts : List Token) → 4 + 8 * length ts ≤ enough ts
unfolding enough
enough_ranks ts = omega arith

-- a greater depth than the one with which a line is read finds the same E
pub union_depth : (n d : ℕ) (ts : List Token) → enough ts ≤ n → union_of n d ts ≡ union_of (enough ts) d ts
union_depth n d ts h = depth_enough 4 union_of (λ m. (trees_settled m).unions) n (enough ts) d ts (enough_ranks ts) h

-- and the same T
pub test_depth : (n d : ℕ) (ts : List Token) → enough ts ≤ n → test_union n d ts ≡ test_union (enough ts) d ts
test_depth n d ts h = depth_enough 4 test_union (λ m. (tests_settled m).unions) n (enough ts) d ts (enough_ranks ts) h
