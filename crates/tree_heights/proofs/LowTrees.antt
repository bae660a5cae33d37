-- An expression read with d brackets open is low: a factor has at most 2 * (32 - d) + 1 relations at once, a sequence one more and a union
-- two more. The idea: a chain groups to the left, so its height is that of its highest operand and at most one more, however long it is; a
-- bracket turns a union into a factor and takes one of the 32. All seven readers of E together, by induction on the bound on the depth of
-- calls; the chains once for both.
-- Assumes nothing.
use Prim.Native.Nat.{ℕ, zero, suc, ◌+◌, ◌*◌, ◌-◌, ◌≤◌}
use native.Mathlib.Omega.{arith}
use mathlib.Core.Path.{◌≡◌, refl, sym, subst}
use mathlib.Core.Bool.{Bool, true, false}
use mathlib.Core.List.{List, [], ◌∷◌}
use lib.Dec.{eqb}
use borrow.Author.Tests.{eqb-false}
use Rattle.claims.specs.Bytes.{byte}
use Rattle.claims.specs.Tokens.{Token, word, mark, bad, is_reserved}
use Rattle.claims.specs.Tree.{TestTree, Tree, name, tested, union, sequence, star, plus, opt}
use Rattle.claims.specs.Grammar.{Found, got, wrong, deep, and_then, goes_on, past, before_mark, name_next, test_union, union_of, union_more, sequence_of, sequence_more, postfix_of, postfix_more, factor_of}
use Rattle.tree_heights.specs.Heights.{height}

-- a tree that was found is at most m high
abbrev pub Low : ℕ → Found Tree → Type 0
Low m (got e us) = height e ≤ m
Low m wrong = Unit {0}
Low m deep = Unit {0}

-- one of two readers, by a test
either_low : (m : ℕ) (c : Bool) (x y : Found Tree) → (c ≡ true → Low m x) → (c ≡ false → Low m y)
    → Low m (elim c [ true ↦ x | false ↦ y ])
either_low m true x y f g = f refl
either_low m false x y f g = g refl

-- the second reader goes on with the tree of the first
then_low : (m p : ℕ) (x : Found Tree) (k : Tree → List Token → Found Tree) → Low m x
    → ((e : Tree) (us : List Token) → height e ≤ m → Low p (k e us)) → Low p (and_then x k)
then_low m p (got e us) k h f = f e us h
then_low m p wrong k h f = tt
then_low m p deep k h f = tt

-- after a test any tree of height 1
after_test : (m : ℕ) (x : Found TestTree) (k : TestTree → List Token → Found Tree)
    → ((t : TestTree) (us : List Token) → Low m (k t us)) → Low m (and_then x k)
after_test m (got t us) k f = f t us
after_test m wrong k f = tt
after_test m deep k f = tt

closes_low : (m b : ℕ) (e : Tree) (us : List Token) → height e ≤ m → Low m (before_mark b e us)
unfolding before_mark
closes_low m b e us h = either_low m (goes_on b us) (got e (past us)) wrong (λ g. h) (λ g. tt)

name_low : (m : ℕ) (ts : List Token) → Low (1 + m) (name_next name ts)
unfolding name_next height
name_low m [] = tt
name_low m (word w ∷ ts) = either_low (1 + m) (is_reserved w) wrong (got (name w) ts) (λ h. tt) (λ h. omega arith)
name_low m (mark b ∷ ts) = tt
name_low m (bad ∷ ts) = tt

-- the height with d brackets open, where c is the height inside all 32
abbrev pub bound : ℕ → ℕ → ℕ
bound c d = c + 2 * (32 - d)

-- with the bound n a reader finds a low tree
abbrev LowBy : ℕ → (ℕ → ℕ → List Token → Found Tree) → ℕ → Type 0
LowBy c R n = (d : ℕ) (ts : List Token) → d ≤ 32 → Low (bound c d) (R n d ts)

-- the same for a reader that goes on after a low tree
abbrev LowMore : ℕ → (ℕ → ℕ → Tree → List Token → Found Tree) → ℕ → Type 0
LowMore c R n = (d : ℕ) (e : Tree) (ts : List Token) → d ≤ 32 → height e ≤ bound c d → Low (bound c d) (R n d e ts)

-- an operand and what goes on after it: the first operand is no higher than the chain
module _ (whole operand : ℕ → ℕ → List Token → Found Tree) (more : ℕ → ℕ → Tree → List Token → Found Tree)
    (first : (n d : ℕ) (ts : List Token) → whole (suc n) d ts ≡ and_then (operand n d ts) (λ e us. more n d e us)) where
  whole_low : (b c n : ℕ) → b ≤ c → LowBy b operand n → LowMore c more n → LowBy c whole (suc n)
  whole_low b c n h o m d ts k =
      subst (Low (bound c d)) (sym (first n d ts))
      (then_low (bound b d) (bound c d) (operand n d ts) (more n d) (o d ts k) (λ e us l. m d e us k (omega arith)))

-- a mark between operands: each further operand is one lower than the chain
module _ (operand : ℕ → ℕ → List Token → Found Tree) (more : ℕ → ℕ → Tree → List Token → Found Tree) (join : Tree → Tree → Tree)
    (sign : ℕ)
    (step : (n d : ℕ) (e : Tree) (ts : List Token) → more (suc n) d e ts
    ≡ elim (goes_on sign ts) [ true ↦ and_then (operand n d (past ts)) (λ f us. more n d (join e f) us) | false ↦ got e ts ])
    (joined : (m : ℕ) (e f : Tree) → height e ≤ m → suc (height f) ≤ m → height (join e f) ≤ m) where
  more_low : (b n : ℕ) → LowBy b operand n → LowMore (suc b) more n → LowMore (suc b) more (suc n)
  more_low b n o m d e ts k h =
      subst (Low (bound (suc b) d)) (sym (step n d e ts))
      (either_low (bound (suc b) d) (goes_on sign ts) (and_then (operand n d (past ts)) (λ f us. more n d (join e f) us)) (got e ts)
      (λ g.
      then_low (bound b d) (bound (suc b) d) (operand n d (past ts)) (λ f us. more n d (join e f) us) (o d (past ts) k)
      (λ f us l. m d (join e f) us k (joined (bound (suc b) d) e f h (omega arith))))
      (λ g. h))

union_low : (m : ℕ) (e f : Tree) → height e ≤ m → suc (height f) ≤ m → height (union e f) ≤ m
unfolding height
union_low m e f h k = omega arith

sequence_low : (m : ℕ) (e f : Tree) → height e ≤ m → suc (height f) ≤ m → height (sequence e f) ≤ m
unfolding height
sequence_low m e f h k = omega arith

-- postfix `*`, `+` and `?` change no height
postfix_low : (n : ℕ) → LowMore 1 postfix_more n → LowMore 1 postfix_more (suc n)
unfolding postfix_more height
postfix_low n m d e ts k h =
    either_low (bound 1 d) (goes_on (byte "*") ts) (postfix_more n d (star e) (past ts)) _ (λ g. m d (star e) (past ts) k h)
    (λ g.
    either_low (bound 1 d) (goes_on (byte "+") ts) (postfix_more n d (plus e) (past ts)) _ (λ g. m d (plus e) (past ts) k h)
    (λ g.
    either_low (bound 1 d) (goes_on (byte "?") ts) (postfix_more n d (opt e) (past ts)) (got e ts) (λ g. m d (opt e) (past ts) k h)
    (λ g. h)))

-- a union in round brackets, a test or a name
factor_low : (n : ℕ) → LowBy 3 union_of n → LowBy 1 factor_of (suc n)
unfolding factor_of height
factor_low n u d ts k =
    either_low (bound 1 d) (goes_on (byte "(") ts) _ _
    (λ g.
    either_low (bound 1 d) (eqb d 32) deep (and_then (union_of n (suc d) (past ts)) (λ e us. before_mark (byte ")") e us)) (λ h. tt)
    (λ h.
    let room : d ≡ 32 → ⊥ = eqb-false d 32 h in
    then_low (bound 3 (suc d)) (bound 1 d) (union_of n (suc d) (past ts)) (λ e us. before_mark (byte ")") e us)
    (u (suc d) (past ts) (omega (arith, room)))
    (λ e us l. closes_low (bound 1 d) (byte ")") e us (omega (arith, room)))))
    (λ g.
    either_low (bound 1 d) (goes_on (byte "[") ts) _ (name_next name ts)
    (λ h.
    after_test (bound 1 d) (test_union n d (past ts)) (λ t us. before_mark (byte "]") (tested t) us)
    (λ t us. closes_low (bound 1 d) (byte "]") (tested t) us (omega arith)))
    (λ h. name_low (2 * (32 - d)) ts))

-- all readers of E
record TreesLow (n : ℕ) : Type 0 where
  unions : LowBy 3 union_of n
  unions_more : LowMore 3 union_more n
  sequences : LowBy 2 sequence_of n
  sequences_more : LowMore 2 sequence_more n
  postfixes : LowBy 1 postfix_of n
  postfixes_more : LowMore 1 postfix_more n
  factors : LowBy 1 factor_of n

trees_low : (n : ℕ) → TreesLow n
unfolding union_of union_more sequence_of sequence_more postfix_of postfix_more factor_of
trees_low zero =
    record {
      unions = λ d ts k. tt;
      unions_more = λ d e ts k h. tt;
      sequences = λ d ts k. tt;
      sequences_more = λ d e ts k h. tt;
      postfixes = λ d ts k. tt;
      postfixes_more = λ d e ts k h. tt;
      factors = λ d ts k. tt;
    }
trees_low (suc n) =
    let k : TreesLow n = trees_low n in
    record {
      unions = whole_low union_of sequence_of union_more (λ n d ts. refl) 2 3 n (omega arith) k.sequences k.unions_more;
      unions_more = more_low sequence_of union_more union (byte "|") (λ n d e ts. refl) union_low 2 n k.sequences k.unions_more;
      sequences = whole_low sequence_of postfix_of sequence_more (λ n d ts. refl) 1 2 n (omega arith) k.postfixes k.sequences_more;
      sequences_more = more_low postfix_of sequence_more sequence (byte ";") (λ n d e ts. refl) sequence_low 1 n k.postfixes k.sequences_more;
      postfixes = whole_low postfix_of factor_of postfix_more (λ n d ts. refl) 1 1 n (omega arith) k.factors k.postfixes_more;
      postfixes_more = postfix_low n k.postfixes_more;
      factors = factor_low n k.unions;
    }

-- an E read with d brackets open
pub union_is_low : (n d : ℕ) (ts : List Token) → d ≤ 32 → Low (bound 3 d) (union_of n d ts)
union_is_low n = (trees_low n).unions
