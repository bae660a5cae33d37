-- What each code of a query needs, by the syntax that the codes stand for: over the codes of a T it is nothing, a bracket then needs the
-- set of the T, a let the place where its line starts, and nothing else needs anything. Between expressions no code of a T waits, and the
-- places of the let lines are known.
-- Assumes nothing.
use Prim.Native.Nat.{ℕ, ◌+◌, ◌-◌, ◌≤◌, ◌<◌}
use native.Mathlib.Omega.{arith}
use native.Mathlib.Nat.{add-zero}
use mathlib.Core.Path.{◌≡◌, refl, sym, ◌∙◌, ap, ap₂}
use mathlib.Core.Bool.{Bool, true, false, cond, ◌&&◌, ◌||◌}
use mathlib.Core.List.{List, [], ◌∷◌, ◌++◌, append-nil, append_assoc}
use lib.Dec.{eqb, leb, ltb}
use lib.ListN.{length, get_or, length-append}
use borrow.Author.Tests.{ltb-true, leb-true, le-ltb, le-leb, lt-leb, ne_eqb}
use Rattle.kat.proofs.Bools.{and_left, and_right}
use Rattle.side_atoms.specs.Tests.{test_set}
use Rattle.side_items.specs.Items.{of_test, Scan, arg_of, scanned, args_from, unscanned, args_of, Item, paired, items_of}

-- a code with what it needs
abbrev pub item : ℕ → ℕ → Item
item k x = record { code = k; arg = x }

-- the codes from a scan on, with what they need
unfoldable pub items_from : Scan → List ℕ → List Item
items_from s [] = []
items_from s (k ∷ ks) = item k (arg_of s k) ∷ items_from (scanned s k) ks

-- what was met after further codes
unfoldable pub after : Scan → List ℕ → Scan
after s [] = s
after s (k ∷ ks) = after (scanned s k) ks

paired_from : (s : Scan) (ks : List ℕ) → paired ks (args_from s ks) ≡ items_from s ks
unfolding paired args_from items_from
paired_from s [] = refl
paired_from s (k ∷ ks) = ap (λ is. item k (arg_of s k) ∷ is) (paired_from (scanned s k) ks)

pub items_of_lem : (ks : List ℕ) → items_of ks ≡ items_from unscanned ks
unfolding items_of args_of
items_of_lem ks = paired_from unscanned ks

pub items_append : (s : Scan) (xs ys : List ℕ) → items_from s (xs ++ ys) ≡ items_from s xs ++ items_from (after s xs) ys
unfolding items_from after
items_append s [] ys = refl
items_append s (x ∷ xs) ys = ap (λ is. item x (arg_of s x) ∷ is) (items_append (scanned s x) xs ys)

pub after_append : (s : Scan) (xs ys : List ℕ) → after s (xs ++ ys) ≡ after (after s xs) ys
unfolding after
after_append s [] ys = refl
after_append s (x ∷ xs) ys = after_append (scanned s x) xs ys

pub items_length : (s : Scan) (ks : List ℕ) → length (items_from s ks) ≡ length ks
unfolding items_from
items_length s [] = refl
items_length s (k ∷ ks) = omega (arith, items_length (scanned s k) ks)

-- between expressions: no code of a T waits
abbrev pub resting : ℕ → ℕ → List ℕ → Scan
resting a l ss = record { at = a; line = l; pending = []; starts = ss }

-- a code of a T
module _ (k : ℕ) (h : of_test k ≡ true) where
  pub of_test_small : (k < 32) × ((c : ℕ) → 6 ≤ c → c < 16 → k ≡ c → ⊥)
  unfolding of_test
  of_test_small = go (ltb k 6) refl h
    where
      go : (b : Bool) → ltb k 6 ≡ b → (b || (leb 16 k && ltb k 32)) ≡ true → (k < 32) × ((c : ℕ) → 6 ≤ c → c < 16 → k ≡ c → ⊥)
      go true e f = let l = ltb-true k 6 e in (omega arith, λ c i j z. omega arith)
      go false e f =
          let l = leb-true 16 k (and_left (leb 16 k) (ltb k 32) f) in
          (ltb-true k 32 (and_right (leb 16 k) (ltb k 32) f), λ c i j z. omega arith)

  test_scanned : (s : Scan)
      → scanned s k ≡ record { at = s.at + 1; line = s.line; pending = s.pending ++ (k ∷ []); starts = s.starts }
  unfolding scanned
  test_scanned s =
      let (l, n) = of_test_small in
      rw (scanned, h, lt-leb 128 k (omega arith), ne_eqb k 130 (λ z. omega arith))

  pub test_arg : (s : Scan) → arg_of s k ≡ 0
  unfolding arg_of
  test_arg s =
      let (l, n) = of_test_small in
      rw (arg_of, ne_eqb k 6 (n 6 (omega arith) (omega arith)), ne_eqb k 131 (λ z. omega arith), lt-leb 64 k (omega arith))

-- codes of a T, one after another, and with nothing that they need
abbrev pub Tested : List ℕ → Type 0
Tested [] = Unit {0}
Tested (k ∷ ks) = (of_test k ≡ true) × Tested ks

abbrev pub plain : List ℕ → List Item
plain [] = []
plain (k ∷ ks) = item k 0 ∷ plain ks

pub tested_append : (xs ys : List ℕ) → Tested xs → Tested ys → Tested (xs ++ ys)
tested_append [] ys a b = b
tested_append (x ∷ xs) ys (h, a) b = (h, tested_append xs ys a b)

pub tests_after : (s : Scan) (ks : List ℕ) → Tested ks
    → after s ks ≡ record { at = s.at + length ks; line = s.line; pending = s.pending ++ ks; starts = s.starts }
unfolding after
tests_after s [] t =
    rw (add-zero s.at, append-nil s.pending)
tests_after s (k ∷ ks) (h, t) =
    ap (λ x. after x ks) (test_scanned k h s)
    ∙ tests_after (record { at = s.at + 1; line = s.line; pending = s.pending ++ k ∷ []; starts = s.starts }) ks t
    ∙ ap₂ (λ a p. record { at = a; line = s.line; pending = p; starts = s.starts }) (omega arith) (append_assoc s.pending (k ∷ []) ks)

pub tests_items : (s : Scan) (ks : List ℕ) → Tested ks → items_from s ks ≡ plain ks
unfolding items_from
tests_items s [] t = refl
tests_items s (k ∷ ks) (h, t) = ap₂ (λ x is. item k x ∷ is) (test_arg k h s) (tests_items (scanned s k) ks t)

-- a code that is none of a T
pub not_of_test : (k : ℕ) → 32 ≤ k → of_test k ≡ false
unfolding of_test
not_of_test k h = rw (of_test, le-ltb k 6 (omega arith), le-leb 16 k (omega arith), le-ltb k 32 h)

pub pass_scanned : (s : Scan) (k : ℕ) → k < 128 → of_test k ≡ false → scanned s k ≡ resting (s.at + 1) s.line s.starts
unfolding scanned
pass_scanned s k h n = rw (scanned, n, lt-leb 128 k h, ne_eqb k 130 (λ z. omega arith))

pub end_scanned : (s : Scan) (k : ℕ) → 128 ≤ k → (k ≡ 130 → ⊥) → scanned s k ≡ resting (s.at + 1) (s.at + 1) s.starts
unfolding scanned
end_scanned s k h n = rw (scanned, not_of_test k (omega arith), le-leb 128 k h, ne_eqb k 130 n)

-- what it needs, if it ends no T
pub arg_of_lem : (s : Scan) (k : ℕ) → (k ≡ 6 → ⊥) → (k ≡ 131 → ⊥)
    → arg_of s k ≡ cond (leb 64 k && ltb k 96) (get_or s.starts (k - 64) 0) 0
unfolding arg_of
arg_of_lem s k h n = rw (arg_of, ne_eqb k 6 h, ne_eqb k 131 n)

pub arg_none : (s : Scan) (k : ℕ) → 96 ≤ k → (k ≡ 131 → ⊥) → arg_of s k ≡ 0
arg_none s k h n =
    arg_of_lem s k (λ z. omega arith) n
    ∙ rw (le-leb 64 k (omega arith), le-ltb k 96 h)

-- codes of expressions: they give items, and no code of a T waits after them
pub record Gives (ss ks : List ℕ) (is : List Item) : Type 0 where
  pub rests : (a l : ℕ) → after (resting a l ss) ks ≡ resting (a + length ks) l ss
  pub items : (a l : ℕ) → items_from (resting a l ss) ks ≡ is

module _ (ss : List ℕ) where
  pub gives_none : Gives ss [] []
  unfolding after items_from
  gives_none = record { rests = λ a l. ap (λ x. resting x l ss) (sym (add-zero a)); items = λ a l. refl }

  pub gives_append : (xs ys : List ℕ) (is js : List Item) → Gives ss xs is → Gives ss ys js → Gives ss (xs ++ ys) (is ++ js)
  gives_append xs ys is js g h =
      record {
        rests = λ a l.
            after_append (resting a l ss) xs ys ∙ ap (λ s. after s ys) (g.rests a l) ∙ h.rests (a + length xs) l
            ∙ ap (λ x. resting x l ss) (omega (arith, length-append xs ys));
        items = λ a l.
            items_append (resting a l ss) xs ys
            ∙ ap₂ ◌++◌ (g.items a l) (ap (λ s. items_from s ys) (g.rests a l) ∙ h.items (a + length xs) l);
      }

  pub gives_code : (k x : ℕ) → k < 128 → of_test k ≡ false → ((a l : ℕ) → arg_of (resting a l ss) k ≡ x) → Gives ss (k ∷ []) (item k x ∷ [])
  unfolding after items_from
  gives_code k x h n e =
      record {
        rests = λ a l. pass_scanned (resting a l ss) k h n;
        items = λ a l. ap (λ y. item k y ∷ []) (e a l);
      }

  -- a T and what ends it
  module _ (ks : List ℕ) (t : Tested ks) (a l : ℕ) where
    waiting : after (resting a l ss) ks ≡ record { at = a + length ks; line = l; pending = ks; starts = ss }
    waiting = tests_after (resting a l ss) ks t

    pub set_after : (k : ℕ)
        → after (resting a l ss) (ks ++ (k ∷ [])) ≡ scanned (record { at = a + length ks; line = l; pending = ks; starts = ss }) k
    unfolding after
    set_after k = after_append (resting a l ss) ks (k ∷ []) ∙ ap (λ s. scanned s k) waiting

    pub set_items : (k : ℕ) → (eqb k 6 || eqb k 131) ≡ true
        → items_from (resting a l ss) (ks ++ (k ∷ [])) ≡ plain ks ++ (item k (test_set ks) ∷ [])
    unfolding items_from arg_of
    set_items k h =
        items_append (resting a l ss) ks (k ∷ [])
        ∙ ap₂ (λ is s. is ++ (item k (arg_of s k) ∷ [])) (tests_items (resting a l ss) ks t) waiting
        ∙ ap (λ b. plain ks ++ (item k (cond b (test_set ks) (cond (leb 64 k && ltb k 96) (get_or ss (k - 64) 0) 0)) ∷ [])) h

  pub gives_bracket : (ks : List ℕ) → Tested ks → Gives ss (ks ++ (6 ∷ [])) (plain ks ++ (item 6 (test_set ks) ∷ []))
  unfolding scanned of_test
  gives_bracket ks t =
      record {
        rests = λ a l. set_after ks t a l 6 ∙ ap (λ x. resting x l ss) (omega (arith, length-append ks (6 ∷ [])));
        items = λ a l. set_items ks t a l 6 refl;
      }

  -- an expression and then the end of a line
  module _ (ks : List ℕ) (is : List Item) (g : Gives ss ks is) (a l : ℕ) where
    pub ended_after : (k : ℕ) → after (resting a l ss) (ks ++ (k ∷ [])) ≡ scanned (resting (a + length ks) l ss) k
    unfolding after
    ended_after k = after_append (resting a l ss) ks (k ∷ []) ∙ ap (λ s. scanned s k) (g.rests a l)

    pub ended_items : (k : ℕ) → 96 ≤ k → (k ≡ 131 → ⊥) → items_from (resting a l ss) (ks ++ (k ∷ [])) ≡ is ++ (item k 0 ∷ [])
    unfolding items_from
    ended_items k h n =
        items_append (resting a l ss) ks (k ∷ [])
        ∙ ap₂ (λ js x. js ++ (item k x ∷ [])) (g.items a l)
        (ap (λ s. arg_of s k) (g.rests a l) ∙ arg_none (resting (a + length ks) l ss) k h n)
