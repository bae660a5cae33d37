-- What a code needs, a law for each way that it is found; and the walk over the codes of a query that finds it at each place, where the
-- starts of no more than 32 lets are kept, which are all that can be asked for.
-- Assumes nothing.
use Prim.Native.Nat.{ℕ, suc, ◌+◌, ◌-◌, ◌≤◌, ◌<◌}
use native.Mathlib.Numerals.{add-one}
use native.Mathlib.Omega.{arith}
use mathlib.Core.Path.{◌≡◌, refl, sym, ◌∙◌, ap, ap₂}
use mathlib.Core.Logic.{⊎_elim}
use mathlib.Core.Bool.{Bool, true, false, cond, ◌&&◌, ◌||◌}
use mathlib.Core.List.{List, [], ◌∷◌, ◌++◌, append-nil}
use lib.Dec.{eqb, leb, ltb}
use lib.ListN.{length, get_or, set, take, drop, replicate, length-append, length-set, get_or-append, get_or-eq_default, get_or-replicate, drop_of_length-le}
use lib.Seq.{slice, slice_empty, take-suc, take-suc-set, take_all, drop-cons, drop-append-le, append_snoc, length-take-le, get_or-set_same, get_or-set_other, get_or_at}
use borrow.Author.Tests.{eqb-true, eqb-false, ltb-true, ltb-false, leb-true, ne_eqb, le-leb, lt-leb, lt-ltb, le-ltb}
use Rattle.kat.proofs.Bools.{lt_or_le, and_left, and_right}
use Rattle.side_atoms.specs.Tests.{test_set}
use Rattle.codes.specs.Lets.{kept}
use Rattle.side_items.specs.Items.{Scan, of_test, arg_of, scanned, args_from, unscanned, args_of}
use Rattle.side_items.specs.inner.Blank.{Blank}
use Rattle.side_items.proofs.Room.{blank_none, blank_more}

module _ (s : Scan) (k : ℕ) where
  pub arg_bracket : k ≡ 6 → arg_of s k ≡ test_set s.pending
  unfolding arg_of
  arg_bracket e = rw e refl

  pub arg_never : k ≡ 131 → arg_of s k ≡ test_set s.pending
  unfolding arg_of
  arg_never e = rw e refl

  pub arg_low : (k ≡ 6 → ⊥) → k < 64 → arg_of s k ≡ 0
  unfolding arg_of
  arg_low a h = rw (ne_eqb k 6 a, ne_eqb k 131 (λ e. omega arith), lt-leb 64 k h) refl

  pub arg_let : 64 ≤ k → k < 96 → arg_of s k ≡ get_or s.starts (k - 64) 0
  unfolding arg_of
  arg_let h l = rw (ne_eqb k 6 (λ e. omega arith), ne_eqb k 131 (λ e. omega arith), le-leb 64 k h, lt-ltb k 96 l) refl

  pub arg_high : (k ≡ 131 → ⊥) → 96 ≤ k → arg_of s k ≡ 0
  unfolding arg_of
  arg_high a h = rw (ne_eqb k 6 (λ e. omega arith), ne_eqb k 131 a, le-leb 64 k (omega arith), le-ltb k 96 h) refl

-- what a code needs is found from the codes of the T before it and the starts of 32 lets
arg_same : (s t : Scan) (k : ℕ) → s.pending ≡ t.pending → ((j : ℕ) → j < 32 → get_or s.starts j 0 ≡ get_or t.starts j 0)
    → arg_of s k ≡ arg_of t k
unfolding arg_of
arg_same s t k e h =
    ap₂ (cond (eqb k 6 || eqb k 131)) (ap test_set e) (go (leb 64 k && ltb k 96) refl)
  where
    go : (b : Bool) → (leb 64 k && ltb k 96) ≡ b → cond b (get_or s.starts (k - 64) 0) 0 ≡ cond b (get_or t.starts (k - 64) 0) 0
    go true f =
        let l : 64 ≤ k = leb-true 64 k (and_left (leb 64 k) (ltb k 96) f) in
        let u : k < 96 = ltb-true k 96 (and_right (leb 64 k) (ltb k 96) f) in
        h (k - 64) (omega arith)
    go false f = refl

module _ (ls ms : List ℕ) (h : (j : ℕ) → j < 32 → get_or ls j 0 ≡ get_or ms j 0) where
  -- a start more changes nothing at other places
  beside : (y j : ℕ) → (j ≡ length ms → ⊥) → j < 32 → get_or ls j 0 ≡ get_or (ms ++ (y ∷ [])) j 0
  beside y j n l = ⊎_elim below above (lt_or_le j (length ms))
    where
      below : j < length ms → get_or ls j 0 ≡ get_or (ms ++ (y ∷ [])) j 0
      below b = h j l ∙ sym (get_or-append ms (y ∷ []) 0 j b)

      above : length ms ≤ j → get_or ls j 0 ≡ get_or (ms ++ (y ∷ [])) j 0
      above b =
          let z : length (ms ++ (y ∷ [])) ≤ j = omega (arith, length-append ms (y ∷ []), n) in
          h j l ∙ get_or-eq_default ms 0 b ∙ sym (get_or-eq_default (ms ++ (y ∷ [])) 0 z)

  start_kept : (y : ℕ) → length ls ≡ 32 → (j : ℕ) → j < 32 → get_or (set ls (length ms) y) j 0 ≡ get_or (ms ++ (y ∷ [])) j 0
  start_kept y z j l = go (eqb j (length ms)) refl
    where
      go : (b : Bool) → eqb j (length ms) ≡ b → get_or (set ls (length ms) y) j 0 ≡ get_or (ms ++ (y ∷ [])) j 0
      go true f =
          let g : j ≡ length ms = eqb-true j (length ms) f in
          rw g (get_or-set_same ls (length ms) y 0 (omega arith) ∙ sym (get_or_at ms y [] 0 (length ms) refl))
      go false f = get_or-set_other ls (length ms) j y 0 (eqb-false j (length ms) f) ∙ beside y j (eqb-false j (length ms) f) l

  starts_kept : (k y : ℕ) → length ls ≡ 32
      → (j : ℕ) → j < 32 → get_or (kept ls k (length ms) y) j 0 ≡ get_or (cond (eqb k 130) (ms ++ (y ∷ [])) ms) j 0
  unfolding kept
  starts_kept k y z j l = go (eqb k 130) (ltb (length ms) 32) refl
    where
      go : (b c : Bool) → ltb (length ms) 32 ≡ c
          → get_or (cond b (cond c (set ls (length ms) y) ls) ls) j 0 ≡ get_or (cond b (ms ++ (y ∷ [])) ms) j 0
      go true true f = start_kept y z j l
      go true false f = beside y j (λ e. omega (arith, ltb-false (length ms) 32 f)) l
      go false c f = h j l

kept_size : (ls : List ℕ) (k n x : ℕ) → length (kept ls k n x) ≡ length ls
unfolding kept
kept_size ls k n x = go (eqb k 130) (ltb n 32)
  where
    go : (b c : Bool) → length (cond b (cond c (set ls n x) ls) ls) ≡ length ls
    go true true = length-set ls n x
    go true false = refl
    go false c = refl

lets_more : (b : Bool) (ms : List ℕ) (y : ℕ) → length ms + cond b 1 0 ≡ length (cond b (ms ++ (y ∷ [])) ms)
lets_more true ms y = sym (length-append ms (y ∷ []))
lets_more false ms y = omega arith

-- the codes from a place on, with one more
slice_more : (from i : ℕ) (ks : List ℕ) → from ≤ i → i < length ks → slice from i ks ++ (get_or ks i 0 ∷ []) ≡ slice from (i + 1) ks
slice_more from i ks h l =
    sym (drop-append-le from (take i ks) (get_or ks i 0 ∷ []) (omega (arith, length-take-le i ks (omega arith))))
    ∙ ap (drop from) (sym (take-suc ks i 0 l) ∙ ap (λ j. take j ks) (sym (add-one i)))

pending_more : (b : Bool) (from i k : ℕ) (ks : List ℕ) → from ≤ i → i < length ks → k ≡ get_or ks i 0
    → cond b (slice from i ks ++ (k ∷ [])) [] ≡ slice (cond b from (i + 1)) (i + 1) ks
pending_more true from i k ks h l e = ap (λ x. slice from i ks ++ (x ∷ [])) e ∙ slice_more from i ks h l
pending_more false from i k ks h l e = sym (slice_empty (i + 1) ks)

-- what is in memory after the first i codes, beside what was met up to there
pub record Follows (ks args starts : List ℕ) (i line from n : ℕ) : Type 0 where
  pub scan : Scan
  pub at : scan.at ≡ i
  pub start : scan.line ≡ line
  pub behind : from ≤ i
  pub before : scan.pending ≡ slice from i ks
  pub few : n ≤ i
  pub lets : n ≡ length scan.starts
  pub size : length starts ≡ 32
  pub known : (j : ℕ) → j < 32 → get_or starts j 0 ≡ get_or scan.starts j 0
  pub blank : Blank args from i
  pub done : take i args ++ args_from scan (drop i ks) ≡ args_of ks

-- before the first code
pub follows_start : (ks args : List ℕ) → Follows ks args (replicate 32 0) 0 0 0 0
unfolding args_of unscanned
follows_start ks args =
    record {
      scan = unscanned;
      at = refl;
      start = refl;
      behind = omega arith;
      before = refl;
      few = omega arith;
      lets = refl;
      size = refl;
      known = λ j l. get_or-replicate 32 j 0 0 l;
      blank = blank_none args 0;
      done = refl;
    }

args_more : (s : Scan) (ks args : List ℕ) (i k x : ℕ) → k ≡ get_or ks i 0 → x ≡ arg_of s k → i < length ks → i < length args
    → take (i + 1) (set args i x) ++ args_from (scanned s k) (drop (i + 1) ks) ≡ take i args ++ args_from s (drop i ks)
unfolding args_from
args_more s ks args i k x e g h l =
    rw (add-one i, take-suc-set args i x l, drop-cons ks i 0 h, ← e, args_from, ← g)
    (append_snoc (take i args) x (args_from (scanned s k) (drop (suc i) ks)))

choice_bound : (b : Bool) (m n k : ℕ) → m ≤ k → n ≤ k → cond b m n ≤ k
choice_bound true m n k h i = h
choice_bound false m n k h i = i

-- one code more
pub follows_on : (ks args args' starts starts' : List ℕ) (i line line' from from' n n' k x : ℕ) → Follows ks args starts i line from n
    → args' ≡ args → k ≡ get_or ks i 0 → x ≡ arg_of (record { at = 0; line = 0; pending = slice from i ks; starts = starts }) k
    → starts' ≡ kept starts k n line → line' ≡ cond (leb 128 k) (i + 1) line → from' ≡ cond (of_test k) from (i + 1)
    → n' ≡ n + cond (eqb k 130) 1 0 → i < length ks → i < length args → Follows ks (set args' i x) starts' (i + 1) line' from' n'
unfolding scanned
follows_on ks args args' starts starts' i line line' from from' n n' k x f a e g o p q r h l =
    let s = f.scan in
    let b = f.behind in
    rw (a, o, p, q, r)
    (record {
      scan = scanned s k;
      at = ap (λ a. a + 1) f.at;
      start = ap₂ (cond (leb 128 k)) (ap (λ a. a + 1) f.at) f.start;
      behind = choice_bound (of_test k) from (i + 1) (i + 1) (omega arith) (omega arith);
      before = ap (λ w. cond (of_test k) (w ++ (k ∷ [])) []) f.before ∙ pending_more (of_test k) from i k ks b h e;
      few = omega (arith, f.few, choice_bound (eqb k 130) 1 0 1 (omega arith) (omega arith));
      lets = ap (λ a. a + cond (eqb k 130) 1 0) f.lets ∙ lets_more (eqb k 130) s.starts s.line;
      size = kept_size starts k n line ∙ f.size;
      known = λ j z. rw (f.lets, ← f.start) (starts_kept starts s.starts f.known k s.line f.size j z);
      blank = blank_more args _ from i k x f.blank l g;
      done = args_more s ks args i k x e (g ∙ arg_same _ s k (sym f.before) f.known) h l ∙ f.done;
    })

-- behind the last code
pub follows_end : (ks args starts : List ℕ) (i line from n : ℕ) → Follows ks args starts i line from n
    → length ks ≤ i → length args ≤ i → args ≡ args_of ks
unfolding args_from
follows_end ks args starts i line from n f h l =
    sym (append-nil args) ∙ rw (take_all i args l, drop_of_length-le ks {i = i} h, args_from) at f.done
