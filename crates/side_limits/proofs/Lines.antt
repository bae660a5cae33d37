-- The walk over the lines of a query that was read: after each line it has counted the lets so far, over the whole query's names.
-- Assumes nothing.
use Prim.Native.Nat.{ℕ, ◌+◌, ◌≤◌}
use native.Mathlib.Omega.{arith}
use mathlib.Core.Path.{◌≡◌, refl, sym, ◌∙◌, ap}
use mathlib.Core.Bool.{true}
use mathlib.Core.List.{List, [], ◌∷◌, ◌++◌, map, append-nil, append_assoc, map-append}
use mathlib.Core.Option.{none}
use borrow.Author.Tests.{le-ltb, ne_eqb}
use Rattle.claims.specs.Tree.{Name, Tree, includes, empty, irreflexive, Line, test_line, rel_line, let_line, never_line, within_line, closed_line, assume_empty, assume_irreflexive, claim_line}
use Rattle.claims.specs.Names.{declares, uses, tree_uses, first_slip}
use Rattle.claims.specs.Query.{Query, each, index_of, names, lets, relations}
use Rattle.claims.specs.Counting.{count}
use Rattle.claims.proofs.Results.{each_append}
use Rattle.claims.proofs.Limits.{Declared}
use Rattle.codes.specs.Codes.{test_codes, tree_codes, claim_codes, line_codes, lines_codes, query_codes}
use Rattle.side_limits.specs.Tally.{Tally, weight, step, run, nothing, tally}
use Rattle.side_limits.proofs.Walk.{run_append}
use Rattle.codes.proofs.Orderly.{Orderly, slip_first, Settled, settled_none, settled_more}
use Rattle.codes.proofs.Names.{has}
use Rattle.side_limits.proofs.Environment.{over, over_lets, named}
use Rattle.side_limits.proofs.Expressions.{sum_of, tree_counts, counting, run_below}
use Rattle.codes.proofs.Below.{Below, below_append, test_below, bracket_below, tree_below}

module _ (t : ℕ) (v : Tree → ℕ) where
  -- what was counted after the lines of p
  abbrev pub counted : Query → Tally
  counted p = record { now = 0; lets = map (λ b. v b.means) (each lets p) }

  counted_more : (p : Query) (l : Line)
      → counted (p ++ (l ∷ [])) ≡ record { now = 0; lets = (counted p).lets ++ map (λ b. v b.means) (lets l) }
  counted_more p l =
      rw (ap (map (λ b. v b.means)) (each_append lets p (l ∷ []) ∙ ap (λ x. each lets p ++ x) (append-nil (lets l)))
      ∙ map-append (λ b. v b.means) (each lets p) (lets l))

  no_let : (p : Query) (l : Line) → lets l ≡ [] → counted (p ++ (l ∷ [])) ≡ counted p
  no_let p l e =
      counted_more p l
      ∙ ap (λ ls. record { now = 0; lets = ls }) (ap (λ x. (counted p).lets ++ map (λ b. v b.means) x) e ∙ append-nil (counted p).lets)

  module _ (w : ℕ → ℕ) (p : Query) (d : Declared p)
      (val : (e : Tree) → first_slip p (tree_uses e) ≡ none → sum_of (weight t w (counted p).lets) (tree_codes p e) ≡ v e) where
    -- the codes of an expression or a test, and then those of the end of the line
    codes_run : (ks ms : List ℕ) → Below 128 ks
        → run t w (counted p) (ks ++ ms) ≡ run t w (counting (counted p) (sum_of (weight t w (counted p).lets) ks)) ms
    codes_run ks ms b =
        let s = sum_of (weight t w (counted p).lets) ks in
        let z : 0 + s ≡ s = omega arith in
        run_append t w (counted p) ks ms
        ∙ ap (λ x. run t w x ms) (run_below t w (counted p) ks b ∙ ap (counting (counted p)) z)

    -- a line that is no let leaves what was counted
    ended : (x m : ℕ) → 128 ≤ m → (m ≡ 130 → ⊥) → run t w (counting (counted p) x) (m ∷ []) ≡ counted p
    unfolding run step
    ended x m h n = rw (run, le-ltb m 128 h, ne_eqb m 130 n)

    aside : (l : Line) → lets l ≡ [] → (ks : List ℕ) (m : ℕ) → Below 128 ks → 128 ≤ m → (m ≡ 130 → ⊥)
        → run t w (counted p) (ks ++ (m ∷ [])) ≡ counted (p ++ (l ∷ []))
    aside l z ks m b h n = codes_run ks (m ∷ []) b ∙ ended _ m h n ∙ sym (no_let p l z)

    line_run : (l : Line) → first_slip p (uses l) ≡ none → run t w (counted p) (line_codes p l) ≡ counted (p ++ (l ∷ []))
    unfolding line_codes claim_codes run step lets uses
    line_run (test_line n) s = aside (test_line n) refl [] 128 tt (omega arith) (λ e. omega arith)
    line_run (rel_line n) s = aside (rel_line n) refl [] 129 tt (omega arith) (λ e. omega arith)
    line_run (let_line n e) s =
        codes_run (tree_codes p e) (130 ∷ []) (tree_below p d e)
        ∙ ap (λ x. run t w (counting (counted p) x) (130 ∷ [])) (val e (slip_first p (declares n) (tree_uses e) s).1)
        ∙ sym (counted_more p (let_line n e))
    line_run (never_line u) s = aside (never_line u) refl (test_codes p u) 131 (test_below p d u) (omega arith) (λ e. omega arith)
    line_run (within_line n a b) s =
        let x = test_codes p a ++ (6 ∷ []) in
        let y = test_codes p b ++ (6 ∷ []) in
        let m = 144 + index_of n (relations p) in
        ap (run t w (counted p)) (sym (append_assoc x y (m ∷ [])))
        ∙ aside (within_line n a b) refl (x ++ y) m (below_append 128 x y (bracket_below p d a) (bracket_below p d b)) (omega arith) (λ e. omega arith)
    line_run (closed_line n) s = aside (closed_line n) refl [] (160 + index_of n (relations p)) tt (omega arith) (λ e. omega arith)
    line_run (assume_empty e) s = aside (assume_empty e) refl (tree_codes p e) 133 (tree_below p d e) (omega arith) (λ e. omega arith)
    line_run (assume_irreflexive e) s = aside (assume_irreflexive e) refl (tree_codes p e) 134 (tree_below p d e) (omega arith) (λ e. omega arith)
    line_run (claim_line (includes e f)) s =
        ap (run t w (counted p)) (append_assoc (tree_codes p e) (135 ∷ tree_codes p f) (136 ∷ []))
        ∙ codes_run (tree_codes p e) (135 ∷ (tree_codes p f ++ (136 ∷ []))) (tree_below p d e)
        ∙ aside (claim_line (includes e f)) refl (tree_codes p f) 136 (tree_below p d f) (omega arith) (λ e. omega arith)
    line_run (claim_line (empty e)) s = aside (claim_line (empty e)) refl (tree_codes p e) 137 (tree_below p d e) (omega arith) (λ e. omega arith)
    line_run (claim_line (irreflexive e)) s =
        aside (claim_line (irreflexive e)) refl (tree_codes p e) 138 (tree_below p d e) (omega arith) (λ e. omega arith)

module _ (q : Query) (t : ℕ) (w : Name → ℕ) (v : ℕ → ℕ)
    (agree : (n : Name) → has n (relations q) ≡ true → v (index_of n (relations q)) ≡ w n) (o : Orderly [] q) where
  lines_run : (p r : Query) → p ++ r ≡ q → Orderly p r → Settled p
      → run t v (counted t (over q t w) p) (lines_codes p r) ≡ counted t (over q t w) q
  unfolding lines_codes run over
  lines_run p [] z o' s = ap (counted t (over q t w)) (sym (append-nil p) ∙ z)
  lines_run p (l ∷ r) z (e, c, o') s =
      run_append t v (counted t (over q t w) p) (line_codes p l) (lines_codes (p ++ (l ∷ [])) r)
      ∙ ap (λ x. run t v x (lines_codes (p ++ (l ∷ [])) r))
      (line_run t (over q t w) v p s.room
      (λ f u. tree_counts p s.room t v (over_lets q t w (each lets p)) (names q w (count t)) (named q t w v agree o p (l ∷ r) z s) f u) l e)
      ∙ lines_run (p ++ (l ∷ [])) r (append_assoc p (l ∷ []) r ∙ z) o' (settled_more p l e c s)

  -- the walk over the codes of the whole query
  pub query_tally : tally t v (query_codes q) ≡ counted t (over q t w) q
  unfolding tally query_codes nothing
  query_tally = lines_run [] q refl o settled_none
