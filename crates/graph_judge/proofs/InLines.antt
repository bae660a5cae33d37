-- The judge in a line and behind it: a table for each let of the lines before stands in memory, and the lines are counted. What an expression
-- adds keeps that, and each way that a line ends makes it true of one line more.
-- Assumes nothing.
use Prim.Native.Nat.{ℕ, suc, ◌+◌, ◌≤◌, ◌<◌}
use native.Mathlib.Numerals.{add-one}
use native.Mathlib.Omega.{arith}
use mathlib.Core.Path.{◌≡◌, refl, sym, ◌∙◌, ap, ap₂, subst}
use mathlib.Core.Bool.{Bool, true, false, cond, ◌&&◌}
use mathlib.Core.List.{List, [], ◌∷◌, ◌++◌, append-nil}
use lib.Dec.{eqb}
use lib.ListN.{length, set, length-append, length-set}
use lib.Seq.{get_or-set_same, get_or-set_other}
use borrow.Author.Tests.{lt-ltb}
use Rattle.kat.specs.Graph.{Finite}
use Rattle.claims.specs.Tree.{Name, Tree, Claim, includes, empty, irreflexive, Line, test_line, rel_line, let_line, never_line, within_line, closed_line, assume_empty, assume_irreflexive, claim_line}
use Rattle.claims.specs.Query.{Query, Bound, each, lets}
use Rattle.claims.specs.Judgement.{breaks, claimed}
use Rattle.claims.proofs.Results.{each_append}
use Rattle.rows.specs.Rows.{blank}
use Rattle.rows.proofs.Shown.{Shows}
use Rattle.graph_tables.specs.declared.JudgedSoFar.{JudgedSoFar}
use Rattle.graph_tables.specs.Machine.{Judging, table_at, top}
use Rattle.graph_judge.specs.Machine.{onward, broken_if, found_now, kept_let}
use Rattle.graph_judge.specs.Outcome.{outcome_of}
use Rattle.graph_judge.proofs.Graphed.{Graphed}
use Rattle.graph_judge.proofs.Added.{Added}
use Rattle.graph_judge.proofs.Expressions.{related, Known}

-- whether a claim is one of rings
abbrev pub ring_claim : Claim → Bool
ring_claim (includes e f) = false
ring_claim (empty e) = false
ring_claim (irreflexive e) = true

module _ (G : Finite) (q : Query) (L : List ℕ) (n : ℕ) (g : Graphed G L n) where
  -- the judge is in the line after those of p
  pub record InLine (p : Query) (k : Judging) : Type 0 where
    pub size : length k.mem ≡ 100
    pub events : k.state.events ≡ n
    pub lets_before : k.state.lets ≡ length (each lets p)
    pub number : k.state.line ≡ suc (length p)
    pub known : Known G q L n g 0 (each lets p) k.mem

  -- what is found of a claim is its outcome
  abbrev pub FoundOf : Line → ℕ → Type 0
  FoundOf (test_line m) x = Unit {0}
  FoundOf (rel_line m) x = Unit {0}
  FoundOf (let_line m e) x = Unit {0}
  FoundOf (never_line t) x = Unit {0}
  FoundOf (within_line m t u) x = Unit {0}
  FoundOf (closed_line m) x = Unit {0}
  FoundOf (assume_empty e) x = Unit {0}
  FoundOf (assume_irreflexive e) x = Unit {0}
  FoundOf (claim_line c) x = outcome_of (ring_claim c) x ≡ claimed G q c

  -- the line l after those of p, from j on, ends at k
  pub record LineDone (p : Query) (l : Line) (j k : Judging) : Type 0 where
    pub behind : InLine (p ++ (l ∷ [])) k
    pub rests : k.state.waiting ≡ 0
    pub broken : k.state.broken ≡ cond (breaks G q l && eqb j.state.broken 0) j.state.line j.state.broken
    pub found : FoundOf l k.state.found

  -- the same tables for the lets
  known_kept : (i : ℕ) (bs : List (Bound Tree)) (m m' : List (List ℕ)) → i + length bs ≤ 32
      → ((x : ℕ) → x < i + length bs → table_at m' x ≡ table_at m x) → Known G q L n g i bs m → Known G q L n g i bs m'
  known_kept i [] m m' h e k = tt
  known_kept i (b ∷ bs) m m' h e (s, k) = (
    subst (λ t. Shows n t (related G q L n g b.means)) (sym (e i (omega arith))) s,
    known_kept (suc i) bs m m' (omega arith) (λ x l. e x (omega arith)) k,
  )

  known_more : (i : ℕ) (bs : List (Bound Tree)) (b : Bound Tree) (m : List (List ℕ)) → Known G q L n g i bs m
      → Shows n (table_at m (i + length bs)) (related G q L n g b.means) → Known G q L n g i (bs ++ (b ∷ [])) m
  known_more i [] b m k s = let e : i + 0 ≡ i = omega arith in (subst (λ x. Shows n (table_at m x) (related G q L n g b.means)) e s, tt)
  known_more i (c ∷ bs) b m (h, k) s =
      let e : i + suc (length bs) ≡ suc i + length bs = omega arith in
      (h, known_more (suc i) bs b m k (subst (λ x. Shows n (table_at m x) (related G q L n g b.means)) e s))

  -- an expression is worked out in a line
  pub added_in_line : (p : Query) (f : ℕ → ℕ → Bool) (j k : Judging) → length (each lets p) ≤ 32 → Added n f j k → InLine p j → InLine p k
  added_in_line p f j k few a s =
      record {
        size = a.size ∙ s.size;
        events = ap (λ (s : JudgedSoFar). s.events) a.state ∙ s.events;
        lets_before = ap (λ (s : JudgedSoFar). s.lets) a.state ∙ s.lets_before;
        number = ap (λ (s : JudgedSoFar). s.line) a.state ∙ s.number;
        known = known_kept 0 (each lets p) j.mem k.mem (omega arith) (λ x l. a.kept x (omega arith)) s.known;
      }

  module _ (p : Query) (l : Line) where
    line_length : length (p ++ (l ∷ [])) ≡ suc (length p)
    line_length = length-append p (l ∷ []) ∙ add-one (length p)

    module _ (none_here : lets l ≡ []) where
      -- no let more
      same_lets : each lets (p ++ (l ∷ [])) ≡ each lets p
      same_lets = each_append lets p (l ∷ []) ∙ ap (λ x. each lets p ++ (x ++ [])) none_here ∙ append-nil (each lets p)

      -- a line that is no let ends
      ended : (k : Judging) (b f : ℕ) → InLine p k → InLine (p ++ (l ∷ [])) (record {
        mem = k.mem;
        state = record { events = k.state.events; waiting = 0; lets = k.state.lets; line = k.state.line + 1; broken = b; found = f };
      })
      ended k b f i =
          record {
            size = i.size;
            events = i.events;
            lets_before = i.lets_before ∙ ap length (sym same_lets);
            number = add-one k.state.line ∙ ap suc i.number ∙ ap suc (sym line_length);
            known = subst (λ x. Known G q L n g 0 x k.mem) (sym same_lets) i.known;
          }

      pub broken_done : (j k : Judging) (b : Bool) → b ≡ breaks G q l → k.state.broken ≡ j.state.broken → k.state.line ≡ j.state.line
          → FoundOf l k.state.found → InLine p k → LineDone p l j (record { mem = k.mem; state = broken_if b k.state })
      unfolding broken_if
      broken_done j k b e c d f i =
          record {
            behind = ended k (cond (b && eqb k.state.broken 0) k.state.line k.state.broken) k.state.found i;
            rests = refl;
            broken = ap₂ (λ x y. cond (x && eqb y 0) k.state.line y) e c ∙ ap (λ x. cond (breaks G q l && eqb j.state.broken 0) x j.state.broken) d;
            found = f;
          }

  -- the claim ends
  pub found_done : (p : Query) (c : Claim) (j k : Judging) (m : ℕ) → outcome_of (ring_claim c) m ≡ claimed G q c → k.state.broken ≡ j.state.broken
      → InLine p k → LineDone p (claim_line c) j (record { mem = k.mem; state = found_now m k.state })
  unfolding found_now lets breaks
  found_done p c j k m e b i =
      record {
        behind = ended p (claim_line c) refl k k.state.broken m i;
        rests = refl;
        broken = b;
        found = e;
      }

  -- a let ends
  pub let_done : (p : Query) (m : Name) (e : Tree) (j k : Judging) → length (each lets p) < 32 → Shows n (top k) (related G q L n g e)
      → k.state.broken ≡ j.state.broken → InLine p k → LineDone p (let_line m e) j (kept_let k)
  unfolding kept_let lets breaks
  let_done p m e j k few s b i =
      let st = k.state in
      let after : JudgedSoFar = record { events = st.events; waiting = 0; lets = st.lets + 1; line = st.line + 1; broken = st.broken; found = st.found } in
      let kept : Judging = record { mem = set k.mem st.lets (top k); state = after } in
      let bs = each lets p in
      let own : Bound Tree = record { called = m; means = e } in
      let more : each lets (p ++ (let_line m e ∷ [])) ≡ bs ++ (own ∷ []) = each_append lets p (let_line m e ∷ []) in
      subst (LineDone p (let_line m e) j)
      (sym (ap (λ c. cond c kept (record { mem = k.mem; state = onward st })) (lt-ltb st.lets 32 (omega (arith, i.lets_before)))))
      (record {
        behind = record {
          size = length-set k.mem st.lets (top k) ∙ i.size;
          events = i.events;
          lets_before = ap (λ x. x + 1) i.lets_before ∙ sym (ap length more ∙ length-append bs (own ∷ []));
          number = add-one st.line ∙ ap suc i.number ∙ ap suc (sym (line_length p (let_line m e)));
          known = subst (λ x. Known G q L n g 0 x (set k.mem st.lets (top k))) (sym more)
              (known_more 0 bs own (set k.mem st.lets (top k))
              (known_kept 0 bs k.mem (set k.mem st.lets (top k)) (omega arith)
              (λ x l. get_or-set_other k.mem st.lets x (top k) blank (λ z. omega (arith, i.lets_before))) i.known)
              (subst (λ x. Shows n (table_at (set k.mem st.lets (top k)) x) (related G q L n g e)) (place i.lets_before)
              (subst (λ t. Shows n t (related G q L n g e)) (sym (get_or-set_same k.mem st.lets (top k) blank (omega (arith, i.size, i.lets_before)))) s)));
        };
        rests = refl;
        broken = b;
        found = tt;
      })
    where
      place : k.state.lets ≡ length (each lets p) → k.state.lets ≡ 0 + length (each lets p)
      place z = omega arith
