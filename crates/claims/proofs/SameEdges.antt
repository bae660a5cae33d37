-- Two graphs with the same events and atoms, and with the same edges between events, mean the same: they relate the same events, meet the
-- same lines, have the same first line that is not met, and the same claims hold in them or are broken by the same events and pairs. The
-- idea: expressions look at edges between events alone.
-- Assumes nothing.
use Prim.Native.Nat.{ℕ}
use mathlib.Core.Logic.{◌↔◌}
use mathlib.Core.Logic.◌⊎◌.{inl, inr}
use mathlib.Core.List.{List}
use Rattle.kat.specs.Expr.{Expr, step, test, alt, seq, plus as repeated}
use Rattle.kat.specs.Graph.{Graph, Rel}
use Rattle.notation.specs.Tree.{Claim, includes, empty, irreflexive, Line, test_line, rel_line, let_line, never_line, within_line, closed_line, assume_empty, assume_irreflexive, claim_line}
use Rattle.notation.specs.Query.{Query, relations, index_of}
use Rattle.notation.specs.Sides.{meant, single}
use Rattle.claims.specs.Meaning.{Meets, MeetsAll, ClaimHolds}
use Rattle.claims.specs.Judgements.{BrokenAt, BrokenFrom, FirstUnmet}
use Rattle.claims.proofs.Replacement.{plus_map}

-- the graph with these events, atoms and edges
abbrev pub with_edges : (A : Type 0) → (A → ℕ) → (ℕ → A → A → Type 0) → Graph
with_edges A atom E = record { Event = A; atom = atom; edge = E }

-- with more edges, an expression relates more
more_related : (A : Type 0) (atom : A → ℕ) (E F : ℕ → A → A → Type 0) → ((r : ℕ) (x y : A) → E r x y → F r x y)
    → (e : Expr) (x y : A) → Rel (with_edges A atom E) e x y → Rel (with_edges A atom F) e x y
more_related A atom E F into (step s) x y (r, h, k) = (r, h, into r x y k)
more_related A atom E F into (test s) x y h = h
more_related A atom E F into (alt e f) x y (inl h) = inl (more_related A atom E F into e x y h)
more_related A atom E F into (alt e f) x y (inr h) = inr (more_related A atom E F into f x y h)
more_related A atom E F into (seq e f) x y (z, h, k) = (z, more_related A atom E F into e x z h, more_related A atom E F into f z y k)
more_related A atom E F into (repeated e) x y h = plus_map (with_edges A atom E) (more_related A atom E F into e) h

module _ (A : Type 0) (atom : A → ℕ) (E F : ℕ → A → A → Type 0) (same : (r : ℕ) (x y : A) → E r x y ↔ F r x y) (q : Query) where
  into : (e : Expr) (x y : A) → Rel (with_edges A atom E) e x y → Rel (with_edges A atom F) e x y
  into = more_related A atom E F (λ r x y. (same r x y).0)

  back : (e : Expr) (x y : A) → Rel (with_edges A atom F) e x y → Rel (with_edges A atom E) e x y
  back = more_related A atom F E (λ r x y. (same r x y).1)

  -- the same lines are met
  pub same_met : (l : Line) → Meets (with_edges A atom E) q l → Meets (with_edges A atom F) q l
  same_met (test_line n) h = tt
  same_met (rel_line n) h = tt
  same_met (let_line n e) h = tt
  same_met (never_line t) h = h
  same_met (within_line n t u) h = λ x y k. h x y ((same (index_of n (relations q)) x y).1 k)
  same_met (closed_line n) h = λ x y z k l.
      let r : ℕ = index_of n (relations q) in (same r x z).0 (h x y z ((same r x y).1 k) ((same r y z).1 l))
  same_met (assume_empty e) h = λ x y k. h x y (back (meant q (single q) e) x y k)
  same_met (assume_irreflexive e) h = λ x k. h x (back (meant q (single q) e) x x k)
  same_met (claim_line c) h = tt

  pub same_all_met : MeetsAll (with_edges A atom E) q → MeetsAll (with_edges A atom F) q
  same_all_met h l i = same_met l (h l i)

  -- the same claims hold
  pub same_claims : (c : Claim) → ClaimHolds (with_edges A atom E) q c → ClaimHolds (with_edges A atom F) q c
  same_claims (includes e f) h = λ x y k. into (meant q (single q) f) x y (h x y (back (meant q (single q) e) x y k))
  same_claims (empty e) h = λ x y k. h x y (back (meant q (single q) e) x y k)
  same_claims (irreflexive e) h = λ x k. h x (back (meant q (single q) e) x x k)

  -- the same events and pairs break a claim
  pub same_at : (c : Claim) (x : A) → BrokenAt (with_edges A atom E) q c x → BrokenAt (with_edges A atom F) q c x
  same_at (includes e f) x h = h
  same_at (empty e) x h = h
  same_at (irreflexive e) x h = into (meant q (single q) e) x x h

  pub same_from : (c : Claim) (x y : A) → BrokenFrom (with_edges A atom E) q c x y → BrokenFrom (with_edges A atom F) q c x y
  same_from (includes e f) x y (h, k) =
      (into (meant q (single q) e) x y h, λ l. k (back (meant q (single q) f) x y l))
  same_from (empty e) x y h = into (meant q (single q) e) x y h
  same_from (irreflexive e) x y h = h

-- the same line is the first that is not met
pub same_first_unmet : (A : Type 0) (atom : A → ℕ) (E F : ℕ → A → A → Type 0) → ((r : ℕ) (x y : A) → E r x y ↔ F r x y)
    → (q : Query) (ls : List Line) (m : ℕ) → FirstUnmet (with_edges A atom E) q ls m → FirstUnmet (with_edges A atom F) q ls m
same_first_unmet A atom E F same q ls m f =
    record {
      before = f.before;
      line = f.line;
      after = f.after;
      split = f.split;
      place = f.place;
      met = λ l i. same_met A atom E F same q l (f.met l i);
      unmet = λ h. f.unmet (same_met A atom F E (λ r x y. ((same r x y).1, (same r x y).0)) q f.line h);
    }
