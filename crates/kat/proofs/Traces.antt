-- Traces: a prefix read along a graph, from one event to another. A walk is a trace of its word's body; a trace before a walk is a walk;
-- a trace that comes back to its event can be cut, turned and repeated as its prefix can.
-- Assumes nothing.
use Prim.Native.Nat.{ℕ, zero, suc}
use mathlib.Core.Path.{◌≡◌, refl, sym, ◌∙◌, ap, subst}
use mathlib.Core.Logic.{◌↔◌}
use Rattle.kat.specs.Graph.{Graph}
use Rattle.kat.specs.Word.{at}
use Rattle.kat.specs.Walk.{Walk, stay, go, word_of}
use Rattle.kat.specs.Ring.{Prefix, nothing, then, onto, body, join, times, start}

module _ (G : Graph) where
  abbrev pub Trace : G.Event → Prefix → G.Event → Type 0
  Trace x nothing y = x ≡ y
  Trace x (then l a r) y = (m : G.Event) × Trace x l m × (G.atom m ≡ a) × G.edge r m y

  pub trace_join : (x : G.Event) (u v : Prefix) (y : G.Event) → Trace x (join u v) y ↔ ((m : G.Event) × Trace x u m × Trace m v y)
  trace_join x u nothing y = ((λ h. (y, h, refl)), (λ (m, h, e). subst (Trace x u) e h))
  trace_join x u (then v a r) y = (
    (λ (z, h, n, k). let (m, s, t) = (trace_join x u v z).0 h in (m, s, (z, t, n, k))),
    (λ (m, s, (z, t, n, k)). (z, (trace_join x u v z).1 (m, s, t), n, k)),
  )

  trace_after : (x : G.Event) {y z : G.Event} (l : Prefix) → Trace x l y → (p : Walk G y z) → Trace x (body l (word_of G p)) z
  trace_after x l t (stay y) = t
  trace_after x l t (go {x = y} r e p) = trace_after x (then l (G.atom y) r) (y, t, refl, e) p

  -- a walk reads the body of its word
  pub trace_of_walk : {x y : G.Event} (p : Walk G x y) → Trace x (body nothing (word_of G p)) y
  trace_of_walk {x} p = trace_after x nothing refl p

  -- a trace before a walk
  pub walk_of_trace : {x y z : G.Event} (l : Prefix) → Trace x l y → (p : Walk G y z)
      → (o : Walk G x z) × (word_of G o ≡ onto l (word_of G p))
  walk_of_trace {x} {z = z} nothing e p =
      subst (λ y. (p : Walk G y z) → (o : Walk G x z) × (word_of G o ≡ word_of G p)) e (λ p. (p, refl)) p
  walk_of_trace {x = x} {y = y} {z = z} (then l a r) (m, t, n, e) p =
      let (o, h) = walk_of_trace {y = m} l t (go r e p) in
      (o, h ∙ ap (λ b. onto l (at b r (word_of G p))) n)

  -- the first atom of a trace is that of its event
  pub trace_start : (x : G.Event) (l : Prefix) (y : G.Event) → Trace x l y → start (G.atom y) l ≡ G.atom x
  trace_start x nothing y e = ap G.atom (sym e)
  trace_start x (then l a r) y (m, t, n, e) = ap (λ b. start b l) (sym n) ∙ trace_start x l m t

  -- a trace that comes back, n times
  pub trace_times : (x : G.Event) (l : Prefix) → Trace x l x → (n : ℕ) → Trace x (times n l) x
  trace_times x l t zero = refl
  trace_times x l t (suc n) = (trace_join x (times n l) l x).1 (x, trace_times x l t n, t)
