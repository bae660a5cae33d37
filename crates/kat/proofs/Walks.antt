-- Two events are related by an expression exactly when some walk between them has its word in the expression's language. Both ways are
-- simulations between the graph and the places of a word: what E relates in the graph, E relates on the word of a walk that goes on
-- to the end (`along`), and what E relates on the word of a walk, E relates in the graph (`back`).
-- Assumes nothing.
use Prim.Native.Nat.{ℕ}
use mathlib.Core.Path.{◌≡◌, refl, sym, subst}
use mathlib.Core.Logic.{◌↔◌}
use mathlib.Core.Logic.◌⊎◌.{inl, inr}
use mathlib.Core.Bool.{Bool, true}
use Rattle.kat.specs.Expr.{Expr, step, test, alt, seq, plus}
use Rattle.kat.specs.Graph.{Graph, Rel, Plus, once, more}
use Rattle.kat.specs.Word.{Word, end, first, last}
use Rattle.kat.specs.Language.{places, Lang}
use Rattle.kat.proofs.Shapes.{longer_is_no_end}
use Rattle.kat.specs.Walk.{Walk, stay, go, word_of}

module _ (G : Graph) where
  pub first_of_walk : {x y : G.Event} (p : Walk G x y) → first (word_of G p) ≡ G.atom x
  first_of_walk (stay x) = refl
  first_of_walk (go r e p) = refl

  pub last_of_walk : {x y : G.Event} (p : Walk G x y) → last (word_of G p) ≡ G.atom y
  last_of_walk (stay x) = refl
  last_of_walk (go r e p) = last_of_walk p

  -- a walk from x that E reads up to the walk p
  abbrev Ahead : (Word → Word → Type 0) → G.Event → {y z : G.Event} → Walk G y z → Type 0
  Ahead R x {z = z} p = (o : Walk G x z) × R (word_of G o) (word_of G p)

  along_plus : {R : G.Event → G.Event → Type 0} {Q : Word → Word → Type 0}
      → ((x y z : G.Event) → R x y → (p : Walk G y z) → Ahead Q x p)
      → {x y z : G.Event} → Plus R x y → (p : Walk G y z) → Ahead (Plus Q) x p
  along_plus k {z = z} (once {x = x} {y = y} h) p = let (o, s) = k x y z h p in (o, once s)
  along_plus k {z = z} (more {x = x} {y = y} h t) p =
      let (o, s) = along_plus k t p in
      let (u, v) = k x y z h o in
      (u, more v s)

  along_test : (s : ℕ → Bool) {x y z : G.Event} → x ≡ y → s (G.atom x) ≡ true → (p : Walk G y z) → Ahead (Rel places (test s)) x p
  along_test s {z = z} e hs p =
      let P : G.Event → Type 0 = λ u. s (G.atom u) ≡ true → (o : Walk G u z) × Rel places (test s) (word_of G o) (word_of G p) in
      subst P (sym e) (λ h. (p, (refl, subst (λ a. s a ≡ true) (sym (first_of_walk p)) h))) hs

  -- what E relates in the graph it relates on the word of a walk that goes on to the end
  pub along : (E : Expr) (x y z : G.Event) → Rel G E x y → (p : Walk G y z) → Ahead (Rel places E) x p
  along (step s) x y z (r, hs, e) p = (go r e p, (r, hs, (refl, refl)))
  along (test s) x y z (e, hs) p = along_test s e hs p
  along (alt e f) x y z (inl h) p = let (o, s) = along e x y z h p in (o, inl s)
  along (alt e f) x y z (inr h) p = let (o, s) = along f x y z h p in (o, inr s)
  along (seq e f) x y z (m, h, k) p =
      let (o, s) = along f m y z k p in
      let (u, v) = along e x m z h o in
      (u, (word_of G o, v, s))
  along (plus e) x y z h p = along_plus (along e) h p

  -- an event from which the place v goes on to the end, and which x is related to
  abbrev Met : (G.Event → G.Event → Type 0) → G.Event → G.Event → Word → Type 0
  Met R x z v = (y : G.Event) × (p : Walk G y z) × (word_of G p ≡ v) × R x y

  back_step : (s : ℕ → Bool) {x z : G.Event} (o : Walk G x z) (v : Word) → Rel places (step s) (word_of G o) v → Met (Rel G (step s)) x z v
  back_step s (stay x) v (r, hs, h) = absurd h
  back_step s (go {y = y} t e p) v (r, hs, (er, ev)) = (y, p, ev, (t, subst (λ q. s q ≡ true) (sym er) hs, e))

  back_test : (s : ℕ → Bool) {x z : G.Event} (o : Walk G x z) (v : Word) → Rel places (test s) (word_of G o) v → Met (Rel G (test s)) x z v
  back_test s {x} o v (e, hs) = (x, o, e, (refl, subst (λ a. s a ≡ true) (first_of_walk o) hs))

  back_plus : {R : G.Event → G.Event → Type 0} {Q : Word → Word → Type 0}
      → ((x z : G.Event) (o : Walk G x z) (v : Word) → Q (word_of G o) v → Met R x z v)
      → {u v : Word} → Plus Q u v → {x z : G.Event} (o : Walk G x z) → word_of G o ≡ u → Met (Plus R) x z v
  back_plus {Q = Q} k (once {y = v} h) {x} {z} o e =
      let (y, p, ep, r) = k x z o v (subst (λ w. Q w v) (sym e) h) in (y, p, ep, once r)
  back_plus {Q = Q} k (more {y = m} h t) {x} {z} o e =
      let (y, p, ep, r) = k x z o m (subst (λ w. Q w m) (sym e) h) in
      let (y', p', ep', r') = back_plus k t p ep in
      (y', p', ep', more r r')

  -- what E relates on the word of a walk it relates in the graph
  pub back : (E : Expr) (x z : G.Event) (o : Walk G x z) (v : Word) → Rel places E (word_of G o) v → Met (Rel G E) x z v
  back (step s) x z o v h = back_step s o v h
  back (test s) x z o v h = back_test s o v h
  back (alt e f) x z o v (inl h) = let (y, p, ep, r) = back e x z o v h in (y, p, ep, inl r)
  back (alt e f) x z o v (inr h) = let (y, p, ep, r) = back f x z o v h in (y, p, ep, inr r)
  back (seq e f) x z o v (m, h, k) =
      let (y, p, ep, r) = back e x z o m h in
      let (y', p', ep', r') = back f y z p v (subst (λ w. Rel places f w v) (sym ep) k) in
      (y', p', ep', (y, r, r'))
  back (plus e) x z o v h = back_plus (back e) h o refl

  at_end_lem : {y z : G.Event} (p : Walk G y z) (a : ℕ) → word_of G p ≡ end a → y ≡ z
  at_end_lem (stay x) a e = refl
  at_end_lem (go r e p) a h = absurd (longer_is_no_end h)

  -- two events are related exactly when a walk between them has its word in the language
  pub related_by_words : (E : Expr) (x y : G.Event) → Rel G E x y ↔ ((p : Walk G x y) × Lang E (word_of G p))
  related_by_words E x y = (
    (λ h. let (o, r) = along E x y y h (stay y) in (o, subst (λ a. Rel places E (word_of G o) (end a)) (sym (last_of_walk o)) r)),
    (λ (p, l). let (z, o, e, r) = back E x y p (end (last (word_of G p))) l in subst (Rel G E x) (at_end_lem o _ e) r),
  )
