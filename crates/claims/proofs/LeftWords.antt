-- Each letter of a word of a side is within the limits of its relation, since a relation stands for its step between its limits; so the
-- plain graph of such a word is within them. The idea: from one place of the word to another that an expression relates, every letter is
-- within its limits (`Kept`), and this passes from the parts of an expression to the whole.
-- Assumes nothing.
use Prim.Native.Nat.{ℕ, zero, suc, ◌<◌}
use native.Mathlib.Omega.{arith}
use mathlib.Core.Path.{◌≡◌, refl, sym, ◌∙◌, ap, subst}
use mathlib.Core.Logic.{⊎_elim}
use mathlib.Core.Bool.{Bool, true, false}
use mathlib.Core.List.{List, []}
use lib.Dec.{ltb→lt}
use lib.ListN.{length, get_or}
use Rattle.kat.specs.Expr.{Expr}
use Rattle.kat.specs.Lists.{In, member}
use Rattle.kat.specs.Graph.{Finite, Rel, Plus, once, more, graph}
use Rattle.kat.specs.Word.{Word, end, at, first, last}
use Rattle.kat.specs.Language.{Leads, places, Lang}
use Rattle.notation.specs.Tree.{Name, Tree}
use Rattle.notation.specs.Query.{Query, Limit, each, index_of, tests, relations, limits, closed, holds, live}
use Rattle.notation.specs.Expanded.{Expanded, step_of, plus_of, bounded, stands_for}
use Rattle.notation.specs.Sides.{Decision, expr_of, replaced, side}
use Rattle.notation.specs.Words.{Guarded}
use Rattle.claims.proofs.Lifting.{Passes, meant_lifted}
use Rattle.claims.proofs.Replacement.{Between, bounded_means, single_edge}
use Rattle.claims.proofs.Filled.{name_at_index, Plain}
use Rattle.claims.proofs.Laid.{rest, Laid}

-- the tests of the limits of relation r hold at the atoms a and b
abbrev Fits : Query → ℕ → ℕ → ℕ → Type 0
Fits q a r b =
    r < length (relations q) → (n : Name) → index_of n (relations q) ≡ r → (l : Limit) → In l (each (limits n) q)
    → (holds (tests q) l.from a ≡ true) × (holds (tests q) l.to b ≡ true)

-- each letter of the word is within its limits
abbrev Kept : Query → Word → Type 0
Kept q (end a) = Unit {0}
Kept q (at a r w) = Fits q a r (first w) × Kept q w

module _ (q : Query) where
  step_kept : (n : Name) (u v : Word) → Leads (index_of n (relations q)) u v
      → Between places (tests q) (each (limits n) q) u v → Kept q v → Kept q u
  step_kept n (end a) v h b k = absurd h
  step_kept n (at a s u) v (e, f) b k = (fits, subst (Kept q) (sym f) k)
    where
      fits : Fits q a s (first u)
      fits h m z l i =
          let r : List Name = relations q in
          let m_is : get_or r (index_of m r) [] ≡ m = name_at_index m r (omega arith) in
          let n_is : get_or r (index_of n r) [] ≡ n = name_at_index n r (omega arith) in
          let same : m ≡ n = sym m_is ∙ ap (λ j. get_or r j []) (z ∙ e) ∙ n_is in
          let (x, y) = b l (subst (λ o. In l (each (limits o) q)) same i) in
          (x, subst (λ o. holds (tests q) l.to (first o) ≡ true) (sym f) y)

  -- from a place to another that the expression relates, every letter is within its limits
  Careful : Expr → Expr → Type 0
  Careful E F = (u v : Word) → Rel places E u v → Kept q v → Kept q u

  careful_plus : {R : Word → Word → Type 0} → ((u v : Word) → R u v → Kept q v → Kept q u) → {u v : Word} → Plus R u v → Kept q v → Kept q u
  careful_plus f (once {x = u} {y = v} h) k = f u v h k
  careful_plus f (more {x = u} {y = v} h t) k = f u v h (careful_plus f t k)

  careful_passes : Passes Careful
  unfolding Careful
  careful_passes =
      record {
        of_test = λ s u v (e, h) k. subst (Kept q) (sym e) k;
        of_alt = λ E F E' F' f g u v h k. ⊎_elim (λ i. f u v i k) (λ i. g u v i k) h;
        of_seq = λ E F E' F' f g u v (z, h, i) k. f u z h (g z v i k);
        of_plus = λ E E' f u v h k. careful_plus f h k;
      }

  careful_replaced : (n : Name) → Careful (replaced q n) (replaced q n)
  unfolding Careful replaced stands_for expr_of
  careful_replaced n = go (closed q n)
    where
      b : Expanded
      b = bounded (each (limits n) q) (step_of n)

      one : (u v : Word) → Rel places (expr_of q b) u v → Kept q v → Kept q u
      one u v h k =
          let (s, i) = (bounded_means places q (each (limits n) q) (step_of n) u v).0 h in
          step_kept n u v ((single_edge places q n u v).0 s) i k

      go : (c : Bool) (u v : Word) → Rel places (expr_of q (elim c [ true ↦ plus_of b | false ↦ b ])) u v → Kept q v → Kept q u
      go true u v h k = careful_plus one h k
      go false u v h k = one u v h k

  -- a word of a side
  side_kept : (e : Tree) (w : Word) → Lang (side q e) w → Kept q w
  unfolding side Careful
  side_kept e w h = meant_lifted Careful careful_passes q (replaced q) (replaced q) careful_replaced e w (end (last w)) h tt

  kept_rest : (j : ℕ) (w : Word) → Kept q w → Kept q (rest j w)
  kept_rest zero w k = k
  kept_rest (suc j) (end a) k = tt
  kept_rest (suc j) (at a r w) (f, k) = kept_rest j w k

guarded_rest : (D : Decision) (j : ℕ) (w : Word) → Guarded D.live D.relations w → Guarded D.live D.relations (rest j w)
guarded_rest D zero w g = g
guarded_rest D (suc j) (end a) g = g
guarded_rest D (suc j) (at a r w) (h, k, g) = guarded_rest D j w g

guarded_first : (D : Decision) (w : Word) → Guarded D.live D.relations w → member (first w) D.live ≡ true
guarded_first D (end a) g = g
guarded_first D (at a r w) (h, k, g) = h

-- the plain graph of a guarded word of a side
pub laid_plain : (q : Query) (D : Decision) → D.live ≡ live q → D.relations ≡ length (relations q) → (e : Tree) (w : Word)
    → Guarded D.live D.relations w → Lang (side q e) w → (G : Finite) (place : ℕ → ℕ) → Laid G w place → Plain q G
laid_plain q D live-is relations-are e w g m G place p =
    record { live_atoms = live_atom; declared = declared_letter; limited = limited_letter }
  where
    live_atom : (x : (graph G).Event) → member ((graph G).atom x) (live q) ≡ true
    live_atom x =
        let (j, h, z) = p.place_of x.0 (ltb→lt x.0 (length G.atoms) x.1) in
        let a : get_or G.atoms x.0 0 ≡ first (rest j w) = ap (λ n. get_or G.atoms n 0) (sym z) ∙ p.atom_at j h in
        subst (λ b. member b (live q) ≡ true) (sym a)
        (subst (λ l. member (first (rest j w)) l ≡ true) live-is (guarded_first D (rest j w) (guarded_rest D j w g)))

    declared_letter : (r : ℕ) (x y : (graph G).Event) → (graph G).edge r x y → r < length (relations q)
    declared_letter r x y h =
        let (j, b, i, k, l) = p.letter_of_lem r x.0 y.0 h in
        let (s, t, u) = subst (Guarded D.live D.relations) l (guarded_rest D j w g) in
        subst (λ n. r < n) relations-are t

    limited_letter : (n : Name) (x y : (graph G).Event) → (graph G).edge (index_of n (relations q)) x y
        → Between (graph G) (tests q) (each (limits n) q) x y
    limited_letter n x y h l i =
        let (j, b, s, t, z) = p.letter_of_lem (index_of n (relations q)) x.0 y.0 h in
        let (f, k) = subst (Kept q) z (kept_rest q j w (side_kept q e w m)) in
        let (c, d) = f (declared_letter (index_of n (relations q)) x y h) n refl l i in (
          subst (λ a. holds (tests q) l.from a ≡ true)
              (sym (ap (λ o. get_or G.atoms o 0) s ∙ p.atom_at j (omega arith))) c,
          subst (λ a. holds (tests q) l.to a ≡ true)
              (sym (ap (λ o. get_or G.atoms o 0) t ∙ p.atom_at (suc j) b)) d,
        )
