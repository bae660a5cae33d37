-- How what a ring standing says of a prefix changes with one letter more: an atom that is a word stands before the new relation or before
-- an earlier one; a pair (q, p) comes from an earlier pair whose q is moved on, or the new atom is the one strictly inside.
-- Assumes nothing.
use Prim.Native.Nat.{ℕ}
use mathlib.Core.Path.{◌≡◌, refl, sym, ◌∙◌, ap, subst}
use mathlib.Core.Logic.{◌⊎◌, ⊎_elim, ◌↔◌}
use mathlib.Core.Logic.◌⊎◌.{inl, inr}
use mathlib.Core.Bool.{true}
use Rattle.kat.specs.Expr.{Expr}
use Rattle.kat.specs.Ring.{Prefix, nothing, then, join, start}
use Rattle.kat.specs.Tables.{next, reads, stop, null}
use Rattle.kat.specs.Way.{Way}
use Rattle.kat.proofs.Shapes.{nothing_is_not_longer}
use Rattle.kat.specs.Turns.{NonEmpty, AtomIsWord, Pair}

-- the parts of a prefix that has a relation
abbrev before : Prefix → Prefix
before nothing = nothing
before (then l a r) = l

abbrev atom_of : Prefix → ℕ
atom_of nothing = 0
atom_of (then l a r) = a

abbrev relation_of : Prefix → ℕ
relation_of nothing = 0
relation_of (then l a r) = r

-- a prefix cut in two, with a relation in the second part: the last letter is the second part's
cut_grown : (l u v : Prefix) (a r : ℕ) → then l a r ≡ join u v → NonEmpty v → (w : Prefix) × (v ≡ then w a r) × (l ≡ join u w)
cut_grown l u nothing a r e h = absurd h
cut_grown l u (then w c k) a r e h =
    let ea : a ≡ c = ap atom_of e in
    let er : r ≡ k = ap relation_of e in
    (w, subst (λ x. then w c k ≡ then w x r) (sym ea) (subst (λ y. then w c k ≡ then w c y) (sym er) refl), ap before e)

nothing_joined : (u v : Prefix) → nothing ≡ join u v → NonEmpty v → ⊥
nothing_joined u (then v a r) e h = nothing_is_not_longer e
nothing_joined u nothing e h = elim h [ ]

-- a prefix with a relation has its own first atom
pub start_own : (b c : ℕ) (l : Prefix) → NonEmpty l → start b l ≡ start c l
start_own b c (then l a r) h = refl
start_own b c nothing h = elim h [ ]

nonempty_or_not : (l : Prefix) → NonEmpty l ⊎ (l ≡ nothing)
nonempty_or_not nothing = inr refl
nonempty_or_not (then l a r) = inl tt

module _ (E : Expr) (b : ℕ) (l : Prefix) (a r : ℕ) where
  pub atom_grown : AtomIsWord E b (then l a r) ↔ (AtomIsWord E b l ⊎ (null E a ≡ true))
  atom_grown = ((λ (u, v, e, h, n). to u v e h n), from)
    where
      to : (u v : Prefix) → then l a r ≡ join u v → NonEmpty v → null E (start b v) ≡ true → AtomIsWord E b l ⊎ (null E a ≡ true)
      to u v e h n =
          let (w, ev, el) = cut_grown l u v a r e h in
          let n' : null E (start a w) ≡ true = subst (λ x. null E (start b x) ≡ true) ev n in
          ⊎_elim
          (λ k. inl (u, w, el, k, subst (λ x. null E x ≡ true) (start_own a b w k) n'))
          (λ k. inr (subst (λ x. null E (start a x) ≡ true) k n'))
          (nonempty_or_not w)

      from : AtomIsWord E b l ⊎ (null E a ≡ true) → AtomIsWord E b (then l a r)
      from (inl (u, v, e, h, n)) =
          (u, then v a r, ap (λ x. then x a r) e, tt, subst (λ x. null E x ≡ true) (start_own b a v h) n)
      from (inr n) = (l, then nothing a r, refl, tt, n)

  -- the pair was there, or the new atom is the one inside
  abbrev pub Moved : ℕ → ℕ → Type 0
  Moved q p = (o : ℕ) × Pair E b l o p × (next E o q a ≡ true) × (reads E 0 q r ≡ true)

  abbrev pub Opened : ℕ → ℕ → Type 0
  Opened q p = NonEmpty l × (next E 0 q a ≡ true) × (reads E 0 q r ≡ true) × ((o : ℕ) × Way E p l o × (stop E o a ≡ true))

  pub pair_grown : (q p : ℕ) → Pair E b (then l a r) q p ↔ (Moved q p ⊎ Opened q p)
  pair_grown q p = ((λ (u, v, e, i, j, x, y). to u v e i j x y), from)
    where
      to : (u v : Prefix) → then l a r ≡ join u v → NonEmpty u → NonEmpty v → Way E 0 v q
          → ((o : ℕ) × Way E p u o × (stop E o (start b v) ≡ true)) → Moved q p ⊎ Opened q p
      to u v e i j x (o, y, s) =
          let (w, ev, el) = cut_grown l u v a r e j in
          let (m, x', n, k) = subst (λ z. Way E 0 z q) ev x in
          let s' : stop E o (start a w) ≡ true = subst (λ z. stop E o (start b z) ≡ true) ev s in
          ⊎_elim
          (λ h. inl (m, (u, w, el, i, h, x', (o, y, subst (λ z. stop E o z ≡ true) (start_own a b w h) s')), n, k))
          (λ h.
          let lu : l ≡ u = el ∙ ap (join u) h in
          let m0 : 0 ≡ m = subst (λ z. Way E 0 z m) h x' in
          inr (
            subst NonEmpty (sym lu) i,
            subst (λ z. next E z q a ≡ true) (sym m0) n,
            k,
            (o, subst (λ z. Way E p z o) (sym lu) y, subst (λ z. stop E o (start a z) ≡ true) h s'),
          ))
          (nonempty_or_not w)

      from : Moved q p ⊎ Opened q p → Pair E b (then l a r) q p
      from (inl (m, (u, v, e, i, j, x, (o, y, s)), n, k)) =
          (u, then v a r, ap (λ z. then z a r) e, i, tt, (m, x, n, k), (o, y, subst (λ z. stop E o z ≡ true) (start_own b a v j) s))
      from (inr (h, n, k, (o, y, s))) = (l, then nothing a r, refl, h, tt, (0, refl, n, k), (o, y, s))

-- a prefix of one letter has no atom inside
pub no_pair_at_first : (E : Expr) (b a r q p : ℕ) → Pair E b (then nothing a r) q p → ⊥
no_pair_at_first E b a r q p h = ⊎_elim (λ (o, k, n, m). no_pair_of_nothing o k) (λ (k, n, m, o). k) ((pair_grown E b nothing a r q p).0 h)
  where
    no_pair_of_nothing : (o : ℕ) → Pair E b nothing o p → ⊥
    no_pair_of_nothing o (u, v, e, i, j, x, y) = nothing_joined u v e j

-- nor has it an earlier atom
pub atom_at_first : (E : Expr) (b a r : ℕ) → AtomIsWord E b (then nothing a r) ↔ (null E a ≡ true)
atom_at_first E b a r = (
  (λ h. ⊎_elim (λ (u, v, e, j, n). absurd (nothing_joined u v e j)) (λ n. n)
      ((atom_grown E b nothing a r).0 h)),
  (λ n. (atom_grown E b nothing a r).1 (inr n)),
)
