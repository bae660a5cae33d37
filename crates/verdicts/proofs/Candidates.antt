-- The candidates of a level: the letters, and each entry of the level before with every letter, in the order of their prefixes. And
-- the word that a level completes: of the first entry that completes one, with the lowest atom.
-- Assumes nothing.
use Prim.Native.Nat.{ℕ}
use native.Mathlib.Omega.{arith}
use mathlib.Core.Path.{◌≡◌, refl, sym, ◌∙◌, ap, subst}
use mathlib.Core.Logic.{◌⊎◌}
use mathlib.Core.Logic.◌⊎◌.{inl, inr}
use mathlib.Core.List.{List, [], ◌∷◌, map, flat_map}
use mathlib.Core.Option.{some, none}
use Rattle.kat.specs.Lists.{In, here, there}
use Rattle.kat.specs.Word.{Word, end}
use Rattle.kat.specs.Ring.{onto}
use Rattle.kat.proofs.Sets.{in_map, map_in}
use Rattle.verdicts.specs.Standings.{System, Letter, letters}
use Rattle.verdicts.specs.Search.{Entry, first_level, lengthened, next_level, completed}
use Rattle.verdicts.proofs.Pairwise.{pairwise_map, in_rows, rows_in, pairwise_rows}
use Rattle.verdicts.specs.Orders.{Pairwise, Rising, Sooner}
use Rattle.verdicts.proofs.Letters.{Fits, in_letters, letters_in_lem, letters_sooner}
use Rattle.verdicts.proofs.Fresh.{Ahead, entry_of, entry_after}

module _ (S : System) where
  pub first_map : (ls : List Letter) → first_level S ls ≡ map (entry_of S) ls
  unfolding first_level
  first_map [] = refl
  first_map (l ∷ ls) = ap (λ es. entry_of S l ∷ es) (first_map ls)

  pub grown_map : (e : Entry S) (ls : List Letter) → lengthened S e ls ≡ map (entry_after S e) ls
  unfolding lengthened
  grown_map e [] = refl
  grown_map e (l ∷ ls) = ap (λ es. entry_after S e l ∷ es) (grown_map e ls)

  -- an entry with every letter
  abbrev after_all : Entry S → List (Entry S)
  after_all e = map (entry_after S e) (letters S)

  next_rows : (es : List (Entry S)) → next_level S es ≡ flat_map after_all es
  unfolding next_level flat_map
  next_rows [] = refl
  next_rows (e ∷ es) = rw (grown_map e (letters S), next_rows es) refl

  pub in_first : (l : Letter) → Fits S l → In (entry_of S l) (first_level S (letters S))
  in_first l h = rw (first_map (letters S)) (in_map (entry_of S) (in_letters S l h))

  pub first_in_lem : (x : Entry S) → In x (first_level S (letters S)) → (l : Letter) × Fits S l × (x ≡ entry_of S l)
  first_in_lem x i =
      let (l, j, e) = map_in (entry_of S) (letters S) (subst (In x) (first_map (letters S)) i) in
      (l, letters_in_lem S l j, e)

  pub first_ahead : Rising S.live → Pairwise (Ahead S) (first_level S (letters S))
  first_ahead h =
      rw (first_map (letters S))
      (pairwise_map Sooner (Ahead S) (entry_of S) (letters S) (letters_sooner S h) (λ l m k. inr (refl, k)))

  pub in_next : {es : List (Entry S)} (e : Entry S) (l : Letter) → In e es → Fits S l → In (entry_after S e l) (next_level S es)
  in_next {es} e l i h = rw (next_rows es) (in_rows after_all i (in_map (entry_after S e) (in_letters S l h)))

  pub next_in : (es : List (Entry S)) (x : Entry S) → In x (next_level S es)
      → (e : Entry S) × (l : Letter) × In e es × Fits S l × (x ≡ entry_after S e l)
  next_in es x i =
      let (e, j, k) = rows_in after_all es (subst (In x) (next_rows es) i) in
      let (l, m, q) = map_in (entry_after S e) (letters S) k in
      (e, l, j, letters_in_lem S l m, q)

  after_ahead : (e f : Entry S) (x y : Entry S) → Ahead S e f → In x (after_all e) → In y (after_all f) → Ahead S x y
  after_ahead e f x y h i j =
      let (l, m, p) = map_in (entry_after S e) (letters S) i in
      let (k, n, q) = map_in (entry_after S f) (letters S) j in
      rw (p, q) (inl h)

  pub next_ahead : (es : List (Entry S)) → Rising S.live → Pairwise (Ahead S) es → Pairwise (Ahead S) (next_level S es)
  next_ahead es h p =
      rw (next_rows es)
      (pairwise_rows after_all (Ahead S) (Ahead S) es p
      (λ e i. pairwise_map Sooner (Ahead S) (entry_after S e) (letters S) (letters_sooner S h) (λ l m k. inr (refl, k)))
      after_ahead)

  -- the word w is completed by an entry of the list, before which none completes one, with the first atom
  pub record Completes (es : List (Entry S)) (w : Word) : Type 0 where
    pub entry : Entry S
    pub atom : ℕ
    pub others : List ℕ
    pub inside : In entry es
    pub finals : S.finals entry.standing ≡ atom ∷ others
    pub word : w ≡ onto entry.prefix (end atom)
    pub foremost : Pairwise (Ahead S) es → (x : Entry S) (b : ℕ) → In x es → In b (S.finals x.standing)
        → (entry ≡ x) ⊎ Ahead S entry x

  passed_over : (e : Entry S) (es : List (Entry S)) → S.finals e.standing ≡ [] → completed S (e ∷ es) ≡ completed S es
  unfolding completed
  passed_over e es h = rw (h, completed) refl

  taken : (e : Entry S) (es : List (Entry S)) (a : ℕ) (as' : List ℕ) → S.finals e.standing ≡ a ∷ as'
      → completed S (e ∷ es) ≡ some (onto e.prefix (end a))
  unfolding completed
  taken e es a as' h = rw (h, completed) refl

  none_not_some : {w : Word} → none ≡ some w → ⊥
  none_not_some h = let z : ◌≡◌ {A = ℕ} 0 1 = cc in omega arith

  -- an entry that completes nothing in front changes nothing
  behind_one : (e : Entry S) (es : List (Entry S)) (w : Word) → S.finals e.standing ≡ [] → Completes es w → Completes (e ∷ es) w
  behind_one e es w h c =
      record {
        entry = c.entry;
        atom = c.atom;
        others = c.others;
        inside = there c.inside;
        finals = c.finals;
        word = c.word;
        foremost = go;
      }
    where
      go : Pairwise (Ahead S) (e ∷ es) → (x : Entry S) (b : ℕ) → In x (e ∷ es) → In b (S.finals x.standing)
          → (c.entry ≡ x) ⊎ Ahead S c.entry x
      go p x b (here q) j = elim (subst (In b) (ap (λ y. S.finals y.standing) q ∙ h) j) [ ]
      go p x b (there i) j = c.foremost p.1 x b i j

  in_front_lem : (e : Entry S) (es : List (Entry S)) (a : ℕ) (as' : List ℕ) → S.finals e.standing ≡ a ∷ as'
      → Completes (e ∷ es) (onto e.prefix (end a))
  in_front_lem e es a as' h =
      record { entry = e; atom = a; others = as'; inside = here refl; finals = h; word = refl; foremost = go }
    where
      go : Pairwise (Ahead S) (e ∷ es) → (x : Entry S) (b : ℕ) → In x (e ∷ es) → In b (S.finals x.standing) → (e ≡ x) ⊎ Ahead S e x
      go p x b (here q) j = inl (sym q)
      go p x b (there i) j = inr (p.0 x i)

  pub completed_some : (es : List (Entry S)) (w : Word) → completed S es ≡ some w → Completes es w
  unfolding completed
  completed_some [] w e = absurd (none_not_some e)
  completed_some (x ∷ es) w e = go (S.finals x.standing) refl (completed_some es w)
    where
      go : (as' : List ℕ) → S.finals x.standing ≡ as' → (completed S es ≡ some w → Completes es w) → Completes (x ∷ es) w
      go [] h f = behind_one x es w h (f (sym (passed_over x es h) ∙ e))
      go (a ∷ as') h f =
          let q : some (onto x.prefix (end a)) ≡ some w = sym (taken x es a as' h) ∙ e in
          let q' : onto x.prefix (end a) ≡ w = cc q in
          subst (Completes (x ∷ es)) q' (in_front_lem x es a as' h)

  pub completed_none : (es : List (Entry S)) → completed S es ≡ none → (x : Entry S) (b : ℕ) → In x es
      → In b (S.finals x.standing) → ⊥
  completed_none (e ∷ es) h x b i j = go (S.finals e.standing) refl i (λ q k. completed_none es q x b k j)
    where
      go : (as' : List ℕ) → S.finals e.standing ≡ as' → In x (e ∷ es) → (completed S es ≡ none → In x es → ⊥) → ⊥
      go [] q (here k) f = elim (subst (In b) (ap (λ y. S.finals y.standing) k ∙ q) j) [ ]
      go [] q (there k) f = f (sym (passed_over e es q) ∙ h) k
      go (a ∷ as') q k f = none_not_some (sym h ∙ taken e es a as' q)
  completed_none [] h x b i j = elim i [ ]
