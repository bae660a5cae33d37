-- The letters of a kind of standing are the live atoms with the declared relations, each once and in the order of words.
-- Assumes nothing.
use Prim.Native.Nat.{ℕ, ◌<◌}
use native.Mathlib.Omega.{arith}
use mathlib.Core.Path.{◌≡◌, refl, sym, ap, subst}
use mathlib.Core.Logic.◌⊎◌.{inl, inr}
use mathlib.Core.Bool.{true}
use mathlib.Core.List.{List, [], ◌∷◌, ◌++◌, flat_map}
use Rattle.kat.specs.Lists.{upto, member, In}
use Rattle.kat.proofs.Sets.{member_in, in_member, in_map, map_in, in_upto, upto_in}
use Rattle.verdicts.specs.Standings.{System, Letter, letters_at, letters_of, letters}
use Rattle.verdicts.proofs.Pairwise.{pairwise_map, in_rows, rows_in, pairwise_rows, rising_upto}
use Rattle.verdicts.specs.Orders.{Pairwise, Rising, Sooner, letter_of}

-- a letter with a live atom and a declared relation
abbrev pub Fits : System → Letter → Type 0
Fits S l = (member l.atom S.live ≡ true) × (l.relation < S.relations)

letters_rows : (as' rs : List ℕ) → letters_of as' rs ≡ flat_map (letters_at rs) as'
unfolding letters_of flat_map
letters_rows [] rs = refl
letters_rows (a ∷ as') rs = ap (λ ls. letters_at rs a ++ ls) (letters_rows as' rs)

in_at : (a r : ℕ) {rs : List ℕ} → In r rs → In (letter_of a r) (letters_at rs a)
unfolding letters_at
in_at a r i = in_map (letter_of a) i

at_in : (l : Letter) (a : ℕ) (rs : List ℕ) → In l (letters_at rs a) → (l.atom ≡ a) × In l.relation rs
unfolding letters_at
at_in l a rs i =
    let (r, j, e) = map_in (letter_of a) rs i in
    (ap (λ m. m.atom) e, subst (λ q. In q rs) (sym (ap (λ m. m.relation) e)) j)

at_sooner : (a : ℕ) (rs : List ℕ) → Rising rs → Pairwise Sooner (letters_at rs a)
unfolding letters_at
at_sooner a rs h = pairwise_map ◌<◌ Sooner (letter_of a) rs h (λ r q k. inr (refl, k))

module _ (S : System) where
  pub in_letters : (l : Letter) → Fits S l → In l (letters S)
  unfolding letters
  in_letters l (h, k) =
      rw (letters_rows S.live (upto 0 S.relations))
      (in_rows (letters_at (upto 0 S.relations)) (member_in l.atom S.live h)
      (in_at l.atom l.relation (in_upto l.relation 0 S.relations (omega arith) k)))

  pub letters_in_lem : (l : Letter) → In l (letters S) → Fits S l
  unfolding letters
  letters_in_lem l i =
      let (a, j, k) =
      rows_in (letters_at (upto 0 S.relations)) S.live (rw (letters_rows S.live (upto 0 S.relations)) at i) in
      let (e, m) = at_in l a (upto 0 S.relations) k in
      (subst (λ b. member b S.live ≡ true) (sym e) (in_member a j), (upto_in l.relation 0 S.relations m).1)

  pub letters_sooner : Rising S.live → Pairwise Sooner (letters S)
  unfolding letters
  letters_sooner h =
      let rs : List ℕ = upto 0 S.relations in
      rw (letters_rows S.live rs)
      (pairwise_rows (letters_at rs) ◌<◌ Sooner S.live h (λ a i. at_sooner a rs (rising_upto 0 S.relations))
      (λ a b l m k i j. let e : l.atom ≡ a = (at_in l a rs i).0 in let f : m.atom ≡ b = (at_in m b rs j).0 in inl (omega arith)))
