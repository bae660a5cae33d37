-- Rings by turns. A ring word is covered exactly when one of three things holds: an atom of it is a word (no turn at all); from its first
-- atom one or more turns lead from 0 to an occurrence that may end there; or, from an atom strictly inside, the part after it leads
-- from 0 to q, none or more turns lead from q to p, and from p the part before it leads to an occurrence that may end there. The idea:
-- (v u) n + 1 times round is v, then n times (u v), then u.
-- Assumes nothing.
use Prim.Native.Nat.{ℕ, zero, suc}
use mathlib.Core.Path.{◌≡◌, refl, sym, ◌∙◌, ap, subst}
use mathlib.Core.Logic.{◌⊎◌, ◌↔◌}
use mathlib.Core.Logic.◌⊎◌.{inl, inr}
use mathlib.Core.Bool.{true}
use Rattle.kat.specs.Expr.{Expr}
use Rattle.kat.specs.Graph.{Plus, once, more}
use Rattle.kat.specs.Language.{Lang}
use Rattle.kat.specs.Ring.{Prefix, nothing, then, join, times, start, round, Covered}
use Rattle.kat.specs.Tables.{stop, null}
use Rattle.kat.specs.Way.{Way}
use Rattle.kat.specs.Turns.{NonEmpty, Turns, Turn, Round, AtomIsWord, FromStart, FromInside}
use Rattle.kat.proofs.Runs.{language_by_ways}

pub join_nothing : (l : Prefix) → join nothing l ≡ l
join_nothing nothing = refl
join_nothing (then l a r) = ap (λ x. then x a r) (join_nothing l)

-- the first atom is that of the first part which has one
pub start_join : (b c : ℕ) (v u : Prefix) → NonEmpty v → start b (join v u) ≡ start c v
start_join b c (then v a r) nothing h = refl
start_join b c (then v a r) (then u d s) h = start_join d c (then v a r) u h
start_join b c nothing u h = elim h [ ]

pub way_join : (E : Expr) (p : ℕ) (u v : Prefix) (q : ℕ) → Way E p (join u v) q ↔ ((o : ℕ) × Way E p u o × Way E o v q)
way_join E p u nothing q = ((λ h. (q, h, refl)), (λ (o, h, e). subst (Way E p u) e h))
way_join E p u (then v a r) q = (
  (λ (m, h, n, k). let (o, x, y) = (way_join E p u v m).0 h in (o, x, (m, y, n, k))),
  (λ (o, x, (m, y, n, k)). (m, (way_join E p u v m).1 (o, x, y), n, k)),
)

module _ (E : Expr) (l : Prefix) where
  pub way_times : (n p q : ℕ) → Way E p (times n l) q ↔ Turns E l n p q
  way_times zero p q = ((λ h. h), (λ h. h))
  way_times (suc n) p q = (
    (λ h. let (o, x, y) = (way_join E p (times n l) l q).0 h in (o, (way_times n p o).0 x, y)),
    (λ (o, x, y). (way_join E p (times n l) l q).1 (o, (way_times n p o).1 x, y)),
  )

  plus_more : {p o q : ℕ} → Plus (Turn E l) p o → Turn E l o q → Plus (Turn E l) p q
  plus_more (once h) k = more h (once k)
  plus_more (more h t) k = more h (plus_more t k)

  turns_first : (n p o q : ℕ) → Turn E l p o → Turns E l n o q → Turns E l (suc n) p q
  turns_first zero p o q h e = (p, refl, subst (Turn E l p) e h)
  turns_first (suc n) p o q h (m, t, k) = (m, turns_first n p o m h t, k)

  -- one or more turns
  pub plus_of_turns : (n p q : ℕ) → Turns E l (suc n) p q → Plus (Turn E l) p q
  plus_of_turns zero p q (o, e, k) = once (subst (λ x. Turn E l x q) (sym e) k)
  plus_of_turns (suc n) p q (o, t, k) = plus_more (plus_of_turns n p o t) k

  pub turns_of_plus : {p q : ℕ} → Plus (Turn E l) p q → (n : ℕ) × Turns E l (suc n) p q
  turns_of_plus (once {x = p} h) = (zero, (p, refl, h))
  turns_of_plus (more {x = p} {y = o} {z = q} h t) = let (n, k) = turns_of_plus t in (suc n, turns_first (suc n) p o q h k)

  pub round_of_turns : (n p q : ℕ) → Turns E l n p q → Round E l p q
  round_of_turns zero p q e = inl e
  round_of_turns (suc n) p q t = inr (plus_of_turns n p q t)

  pub turns_of_round : (p q : ℕ) → Round E l p q → (n : ℕ) × Turns E l n p q
  turns_of_round p q (inl e) = (zero, e)
  turns_of_round p q (inr t) = let (n, k) = turns_of_plus t in (suc n, k)

-- n + 1 times round from inside is the part after, n whole turns, and the part before
pub rotated : (E : Expr) (u v : Prefix) (n p q : ℕ)
    → Way E p (times (suc n) (join v u)) q ↔ ((o : ℕ) × (m : ℕ) × Way E p v o × Turns E (join u v) n o m × Way E m u q)
rotated E u v zero p q = (
  (λ h.
      let (x, e, y) = (way_join E p nothing (join v u) q).0 h in
      let (o, s, t) = (way_join E x v u q).0 y in
      (o, o, subst (λ z. Way E z v o) (sym e) s, refl, t)),
  (λ (o, m, s, e, t). (way_join E p nothing (join v u) q).1 (p, refl, (way_join E p v u q).1 (m, subst (Way E p v) e s, t))),
)
rotated E u v (suc n) p q = (
  (λ h.
      let (x, y, z) = (way_join E p (times (suc n) (join v u)) (join v u) q).0 h in
      let (o, m, s, t, w) = (rotated E u v n p x).0 y in
      let (k, i, j) = (way_join E x v u q).0 z in
      (o, k, s, (m, t, (way_join E m u v k).1 (x, w, i)), j)),
  (λ (o, k, s, (m, t, w), j).
      let (x, i, z) = (way_join E m u v k).0 w in
      (way_join E p (times (suc n) (join v u)) (join v u) q).1
      (x, (rotated E u v n p x).1 (o, m, s, t, i), (way_join E x v u q).1 (k, z, j))),
)

module _ (E : Expr) (b : ℕ) (l : Prefix) where
  word_of_ways : (x : Prefix) (n : ℕ) → Lang E (round b n x) ↔ ((q : ℕ) × Way E 0 (times n x) q × (stop E q (start b x) ≡ true))
  word_of_ways x n = language_by_ways E (times n x) (start b x)

  atom_of_word : (u v : Prefix) → NonEmpty l → l ≡ join u v → null E (start b (join v u)) ≡ true → AtomIsWord E b l
  atom_of_word u nothing h e n =
      (nothing, u, e ∙ sym (join_nothing u), subst NonEmpty e h, subst (λ x. null E (start b x) ≡ true) (join_nothing u) n)
  atom_of_word u (then v a r) h e n =
      (u, then v a r, e, tt, subst (λ x. null E x ≡ true) (start_join b b (then v a r) u tt) n)

  turned_from_start : (x : Prefix) (n q : ℕ) → x ≡ l → Way E 0 (times (suc n) x) q → stop E q (start b x) ≡ true → FromStart E b l
  turned_from_start x n q e w s = (
    q,
    plus_of_turns E l n 0 q ((way_times E l (suc n) 0 q).0 (subst (λ y. Way E 0 (times (suc n) y) q) e w)),
    subst (λ y. stop E q (start b y) ≡ true) e s,
  )

  turned : (u v : Prefix) (n q : ℕ) → l ≡ join u v → Way E 0 (times (suc n) (join v u)) q → stop E q (start b (join v u)) ≡ true
      → FromStart E b l ⊎ FromInside E b l
  turned u nothing n q e w s = inl (turned_from_start (join nothing u) n q (join_nothing u ∙ sym e) w s)
  turned nothing (then v a r) n q e w s = inl (turned_from_start (then v a r) n q (sym (join_nothing (then v a r)) ∙ sym e) w s)
  turned (then u c k) (then v a r) n q e w s =
      let (o, m, x, t, y) = (rotated E (then u c k) (then v a r) n 0 q).0 w in
      inr (
        o,
        m,
        (then u c k, then v a r, e, tt, tt, x, (q, y, subst (λ z. stop E q z ≡ true) (start_join b b (then v a r) (then u c k) tt) s)),
        subst (λ z. Round E z o m) (sym e) (round_of_turns E (join (then u c k) (then v a r)) n o m t),
      )

  -- a ring word with a relation is covered exactly by an atom, by turns from the start or by turns from inside
  pub covered_by_turns : NonEmpty l → Covered E b l ↔ (AtomIsWord E b l ⊎ (FromStart E b l ⊎ FromInside E b l))
  covered_by_turns h = ((λ (u, v, e, n, w). to u v e n w), from)
    where
      to : (u v : Prefix) → l ≡ join u v → (n : ℕ) → Lang E (round b n (join v u)) → AtomIsWord E b l ⊎ (FromStart E b l ⊎ FromInside E b l)
      to u v e zero w =
          let (q, z, s) = (word_of_ways (join v u) zero).0 w in
          inl (atom_of_word u v h e (subst (λ x. stop E x (start b (join v u)) ≡ true) (sym z) s))
      to u v e (suc n) w = let (q, z, s) = (word_of_ways (join v u) (suc n)).0 w in inr (turned u v n q e z s)

      from : AtomIsWord E b l ⊎ (FromStart E b l ⊎ FromInside E b l) → Covered E b l
      from (inl (u, v, e, k, n)) =
          (u, v, e, zero, (word_of_ways (join v u) zero).1 (0, refl, subst (λ x. null E x ≡ true) (sym (start_join b b v u k)) n))
      from (inr (inl (q, t, s))) =
          let (n, k) = turns_of_plus E l t in
          (nothing, l, sym (join_nothing l), suc n, (word_of_ways l (suc n)).1 (q, (way_times E l (suc n) 0 q).1 k, s))
      from (inr (inr (q, p, (u, v, e, i, j, x, (o, y, s)), t))) =
          let (n, k) = turns_of_round E l q p t in (
            u,
            v,
            e,
            suc n,
            (word_of_ways (join v u) (suc n)).1 (
              o,
              (rotated E u v n 0 o).1 (q, p, x, subst (λ z. Turns E z n q p) e k, y),
              subst (λ z. stop E o z ≡ true) (sym (start_join b b v u j)) s,
            ),
          )
