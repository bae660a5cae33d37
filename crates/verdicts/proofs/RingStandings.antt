-- What the fields of a ring standing say of its prefix, as the text has it: the first atom; P by ways through the left side; M by ways
-- through the right side from each of 0 and its occurrences; N by the pairs at the atoms strictly inside; Z by the atoms that are right
-- words; and nothing in N but 0 and right occurrences. By the prefix, one letter at a time.
-- Assumes nothing.
use Prim.Native.Nat.{ℕ, suc, ◌≤◌, ◌<◌}
use native.Mathlib.Omega.{arith}
use mathlib.Core.Path.{◌≡◌, refl, sym, ◌∙◌, subst}
use mathlib.Core.Logic.{◌⊎◌, ⊎_elim, ◌↔◌}
use mathlib.Core.Logic.◌⊎◌.{inl, inr}
use mathlib.Core.Bool.{Bool, true, ◌&&◌, ◌||◌}
use mathlib.Core.List.{List, [], ◌∷◌, map}
use lib.ListN.{length-map}
use Rattle.kat.specs.Lists.{In, here, upto, some, member, there}
use Rattle.kat.specs.Ring.{Prefix, nothing, then}
use Rattle.kat.specs.Tables.{occurrences, reads, next, null, after, ends}
use Rattle.kat.specs.Way.{Way}
use Rattle.kat.proofs.Bools.{le_or_lt, or_cases, or_left, or_right, and_left, and_right, and_both}
use Rattle.kat.proofs.Sets.{some_in, in_some, filter_in, in_filter, in_upto, upto_in, member_in, in_member}
use Rattle.kat.proofs.Runs.{way_range, after_in, ends_in_lem}
use Rattle.kat.specs.Turns.{Pair}
use Rattle.kat.proofs.Growing.{start_own, atom_grown, pair_grown, no_pair_at_first, atom_at_first}
use Rattle.notation.specs.Sides.{Decision}
use Rattle.verdicts.specs.Standings.{Letter, Ring, row, states, moves, ring_system, ring_begin, ring_step, pairs}
use Rattle.verdicts.specs.Verdicts.{StandingOf, begun, grown}
use Rattle.verdicts.specs.JustRead.{RingReads}
use Rattle.verdicts.proofs.Rows.{row_made, rows_made, row_past, row_mapped, nothing_in_empty}
use Rattle.verdicts.proofs.PathStandings.{just_read_begin, just_read_onward}

module _ (D : Decision) where
  begin_m : (a r p q : ℕ) → p ≤ occurrences D.right
      → In q (row (map (λ o. after D.right (o ∷ []) a r) (states D)) p) ↔ Way D.right p (then nothing a r) q
  unfolding states
  begin_m a r p q h =
      let e : row (map (λ o. after D.right (o ∷ []) a r) (states D)) p ≡ after D.right (p ∷ []) a r =
      row_made (λ o. after D.right (o ∷ []) a r) (suc (occurrences D.right)) p (omega arith)
      in (
        (λ i. let (o, j, n, m) = (after_in D.right (p ∷ []) a r q).0 (subst (In q) e i) in (o, own o j, n, m)),
        (λ (o, po, n, m). subst (In q) (sym e) ((after_in D.right (p ∷ []) a r q).1 (o, here (sym po), n, m))),
      )
    where
      own : (o : ℕ) → In o (p ∷ []) → p ≡ o
      own o (here e) = sym e
      own o (there x3) = elim x3 [ ]

  -- no row of the first table N holds anything
  pub begin_n : (q p : ℕ) → In p (row (map (λ (o : ℕ). []) (states D)) q) → ⊥
  unfolding states
  begin_n q p = go (le_or_lt (suc (occurrences D.right)) q)
    where
      go : (suc (occurrences D.right) ≤ q) ⊎ (q < suc (occurrences D.right))
          → In p (row (map (λ (o : ℕ). []) (upto 0 (suc (occurrences D.right)))) q) → ⊥
      go (inl h) =
          nothing_in_empty (row_past (map (λ (o : ℕ). []) (upto 0 (suc (occurrences D.right)))) q
          (subst (λ n. n ≤ q) (sym (rows_made (λ (o : ℕ). []) (suc (occurrences D.right)))) h))
      go (inr h) = nothing_in_empty (row_made (λ (o : ℕ). []) (suc (occurrences D.right)) q h)

  ring_begin_lem : (a r : ℕ) → RingReads D (then nothing a r) (ring_begin D (record { atom = a; relation = r }))
  unfolding ring_begin states
  ring_begin_lem a r =
      record {
        longer = tt;
        first_atom = refl;
        left_read = just_read_begin D.left a r;
        zero_flag = ((atom_at_first D.right 0 a r).1, (atom_at_first D.right 0 a r).0);
        rows_m = rows_made (λ o. after D.right (o ∷ []) a r) (suc (occurrences D.right));
        table_m = begin_m a r;
        rows_n = rows_made (λ (o : ℕ). []) (suc (occurrences D.right));
        table_n = λ q p h. ((λ i. absurd (begin_n q p i)), (λ k. absurd (no_pair_at_first D.right 0 a r q p k)));
        within_n = λ q p i. absurd (begin_n q p i);
      }

  moves_both : (a r p q : ℕ) → moves D (record { atom = a; relation = r }) p q ≡ true
      → (next D.right p q a ≡ true) × (reads D.right 0 q r ≡ true)
  unfolding moves
  moves_both a r p q h =
      (and_right (reads D.right 0 q r) (next D.right p q a) h, and_left (reads D.right 0 q r) (next D.right p q a) h)

  both_moves : (a r p q : ℕ) → next D.right p q a ≡ true → reads D.right 0 q r ≡ true
      → moves D (record { atom = a; relation = r }) p q ≡ true
  unfolding moves
  both_moves a r p q n m = and_both m n

  -- what row q of the next table N holds
  abbrev Comes : Ring → ℕ → ℕ → ℕ → ℕ → Type 0
  Comes s a r q p =
      ((o : ℕ) × (o ≤ occurrences D.right) × (next D.right o q a ≡ true) × (reads D.right 0 q r ≡ true) × In p (row s.N o))
      ⊎ ((next D.right 0 q a ≡ true) × (reads D.right 0 q r ≡ true) × (ends D.right (row s.M p) a ≡ true))

  pairs_in : (s : Ring) (a r q p : ℕ) → p ≤ occurrences D.right
      → In p (pairs D s (record { atom = a; relation = r }) q) ↔ Comes s a r q p
  unfolding pairs states
  pairs_in s a r q p h =
      let L : Letter = record { atom = a; relation = r } in
      let f : ℕ → Bool = λ p. some (λ o. moves D L o q && member p (row s.N o)) (states D) || (moves D L 0 q && ends D.right (row s.M p) a) in (
        (λ i.
            let (j, t) = filter_in f (states D) i in
            ⊎_elim
            (λ x.
            let (o, k, y) = some_in (λ o. moves D L o q && member p (row s.N o)) (states D) x in
            let (lo, hi) = upto_in o 0 (suc (occurrences D.right)) k in
            let (n, m) = moves_both a r o q (and_left (moves D L o q) (member p (row s.N o)) y) in
            inl (o, omega arith, n, m, member_in p (row s.N o) (and_right (moves D L o q) (member p (row s.N o)) y)))
            (λ x.
            let (n, m) = moves_both a r 0 q (and_left (moves D L 0 q) (ends D.right (row s.M p) a) x) in
            inr (n, m, and_right (moves D L 0 q) (ends D.right (row s.M p) a) x))
            (or_cases (some (λ o. moves D L o q && member p (row s.N o)) (states D)) (moves D L 0 q && ends D.right (row s.M p) a) t)),
        (λ c.
            in_filter f (in_upto p 0 (suc (occurrences D.right)) (omega arith) (omega arith))
            (⊎_elim
            (λ (o, k, n, m, i).
            or_left (moves D L 0 q && ends D.right (row s.M p) a)
            (in_some (λ o. moves D L o q && member p (row s.N o)) (in_upto o 0 (suc (occurrences D.right)) (omega arith) (omega arith))
            (and_both (both_moves a r o q n m) (in_member p i))))
            (λ (n, m, e).
            or_right (some (λ o. moves D L o q && member p (row s.N o)) (states D)) (and_both (both_moves a r 0 q n m) e))
            c)),
      )

  onward_m : (l : Prefix) (s : Ring) (a r : ℕ) → RingReads D l s → (p q : ℕ) → p ≤ occurrences D.right
      → In q (row (map (λ o. after D.right o a r) s.M) p) ↔ Way D.right p (then l a r) q
  onward_m l s a r k p q h =
      let e : row (map (λ o. after D.right o a r) s.M) p ≡ after D.right (row s.M p) a r =
      row_mapped (λ o. after D.right o a r) s.M p (omega (arith, k.rows_m))
      in (
        (λ i.
            let (o, j, n, m) = (after_in D.right (row s.M p) a r q).0 (subst (In q) e i) in (o, (k.table_m p o h).0 j, n, m)),
        (λ (o, w, n, m). subst (In q) (sym e) ((after_in D.right (row s.M p) a r q).1 (o, (k.table_m p o h).1 w, n, m))),
      )

  comes_is_pair : (l : Prefix) (s : Ring) (a r : ℕ) → RingReads D l s → (q p : ℕ) → p ≤ occurrences D.right
      → Comes s a r q p ↔ Pair D.right 0 (then l a r) q p
  comes_is_pair l s a r k q p h = (
    (λ c.
        (pair_grown D.right 0 l a r q p).1
        (⊎_elim
        (λ (o, b, n, m, i). inl (o, (k.table_n o p h).0 i, n, m))
        (λ (n, m, e).
        let (o, i, t) = (ends_in_lem D.right (row s.M p) a).0 e in
        inr (k.longer, n, m, (o, (k.table_m p o h).0 i, t)))
        c)),
    (λ g.
        ⊎_elim
        (λ (o, (u, v, e, i, j, x, y), n, m).
        inl (o, (way_range D.right 0 v o j x).1, n, m, (k.table_n o p h).1 (u, v, e, i, j, x, y)))
        (λ (g, n, m, (o, w, t)). inr (n, m, (ends_in_lem D.right (row s.M p) a).1 (o, (k.table_m p o h).1 w, t)))
        ((pair_grown D.right 0 l a r q p).0 g)),
  )

  onward_n : (l : Prefix) (s : Ring) (a r : ℕ) → RingReads D l s → (q p : ℕ) → p ≤ occurrences D.right
      → In p (row (map (pairs D s (record { atom = a; relation = r })) (states D)) q) ↔ Pair D.right 0 (then l a r) q p
  unfolding states
  onward_n l s a r k q p h = go (le_or_lt (suc (occurrences D.right)) q)
    where
      f : ℕ → List ℕ
      f = pairs D s (record { atom = a; relation = r })

      n : ℕ
      n = suc (occurrences D.right)

      go : (suc (occurrences D.right) ≤ q) ⊎ (q < suc (occurrences D.right))
          → In p (row (map f (upto 0 (suc (occurrences D.right)))) q) ↔ Pair D.right 0 (then l a r) q p
      go (inl b) = (
        (λ i. absurd (nothing_in_empty (row_past (map f (upto 0 n)) q (subst (λ x. x ≤ q) (sym (rows_made f n)) b)) i)),
        (λ (u, v, e, i, j, x, y). absurd (let (lo, w) = way_range D.right 0 v q j x in omega arith)),
      )
      go (inr b) = (
        (λ i. (comes_is_pair l s a r k q p h).0 ((pairs_in s a r q p h).0 (subst (In p) (row_made f n q b) i))),
        (λ g. subst (In p) (sym (row_made f n q b)) ((pairs_in s a r q p h).1 ((comes_is_pair l s a r k q p h).1 g))),
      )

  -- only 0 and the right occurrences are paired
  pairs_within : (s : Ring) (a r q p : ℕ) → In p (pairs D s (record { atom = a; relation = r }) q) → p ≤ occurrences D.right
  unfolding pairs states
  pairs_within s a r q p i =
      let L : Letter = record { atom = a; relation = r } in
      let f : ℕ → Bool = λ p. some (λ o. moves D L o q && member p (row s.N o)) (states D) || (moves D L 0 q && ends D.right (row s.M p) a) in
      let (j, t) = filter_in f (states D) i in
      let (lo, hi) = upto_in p 0 (suc (occurrences D.right)) j in
      omega arith

  onward_within : (s : Ring) (a r q p : ℕ) → In p (row (map (pairs D s (record { atom = a; relation = r })) (states D)) q)
      → p ≤ occurrences D.right
  unfolding states
  onward_within s a r q p = go (le_or_lt (suc (occurrences D.right)) q)
    where
      f : ℕ → List ℕ
      f = pairs D s (record { atom = a; relation = r })

      n : ℕ
      n = suc (occurrences D.right)

      go : (suc (occurrences D.right) ≤ q) ⊎ (q < suc (occurrences D.right))
          → In p (row (map f (upto 0 (suc (occurrences D.right)))) q) → p ≤ occurrences D.right
      go (inl b) i = absurd (nothing_in_empty (row_past (map f (upto 0 n)) q (subst (λ x. x ≤ q) (sym (rows_made f n)) b)) i)
      go (inr b) i = pairs_within s a r q p (subst (In p) (row_made f n q b) i)

  ring_onward_lem : (l : Prefix) (s : Ring) (a r : ℕ) → RingReads D l s → RingReads D (then l a r) (ring_step D s (record { atom = a; relation = r }))
  unfolding ring_step states
  ring_onward_lem l s a r k =
      record {
        longer = tt;
        first_atom = k.first_atom ∙ start_own 0 a l k.longer;
        left_read = just_read_onward D.left l s.P a r k.left_read;
        zero_flag = (
          (λ z. (atom_grown D.right 0 l a r).1
              (⊎_elim (λ x. inl (k.zero_flag.0 x)) (λ x. inr x) (or_cases s.Z (null D.right a) z))),
          (λ g. ⊎_elim (λ x. or_left (null D.right a) (k.zero_flag.1 x)) (λ x. or_right s.Z x) ((atom_grown D.right 0 l a r).0 g)),
        );
        rows_m = length-map s.M (λ o. after D.right o a r) ∙ k.rows_m;
        table_m = onward_m l s a r k;
        rows_n = rows_made (pairs D s (record { atom = a; relation = r })) (suc (occurrences D.right));
        table_n = onward_n l s a r k;
        within_n = onward_within s a r;
      }

  pub ring_reads : {l : Prefix} {s : Ring} → StandingOf (ring_system D) l s → RingReads D l s
  ring_reads (begun {a = a} {r = r} h k) = ring_begin_lem a r
  ring_reads (grown {l = l} {s = s} {a = a} {r = r} t h k) = ring_onward_lem l s a r (ring_reads t)
