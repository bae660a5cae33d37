-- What a prefix may have just read, by the expressions and their languages alone and not by tables: every field of a path standing and of
-- a ring standing holds exactly what the text says, and nothing past the occurrences of its side. From `path_reads` and `ring_reads`,
-- which say it by ways through the tables, since what an expression can have read, from its start or from behind an occurrence, is
-- what the ways read.
-- Assumes nothing.
use Prim.Native.Nat.{ℕ, ◌≤◌, ◌<◌}
use native.Mathlib.Omega.{arith}
use mathlib.Core.Path.{◌≡◌, refl}
use mathlib.Core.Logic.{◌⊎◌, ◌↔◌}
use mathlib.Core.Logic.◌⊎◌.{inl, inr}
use mathlib.Core.List.{List, [], ◌∷◌}
use Rattle.kat.specs.Expr.{Expr}
use Rattle.kat.specs.Lists.{In, here}
use Rattle.kat.specs.Ring.{Prefix, start}
use Rattle.kat.specs.Tables.{occurrences}
use Rattle.kat.specs.Read.{Reached}
use Rattle.kat.specs.Turns.{NonEmpty, AtomIsWord, Pair}
use Rattle.kat.proofs.Bools.{le_or_lt}
use Rattle.kat.proofs.Runs.{way_range}
use Rattle.kat.proofs.Words.{atom_is_word}
use Rattle.kat.proofs.Read.{read_is_way}
use Rattle.kat.proofs.ReadFrom.{reached_is_way, ended_is_way}
use Rattle.notation.specs.Sides.{Decision}
use Rattle.verdicts.specs.Standings.{System, Path, Ring, row, path_system, ring_system}
use Rattle.verdicts.specs.Verdicts.{StandingOf, begun, grown}
use Rattle.verdicts.specs.JustRead.{JustRead, LastRead, OfSide, AtomRead, PairRead, PathSaid, RingSaid, RingReads}
use Rattle.verdicts.proofs.Rows.{row_past, nothing_in_empty}
use Rattle.verdicts.proofs.PathStandings.{path_reads}
use Rattle.verdicts.proofs.RingStandings.{ring_reads}

-- a prefix that has a standing has a relation
standing_longer : (S : System) {l : Prefix} {s : S.Standing} → StandingOf S l s → NonEmpty l
standing_longer S (begun h k) = tt
standing_longer S (grown t h k) = tt

-- a set that nothing stands in is empty
empty_of_none : (l : List ℕ) → ((x : ℕ) → In x l → ⊥) → l ≡ []
empty_of_none [] h = refl
empty_of_none (x ∷ l) h = absurd (h x (here refl))

module _ (E : Expr) (l : Prefix) (h : NonEmpty l) where
  just_is_last : (P : List ℕ) → JustRead E l P → LastRead E l P
  just_is_last P j q = ((λ i. (read_is_way E l q h).1 ((j q).0 i)), (λ t. (j q).1 ((read_is_way E l q h).0 t)))

  just_of_side : (P : List ℕ) → JustRead E l P → OfSide E P
  just_of_side P j q i = way_range E 0 l q h ((j q).0 i)

module _ (E : Expr) (l : Prefix) where
  -- an atom that is a word, by the language
  atom_read : AtomRead E l ↔ AtomIsWord E 0 l
  atom_read = (
    (λ (u, v, e, j, n). (u, v, e, j, (atom_is_word E (start 0 v)).0 n)),
    (λ (u, v, e, j, n). (u, v, e, j, (atom_is_word E (start 0 v)).1 n)),
  )

  -- a pair at an atom strictly inside, by what is reached and what ends
  pair_read : (q p : ℕ) → PairRead E l q p ↔ Pair E 0 l q p
  pair_read q p = (
    (λ (u, v, e, i, j, x, y). (u, v, e, i, j, (reached_is_way E 0 v q j).0 x, (ended_is_way E p u v).0 y)),
    (λ (u, v, e, i, j, x, y). (u, v, e, i, j, (reached_is_way E 0 v q j).1 x, (ended_is_way E p u v).1 y)),
  )

module _ (D : Decision) where
  -- the fields of a path standing say what the text says
  pub path_said_by_expressions : {l : Prefix} {s : Path} → StandingOf (path_system D) l s → PathSaid D l s
  path_said_by_expressions {l} {s} t =
      let (p, q) = path_reads D t in
      let h : NonEmpty l = standing_longer (path_system D) t in
      record {
        longer = h;
        said_p = just_is_last D.left l h s.P p;
        said_s = just_is_last D.right l h s.S q;
        side_p = just_of_side D.left l h s.P p;
        side_s = just_of_side D.right l h s.S q;
      }

  module _ (l : Prefix) (s : Ring) (k : RingReads D l s) where
    past_m_lem : (p : ℕ) → occurrences D.right < p → row s.M p ≡ []
    past_m_lem p h = row_past s.M p (omega (arith, k.rows_m))

    past_n_lem : (q : ℕ) → occurrences D.right < q → row s.N q ≡ []
    past_n_lem q h = row_past s.N q (omega (arith, k.rows_n))

    -- a row that holds something is not past the last
    said_m_lem : (p q : ℕ) → In q (row s.M p) ↔ ((p ≤ occurrences D.right) × Reached D.right p l q)
    said_m_lem p q = (
      (λ i. go (le_or_lt p (occurrences D.right)) i),
      (λ (h, t). (k.table_m p q h).1 ((reached_is_way D.right p l q k.longer).0 t)),
    )
      where
        go : (p ≤ occurrences D.right) ⊎ (occurrences D.right < p) → In q (row s.M p)
            → (p ≤ occurrences D.right) × Reached D.right p l q
        go (inl h) i = (h, (reached_is_way D.right p l q k.longer).1 ((k.table_m p q h).0 i))
        go (inr h) i = absurd (nothing_in_empty (past_m_lem p h) i)

    side_m_lem : (p : ℕ) → OfSide D.right (row s.M p)
    side_m_lem p q i =
        let (h, t) = (said_m_lem p q).0 i in
        way_range D.right p l q k.longer ((reached_is_way D.right p l q k.longer).0 t)

    said_n_lem : (q p : ℕ) → In p (row s.N q) ↔ ((p ≤ occurrences D.right) × PairRead D.right l q p)
    said_n_lem q p = (
      (λ i. let h = k.within_n q p i in (h, (pair_read D.right l q p).1 ((k.table_n q p h).0 i))),
      (λ (h, t). (k.table_n q p h).1 ((pair_read D.right l q p).0 t)),
    )

    side_n_lem : (q p : ℕ) → In p (row s.N q) → (1 ≤ q) × (q ≤ occurrences D.right)
    side_n_lem q p i =
        let (u, v, e, a, b, x, y) = (k.table_n q p (k.within_n q p i)).0 i in way_range D.right 0 v q b x

    -- said by ways, the fields are said by the expressions
    said_of_reads : RingSaid D l s
    said_of_reads =
        record {
          longer = k.longer;
          first_atom = k.first_atom;
          said_p = just_is_last D.left l k.longer s.P k.left_read;
          side_p = just_of_side D.left l k.longer s.P k.left_read;
          said_z = (
            (λ z. (atom_read D.right l).1 (k.zero_flag.0 z)),
            (λ a. k.zero_flag.1 ((atom_read D.right l).0 a)),
          );
          rows_m = k.rows_m;
          rows_n = k.rows_n;
          said_m = said_m_lem;
          side_m = side_m_lem;
          past_m = past_m_lem;
          said_n = said_n_lem;
          side_n = side_n_lem;
          past_n = past_n_lem;
          first_n = empty_of_none (row s.N 0) (λ p i. let (h, j) = side_n_lem 0 p i in omega arith);
        }

  -- the fields of a ring standing say what the text says
  pub ring_said_by_expressions : {l : Prefix} {s : Ring} → StandingOf (ring_system D) l s → RingSaid D l s
  ring_said_by_expressions {l} {s} t = said_of_reads l s (ring_reads D t)
