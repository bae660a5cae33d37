-- Refusal 12 at field k, in plain words: the reading of a graph refuses at field k exactly where the bytes begin with k - 1 good fields and
-- not with k, and are no graph. The idea is that of `WrongSheetFields`.
-- Assumes nothing.
use Prim.Native.Nat.{ℕ, zero, suc, ◌+◌, ◌≤◌}
use native.Mathlib.Omega.{arith}
use mathlib.Core.Path.{◌≡◌, refl, sym, ◌∙◌, ap, subst}
use mathlib.Core.Logic.{◌↔◌}
use mathlib.Core.Bool.{Bool, true, false}
use mathlib.Core.List.{List, [], ◌∷◌, ◌++◌}
use mathlib.Core.Option.{Option, some, none}
use lib.ListN.{length, length-append}
use Rattle.kat.specs.Lists.{is_empty}
use Rattle.kat.proofs.Sets.{in_append_left}
use Rattle.claims.specs.Fields.{next_field, after_field}
use Rattle.notation.specs.Refusals.{graph_field, Refusal, Result, ok, refused, refuse}
use Rattle.claims.specs.GraphBytes.{Edge, Listed, Ranges, with_field, fields_in, graph_in}
use Rattle.claims.specs.GraphWriting.{event_field, edge_field, graph_bytes, graph_fields, WellListed, IsGraph, GoodGraphFields, WrongGraphField}
use Rattle.notation.proofs.LineOrder.{ok_not_refused, same_refusal}
use Rattle.claims.proofs.FirstWrong.{last_apart, distinct_front, refused_at}
use Rattle.claims.proofs.GraphReading.{nothing_accepted, with_field_lem, more_edge}
use Rattle.claims.proofs.GraphWritten.{Onward, event_on, edge_on, field_read, graph_read_on, graph_reading}

module _ (R : Ranges) where
  -- a refusal is at a field from k on
  fields_place : (n k : ℕ) (G : Listed) (bs : List ℕ) (x : Refusal) → fields_in R n k G bs ≡ refused x → k ≤ x.place
  unfolding fields_in
  fields_place zero k G bs x e = absurd (ok_not_refused G x e)
  fields_place (suc n) k G bs x e =
      go (is_empty bs) (with_field R G (next_field bs)) (λ H. fields_place n (suc k) H (after_field (next_field bs)) x) e
    where
      turn : Bool → Option Listed → Result Listed
      turn b o =
          elim b [
            | true ↦ ok G
            | false ↦ elim o [ none ↦ refuse graph_field k | some H ↦ fields_in R n (suc k) H (after_field (next_field bs)) ]
          ]

      go : (b : Bool) (o : Option Listed) → ((H : Listed) → fields_in R n (suc k) H (after_field (next_field bs)) ≡ refused x → suc k ≤ x.place)
          → turn b o ≡ refused x → k ≤ x.place
      go true o ih h = absurd (ok_not_refused G x h)
      go false none ih h =
          let z : ◌≡◌ {A = Refusal} (record { cause = graph_field; place = k }) x = cc in
          let p : k ≡ x.place = ap (λ (r : Refusal). r.place) z in
          omega arith
      go false (some H) ih h = omega (arith, ih H h)

  -- where a reading is refused, the fields before are good
  abbrev Stops : Listed → List ℕ → Result Listed → Type 0
  Stops G bs r =
      (H : Listed) × (rest : List ℕ) × WellListed R H × (graph_bytes G ++ bs ≡ graph_bytes H ++ rest)
      × (r ≡ refuse graph_field (suc (graph_fields H)))

  onto : (G H : Listed) (bs rest : List ℕ) (r : Result Listed) → Onward G bs H rest → Stops H rest r → Stops G bs r
  onto G H bs rest r w (K, after, B, q, f) = (K, after, B, w.same_bytes ∙ q, f)

  fields_stop : (n k : ℕ) (G : Listed) (bs : List ℕ) → length bs ≤ n → k ≡ suc (graph_fields G) → WellListed R G → (x : Refusal)
      → fields_in R n k G bs ≡ refused x → Stops G bs (fields_in R n k G bs)
  unfolding fields_in
  fields_stop zero k G bs l p A x e = absurd (ok_not_refused G x e)
  fields_stop (suc n) k G bs l p A x e =
      go (is_empty bs) (with_field R G (next_field bs)) (λ H. field_read R G H bs (next_field bs) refl) (λ H. with_field_lem R G (next_field bs) A H)
      (λ H. fields_stop n (suc k) H rest) e
    where
      rest : List ℕ
      rest = after_field (next_field bs)

      turn : Bool → Option Listed → Result Listed
      turn b o = elim b [ true ↦ ok G | false ↦ elim o [ none ↦ refuse graph_field k | some H ↦ fields_in R n (suc k) H rest ] ]

      go : (b : Bool) (o : Option Listed) → ((H : Listed) → o ≡ some H → Onward G bs H rest) → ((H : Listed) → o ≡ some H → WellListed R H)
          → ((H : Listed) → length rest ≤ n → suc k ≡ suc (graph_fields H) → WellListed R H → (x : Refusal)
          → fields_in R n (suc k) H rest ≡ refused x → Stops H rest (fields_in R n (suc k) H rest))
          → turn b o ≡ refused x → Stops G bs (turn b o)
      go true o on well ih h = absurd (ok_not_refused G x h)
      go false none on well ih h = (G, bs, A, refl, ap (refuse graph_field) p)
      go false (some H) on well ih h =
          let w : Onward G bs H rest = on H refl in
          onto G H bs rest _ w (ih H (omega (arith, w.fewer)) (omega (arith, w.one_more)) (well H refl) x h)

  module _ (bs : List ℕ) where
    graph_stops : (x : Refusal) → graph_in R bs ≡ refused x → (n : ℕ) × (graph_in R bs ≡ refuse graph_field (1 + n)) × GoodGraphFields R bs n
    unfolding graph_in
    graph_stops x e =
        let (H, rest, A, q, f) =
        fields_stop (length bs) 1 (record { atoms = []; edges = [] }) bs (omega arith) refl (nothing_accepted R) x e in
        let p : suc (graph_fields H) ≡ 1 + graph_fields H = omega arith in
        (graph_fields H, f ∙ ap (refuse graph_field) p, record { listed = H; rest = rest; good = A; fields = refl; bytes = q })

    graph_not_before : (n j : ℕ) → GoodGraphFields R bs n → graph_in R bs ≡ refuse graph_field j → 1 + n ≤ j
    graph_not_before n j g e =
        let (m, l, f) = graph_read_on R g.listed g.good g.rest in
        omega (arith, g.fields, fields_place m (1 + graph_fields g.listed) g.listed g.rest _ (sym f ∙ sym (ap (graph_in R) g.bytes) ∙ e))

    -- without its last field a graph is one
    one_edge_less : (xs : List ℕ) (es : List Edge) (e : Edge) (rest : List ℕ) → WellListed R (more_edge (record { atoms = xs; edges = es }) e)
        → bs ≡ graph_bytes (more_edge (record { atoms = xs; edges = es }) e) ++ rest → GoodGraphFields R bs (length xs + length es)
    one_edge_less xs es e rest A p =
        record {
          listed = record { atoms = xs; edges = es };
          rest = edge_field e ++ rest;
          good = record {
            atoms_known = A.atoms_known;
            edges_known = λ f i. A.edges_known f (in_append_left (e ∷ []) i);
            from_event = λ f i. A.from_event f (in_append_left (e ∷ []) i);
            to_event = λ f i. A.to_event f (in_append_left (e ∷ []) i);
            at_most_64 = A.at_most_64;
            once_each = distinct_front es (e ∷ []) A.once_each;
          };
          fields = refl;
          bytes = p ∙ sym (edge_on (record { atoms = xs; edges = es }) e rest).same_bytes;
        }

    one_event_less : (xs : List ℕ) (a : ℕ) (rest : List ℕ) → WellListed R (record { atoms = xs ++ (a ∷ []); edges = [] })
        → bs ≡ graph_bytes (record { atoms = xs ++ (a ∷ []); edges = [] }) ++ rest → GoodGraphFields R bs (length xs)
    one_event_less xs a rest A p =
        record {
          listed = record { atoms = xs; edges = [] };
          rest = event_field a ++ rest;
          good = record {
            atoms_known = λ b i. A.atoms_known b (in_append_left (a ∷ []) i);
            edges_known = λ f i. elim i [ ];
            from_event = λ f i. elim i [ ];
            to_event = λ f i. elim i [ ];
            at_most_64 = omega (arith, A.at_most_64, length-append xs (a ∷ []));
            once_each = tt;
          };
          fields = omega arith;
          bytes = p ∙ sym (event_on xs [] a rest refl).same_bytes;
        }

    graph_fewer : (n : ℕ) → GoodGraphFields R bs (suc n) → GoodGraphFields R bs n
    graph_fewer n g = go g.listed.atoms g.listed.edges g.good g.fields g.bytes
      where
        go : (xs : List ℕ) (es : List Edge) → WellListed R (record { atoms = xs; edges = es }) → length xs + length es ≡ suc n
            → bs ≡ graph_bytes (record { atoms = xs; edges = es }) ++ g.rest → GoodGraphFields R bs n
        go xs (e ∷ es) A f p =
            let (ds, d, q) = last_apart e es in
            let z : length xs + length ds ≡ n = omega (arith, ap length q, length-append ds (d ∷ [])) in
            subst (GoodGraphFields R bs) z
            (one_edge_less xs ds d g.rest (subst (λ l. WellListed R (record { atoms = xs; edges = l })) q A)
            (p ∙ ap (λ l. graph_bytes (record { atoms = xs; edges = l }) ++ g.rest) q))
        go (x ∷ xs) [] A f p =
            let (ys, y, q) = last_apart x xs in
            let z : length ys ≡ n = omega (arith, ap length q, length-append ys (y ∷ [])) in
            subst (GoodGraphFields R bs) z
            (one_event_less ys y g.rest (subst (λ l. WellListed R (record { atoms = l; edges = [] })) q A)
            (p ∙ ap (λ l. graph_bytes (record { atoms = l; edges = [] }) ++ g.rest) q))
        go [] [] A f p = absurd (omega arith)

    -- the reading of a graph refuses by 12 alone
    pub graph_refuses : (x : Refusal) → graph_in R bs ≡ refused x → graph_in R bs ≡ refuse graph_field x.place
    graph_refuses x e =
        let (n, f, g) = graph_stops x e in
        let p : 1 + n ≡ x.place = ap place (sym f ∙ e) in
        f ∙ ap (refuse graph_field) p
      where
        place : Result Listed → ℕ
        place (ok s) = 0
        place (refused r) = r.place

    -- a graph is refused at field k exactly where that is its first wrong one
    pub graph_refused : (k : ℕ) → (graph_in R bs ≡ refuse graph_field k) ↔ WrongGraphField R bs k
    graph_refused zero = (
      (λ e. let (n, f, g) = graph_stops _ e in let p : 1 + n ≡ 0 = (same_refusal (sym f ∙ e)).1 in omega arith),
      (λ h. absurd h),
    )
    graph_refused (suc n) =
        let p : 1 + n ≡ suc n = omega arith in
        subst (λ j. (graph_in R bs ≡ refuse graph_field j) ↔ WrongGraphField R bs (suc n)) p
        (refused_at (graph_in R bs) graph_field 1 (GoodGraphFields R bs) (IsGraph R bs)
        (λ L e. let (q, A) = (graph_reading R bs L).0 e in record { listed = L; good = A; bytes = q })
        (λ i. (i.listed, (graph_reading R bs i.listed).1 (i.bytes, i.good)))
        graph_stops graph_not_before graph_fewer n)
