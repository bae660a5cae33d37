-- What the graph reader accepts is an execution graph of the query: each event has one of its atoms, each edge is of one of its
-- relations and between events that there are, no edge is listed twice, and there are at most 64 events. This is what `Judging` asks
-- of a graph. The idea: each field that is read keeps these facts of what was read so far.
-- Assumes nothing.
use Prim.Native.Nat.{ℕ, zero, suc, ◌<◌, zero-le}
use native.Mathlib.Omega.{arith}
use mathlib.Core.Path.{◌≡◌, refl, sym, ◌∙◌, ap, subst}
use mathlib.Core.Logic.{◌⊎◌, ◌↔◌, ⊎_elim}
use mathlib.Core.Logic.◌⊎◌.{inl, inr}
use mathlib.Core.Bool.{Bool, true, false, not, ◌&&◌}
use mathlib.Core.List.{List, [], ◌∷◌, ◌++◌}
use mathlib.Core.Option.{Option, some, none}
use lib.Dec.{eqb, ltb, ltb→lt}
use lib.ListN.{length, get_or, length-append}
use borrow.Author.Tests.{ltb-true, eqb-true, eq-eqb}
use Rattle.kat.specs.Lists.{In, here, there, is_empty, some as some_of}
use Rattle.kat.specs.Graph.{graph}
use Rattle.kat.proofs.Bools.{true_not_false, and_left, and_right, and_both, not_true_false}
use Rattle.kat.proofs.Sets.{some_in, in_some, in_append}
use Rattle.claims.specs.Fields.{Field, whole, cut, next_field, after_field, provided}
use Rattle.notation.specs.Refusals.{ok, refuse, graph_field}
use Rattle.notation.specs.Query.{Query, atoms, relations}
use Rattle.claims.specs.Meaning.{Execution}
use Rattle.verdicts.specs.Verdicts.{Distinct}
use Rattle.claims.specs.GraphBytes.{Edge, Listed, same_edge, Ranges, with_event, with_edge, with_field, fields_in, graph_in, finite}
use Rattle.claims.proofs.Provided.{provided_some}
use Rattle.claims.specs.GraphWriting.{WellListed}

-- the test on edges is equality
pub same_edge_lem : (e f : Edge) → same_edge e f ≡ true → e ≡ f
unfolding same_edge
same_edge_lem e f h =
    let r : Bool = eqb e.relation f.relation in
    let x : Bool = eqb e.from f.from in
    let y : Bool = eqb e.to f.to in
    let p : e.relation ≡ f.relation = eqb-true e.relation f.relation (and_left r x (and_left (r && x) y h)) in
    let s : e.from ≡ f.from = eqb-true e.from f.from (and_right r x (and_left (r && x) y h)) in
    let t : e.to ≡ f.to = eqb-true e.to f.to (and_right (r && x) y h) in
    (λ i. record { relation = p i; from = s i; to = t i })

pub edge_same : (e f : Edge) → e ≡ f → same_edge e f ≡ true
unfolding same_edge
edge_same e f p =
    and_both
    (and_both (eq-eqb e.relation f.relation (ap (λ g. g.relation) p)) (eq-eqb e.from f.from (ap (λ g. g.from) p)))
    (eq-eqb e.to f.to (ap (λ g. g.to) p))

-- the edges of the graph are the listed ones
pub edge_is_listed : (L : Listed) (r x y : ℕ)
    → ((finite L).edges r x y ≡ true) ↔ In (let e : Edge = record { relation = r; from = x; to = y } in e) L.edges
unfolding finite
edge_is_listed L r x y =
    let e : Edge = record { relation = r; from = x; to = y } in (
      (λ h. let (f, i, s) = some_in (same_edge e) L.edges h in subst (λ g. In g L.edges) (sym (same_edge_lem e f s)) i),
      (λ i. in_some (same_edge e) i (edge_same e e refl)),
    )

pub in_one_more : {A : Type 0} {x y : A} (l : List A) → In x (l ++ (y ∷ [])) → In x l ⊎ (x ≡ y)
in_one_more {x = x} {y = y} l i = ⊎_elim (λ h. inl h) (λ h. inr (only h)) (in_append l i)
  where
    only : In x (y ∷ []) → x ≡ y
    only (here e) = e
    only (there j) = elim j [ ]

pub distinct_one_more : {A : Type 0} {x : A} (l : List A) → Distinct l → (In x l → ⊥) → Distinct (l ++ (x ∷ []))
distinct_one_more [] d n = ((λ i. elim i [ ]), tt)
distinct_one_more (y ∷ ys) (h, d) n = (
  (λ i. ⊎_elim h (λ e. n (here (sym e))) (in_one_more ys i)),
  distinct_one_more ys d (λ i. n (there i)),
)

none_in : {A : Type 0} (l : List A) {x : A} → is_empty l ≡ true → In x l → ⊥
none_in [] e i = elim i [ ]
none_in (y ∷ ys) e i = true_not_false e refl

pub get_d_in : {A : Type 0} (l : List A) (x : ℕ) (d : A) → x < length l → In (get_or l x d) l
get_d_in [] x d h = absurd (omega arith)
get_d_in (y ∷ ys) zero d h = here refl
get_d_in (y ∷ ys) (suc x) d h = there (get_d_in ys x d (omega arith))

length_one_more : {A : Type 0} (l : List A) (x : A) → length (l ++ (x ∷ [])) ≡ suc (length l)
length_one_more l x = length-append l (x ∷ []) ∙ omega arith

-- one more event, and one more edge
abbrev pub more_event : Listed → ℕ → Listed
more_event L a = record { atoms = L.atoms ++ (a ∷ []); edges = L.edges }

abbrev pub more_edge : Listed → Edge → Listed
more_edge L e = record { atoms = L.atoms; edges = L.edges ++ (e ∷ []) }

-- the tests of the reader on one more event, and on one more edge
abbrev pub event_fits : Ranges → Listed → ℕ → Bool
event_fits R L a = ltb a R.atoms && is_empty L.edges && ltb (length L.atoms) 64

abbrev pub edge_fits : Ranges → Listed → Edge → Bool
edge_fits R L e =
    ltb e.relation R.relations && ltb e.from (length L.atoms) && ltb e.to (length L.atoms)
    && not (some_of (same_edge e) L.edges)

module _ (R : Ranges) where
  pub nothing_accepted : WellListed R (record { atoms = []; edges = [] })
  nothing_accepted =
      record {
        atoms_known = λ a i. elim i [ ];
        edges_known = λ e i. elim i [ ];
        from_event = λ e i. elim i [ ];
        to_event = λ e i. elim i [ ];
        at_most_64 = zero-le;
        once_each = tt;
      }

  event_accepted : (L : Listed) (a : ℕ) → WellListed R L → event_fits R L a ≡ true
      → WellListed R (more_event L a)
  event_accepted L a A e =
      let p : Bool = ltb a R.atoms in
      let q : Bool = is_empty L.edges in
      let r : Bool = ltb (length L.atoms) 64 in
      let known : a < R.atoms = ltb-true a R.atoms (and_left p q (and_left (p && q) r e)) in
      let no_edge : is_empty L.edges ≡ true = and_right p q (and_left (p && q) r e) in
      let few : length L.atoms < 64 = ltb-true (length L.atoms) 64 (and_right (p && q) r e) in
      record {
        atoms_known = λ b i. ⊎_elim (A.atoms_known b) (λ h. subst (λ c. c < R.atoms) (sym h) known) (in_one_more L.atoms i);
        edges_known = A.edges_known;
        from_event = λ f i. absurd (none_in L.edges no_edge i);
        to_event = λ f i. absurd (none_in L.edges no_edge i);
        at_most_64 = rw length_one_more few;
        once_each = A.once_each;
      }

  edge_accepted : (L : Listed) (e : Edge) → WellListed R L → edge_fits R L e ≡ true
      → WellListed R (more_edge L e)
  edge_accepted L e A h =
      let p : Bool = ltb e.relation R.relations in
      let q : Bool = ltb e.from (length L.atoms) in
      let r : Bool = ltb e.to (length L.atoms) in
      let s : Bool = not (some_of (same_edge e) L.edges) in
      let pq : (p && q) ≡ true = and_left (p && q) r (and_left (p && q && r) s h) in
      let known : e.relation < R.relations = ltb-true e.relation R.relations (and_left p q pq) in
      let starts : e.from < length L.atoms = ltb-true e.from (length L.atoms) (and_right p q pq) in
      let ends : e.to < length L.atoms =
      ltb-true e.to (length L.atoms) (and_right (p && q) r (and_left (p && q && r) s h))
      in
      let fresh : some_of (same_edge e) L.edges ≡ false =
      not_true_false (some_of (same_edge e) L.edges) (and_right (p && q && r) s h)
      in
      record {
        atoms_known = A.atoms_known;
        edges_known = λ f i.
            ⊎_elim (A.edges_known f) (λ h. subst (λ g. g.relation < R.relations) (sym h) known) (in_one_more L.edges i);
        from_event = λ f i.
            ⊎_elim (A.from_event f) (λ h. subst (λ g. g.from < length L.atoms) (sym h) starts) (in_one_more L.edges i);
        to_event = λ f i.
            ⊎_elim (A.to_event f) (λ h. subst (λ g. g.to < length L.atoms) (sym h) ends) (in_one_more L.edges i);
        at_most_64 = A.at_most_64;
        once_each = distinct_one_more L.edges A.once_each
            (λ i. true_not_false (in_some (same_edge e) i (edge_same e e refl)) fresh);
      }

  abbrev pub Kept : Listed → Option Listed → Type 0
  Kept L o = WellListed R L → (H : Listed) → o ≡ some H → WellListed R H

  kept_none : (L : Listed) → Kept L none
  kept_none L A H e = let z : ◌≡◌ {A = ℕ} 0 1 = cc in absurd (omega arith)

  kept_provided : (L M : Listed) (b : Bool) → (WellListed R L → b ≡ true → WellListed R M) → Kept L (provided b M)
  kept_provided L M b k A H e = let (p, q) = provided_some b M H e in subst (WellListed R) q (k A p)

  with_event_lem : (L : Listed) (bs : List ℕ) → Kept L (with_event R L bs)
  unfolding with_event
  with_event_lem L [] = kept_none L
  with_event_lem L (a ∷ []) = kept_provided L _ _ (event_accepted L a)
  with_event_lem L (a ∷ b ∷ bs) = kept_none L

  with_edge_lem : (L : Listed) (bs : List ℕ) → Kept L (with_edge R L bs)
  unfolding with_edge
  with_edge_lem L [] = kept_none L
  with_edge_lem L (r ∷ []) = kept_none L
  with_edge_lem L (r ∷ x ∷ []) = kept_none L
  with_edge_lem L (r ∷ x ∷ y ∷ []) = kept_provided L _ _ (edge_accepted L (record { relation = r; from = x; to = y }))
  with_edge_lem L (r ∷ x ∷ y ∷ b ∷ bs) = kept_none L

  pub with_field_lem : (L : Listed) (f : Field) → Kept L (with_field R L f)
  unfolding with_field
  with_field_lem L cut = kept_none L
  with_field_lem L (whole tag contents rest) = go (eqb tag 1) (eqb tag 2)
    where
      go : (b c : Bool)
          → Kept L (elim b [ true ↦ with_event R L contents | false ↦ elim c [ true ↦ with_edge R L contents | false ↦ none ] ])
      go true c = with_event_lem L contents
      go false true = with_edge_lem L contents
      go false false = kept_none L

  fields_accepted : (n k : ℕ) (L : Listed) (bs : List ℕ) → WellListed R L → (H : Listed) → fields_in R n k L bs ≡ ok H → WellListed R H
  unfolding fields_in
  fields_accepted zero k L bs A H e = let p : L ≡ H = cc in subst (WellListed R) p A
  fields_accepted (suc n) k L bs A H e =
      go (is_empty bs) (with_field R L (next_field bs)) (with_field_lem L (next_field bs) A)
      (λ M B d. fields_accepted n (suc k) M (after_field (next_field bs)) B H d) e
    where
      go : (b : Bool) (o : Option Listed) → ((M : Listed) → o ≡ some M → WellListed R M)
          → ((M : Listed) → WellListed R M → fields_in R n (suc k) M (after_field (next_field bs)) ≡ ok H → WellListed R H)
          → elim b [
            | true ↦ ok L
            | false ↦ elim o [
              | none ↦ refuse graph_field k
              | some M ↦ fields_in R n (suc k) M (after_field (next_field bs))
            ]
          ]
          ≡ ok H → WellListed R H
      go true o f g d = let p : L ≡ H = cc in subst (WellListed R) p A
      go false none f g d = let z : ◌≡◌ {A = ℕ} 0 1 = cc in absurd (omega arith)
      go false (some M) f g d = g M (f M refl) d

  pub graph_accepted : (bs : List ℕ) (L : Listed) → graph_in R bs ≡ ok L → WellListed R L
  unfolding graph_in
  graph_accepted bs L e = fields_accepted (length bs) 1 (record { atoms = []; edges = [] }) bs nothing_accepted L e

-- how many atoms and relations a query has
abbrev pub ranges_of : Query → Ranges
ranges_of q = record { atoms = atoms q; relations = length (relations q) }

module _ (q : Query) (L : Listed) (A : WellListed (ranges_of q) L) where
  -- each edge of the graph is of one of the query's relations, as `Judging` asks
  pub edges_of_relations : (r x y : ℕ) → (finite L).edges r x y ≡ true → r < length (relations q)
  edges_of_relations r x y h = A.edges_known _ ((edge_is_listed L r x y).0 h)

  pub accepted_is_execution : Execution (graph (finite L)) q
  unfolding finite
  accepted_is_execution = (
    (λ x. A.atoms_known (get_or L.atoms x.0 0)
        (get_d_in L.atoms x.0 0 (ltb→lt x.0 (length L.atoms) x.1))),
    (λ r x y h. edges_of_relations r x.0 y.0 h),
  )
