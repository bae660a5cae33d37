-- The graph reader accepts exactly the bytes of the execution graphs: it reads L from the bytes where they are the fields of L, events
-- and then edges, and L is as `GraphReading` says. So nothing is left unread and every execution graph can be given. The idea: the
-- fields read so far, and then the bytes still to be read, are always the whole of the bytes.
-- Assumes nothing.
use Prim.Native.Nat.{ℕ, zero, suc, ◌+◌, ◌≤◌, ◌<◌}
use native.Mathlib.Omega.{arith}
use mathlib.Core.Path.{◌≡◌, refl, sym, ◌∙◌, ap, subst}
use mathlib.Core.Logic.{◌↔◌}
use mathlib.Core.Bool.{Bool, true, false, ◌&&◌}
use mathlib.Core.List.{List, [], ◌∷◌, ◌++◌, append_assoc, append-nil}
use mathlib.Core.Option.{Option, some, none}
use lib.Dec.{eqb, ltb}
use lib.ListN.{length, take, drop, length-append}
use borrow.Author.Tests.{le-leb, eqb-true, lt-ltb}
use Rattle.kat.specs.Lists.{In, here, there, is_empty, some as some_of}
use Rattle.kat.proofs.Bools.{and_left, and_right, and_both, true_not_false, false_not_true, false_of_not}
use Rattle.kat.proofs.Sets.{some_in, in_append_right}
use Rattle.claims.specs.Fields.{Field, whole, cut, contents_of, next_field, after_field, provided, field, big_endian}
use Rattle.notation.specs.Refusals.{Result, ok, refuse, graph_field}
use Rattle.verdicts.specs.Verdicts.{Distinct}
use Rattle.claims.specs.GraphBytes.{Edge, Listed, same_edge, Ranges, with_event, with_edge, with_field, fields_in, graph_in}
use Rattle.claims.proofs.Provided.{provided_some}
use Rattle.claims.proofs.Bytes.{next_whole}
use Rattle.claims.proofs.GraphReading.{same_edge_lem, graph_accepted, more_event, more_edge, event_fits, edge_fits}
use Rattle.claims.specs.GraphWriting.{WellListed, joined, event_field, edge_field, graph_bytes, graph_fields}

joined_more : {A : Type 0} (f : A → List ℕ) (xs : List A) (x : A) → joined f (xs ++ (x ∷ [])) ≡ joined f xs ++ f x
joined_more f [] x = append-nil (f x)
joined_more f (y ∷ ys) x =
    ap (λ t. f y ++ t) (joined_more f ys x) ∙ sym (append_assoc (f y) (joined f ys) (f x))

next_event_lem : (bs : List ℕ) (a : ℕ) (rest : List ℕ) → next_field bs ≡ whole 1 (a ∷ []) rest → bs ≡ event_field a ++ rest
unfolding field big_endian
next_event_lem bs a rest e =
    let (h, l, p, n) = next_whole bs 1 (a ∷ []) rest e in
    let x : h ≡ 0 = omega arith in
    let y : l ≡ 1 = omega arith in
    p ∙ ap (λ u. 1 ∷ u ∷ l ∷ a ∷ rest) x ∙ ap (λ u. 1 ∷ 0 ∷ u ∷ a ∷ rest) y

next_edge : (bs : List ℕ) (e : Edge) (rest : List ℕ) → next_field bs ≡ whole 2 (e.relation ∷ e.from ∷ e.to ∷ []) rest
    → bs ≡ edge_field e ++ rest
unfolding field big_endian
next_edge bs e rest d =
    let (h, l, p, n) = next_whole bs 2 (e.relation ∷ e.from ∷ e.to ∷ []) rest d in
    let x : h ≡ 0 = omega arith in
    let y : l ≡ 3 = omega arith in
    p ∙ ap (λ u. 2 ∷ u ∷ l ∷ e.relation ∷ e.from ∷ e.to ∷ rest) x
    ∙ ap (λ u. 2 ∷ 0 ∷ u ∷ e.relation ∷ e.from ∷ e.to ∷ rest) y

-- H and then the rest are the same bytes as G and then bs, fewer bytes are left, and H has a field more
pub record Onward (G : Listed) (bs : List ℕ) (H : Listed) (rest : List ℕ) : Type 0 where
  pub same_bytes : graph_bytes G ++ bs ≡ graph_bytes H ++ rest
  pub fewer : length rest < length bs
  pub one_more : graph_fields H ≡ suc (graph_fields G)

field_longer : (tag : ℕ) (contents rest : List ℕ) → length rest < length (field tag contents ++ rest)
unfolding field
field_longer tag contents rest = simp length-append (omega arith)

pub event_on : (xs : List ℕ) (es : List Edge) (a : ℕ) (rest : List ℕ) → is_empty es ≡ true
    → let G : Listed = record { atoms = xs; edges = es } in Onward G (event_field a ++ rest) (more_event G a) rest
event_on xs [] a rest h =
    record {
      same_bytes = simp (append-nil, joined_more, append_assoc);
      fewer = field_longer 1 (a ∷ []) rest;
      one_more = omega (arith, length-append xs (a ∷ []));
    }
event_on xs (e ∷ es) a rest h = absurd (true_not_false h refl)

pub edge_on : (G : Listed) (e : Edge) (rest : List ℕ) → Onward G (edge_field e ++ rest) (more_edge G e) rest
edge_on G e rest =
    record {
      same_bytes = simp (joined_more, append_assoc);
      fewer = field_longer 2 (e.relation ∷ e.from ∷ e.to ∷ []) rest;
      one_more = omega (arith, length-append G.edges (e ∷ []));
    }

module _ (R : Ranges) where
  event_read : (G H : Listed) (bs contents rest : List ℕ) → next_field bs ≡ whole 1 contents rest
      → with_event R G contents ≡ some H → Onward G bs H rest
  unfolding with_event
  event_read G H bs [] rest f e = let z : ◌≡◌ {A = ℕ} 0 1 = cc in absurd (omega arith)
  event_read G H bs (a ∷ []) rest f e =
      let p : Bool = ltb a R.atoms in
      let q : Bool = is_empty G.edges in
      let r : Bool = ltb (length G.atoms) 64 in
      let (b, d) = provided_some (event_fits R G a) _ H e in
      subst (λ cs. Onward G cs H rest) (sym (next_event_lem bs a rest f))
      (subst (λ M. Onward G (event_field a ++ rest) M rest) d
      (event_on G.atoms G.edges a rest (and_right p q (and_left (p && q) r b))))
  event_read G H bs (a ∷ b ∷ cs) rest f e = let z : ◌≡◌ {A = ℕ} 0 1 = cc in absurd (omega arith)

  edge_read : (G H : Listed) (bs contents rest : List ℕ) → next_field bs ≡ whole 2 contents rest
      → with_edge R G contents ≡ some H → Onward G bs H rest
  unfolding with_edge
  edge_read G H bs [] rest f e = let z : ◌≡◌ {A = ℕ} 0 1 = cc in absurd (omega arith)
  edge_read G H bs (r ∷ []) rest f e = let z : ◌≡◌ {A = ℕ} 0 1 = cc in absurd (omega arith)
  edge_read G H bs (r ∷ x ∷ []) rest f e = let z : ◌≡◌ {A = ℕ} 0 1 = cc in absurd (omega arith)
  edge_read G H bs (r ∷ x ∷ y ∷ []) rest f e =
      let g : Edge = record { relation = r; from = x; to = y } in
      let (b, d) = provided_some (edge_fits R G g) _ H e in
      subst (λ cs. Onward G cs H rest) (sym (next_edge bs g rest f))
      (subst (λ M. Onward G (edge_field g ++ rest) M rest) d (edge_on G g rest))
  edge_read G H bs (r ∷ x ∷ y ∷ b ∷ cs) rest f e = let z : ◌≡◌ {A = ℕ} 0 1 = cc in absurd (omega arith)

  pub field_read : (G H : Listed) (bs : List ℕ) (f : Field) → next_field bs ≡ f → with_field R G f ≡ some H → Onward G bs H (after_field f)
  unfolding with_field
  field_read G H bs cut n e = let z : ◌≡◌ {A = ℕ} 0 1 = cc in absurd (omega arith)
  field_read G H bs (whole tag contents rest) n d = go (eqb tag 1) refl (eqb tag 2) refl d
    where
      go : (b : Bool) → eqb tag 1 ≡ b → (c : Bool) → eqb tag 2 ≡ c
          → elim b [ true ↦ with_event R G contents | false ↦ elim c [ true ↦ with_edge R G contents | false ↦ none ] ] ≡ some H
          → Onward G bs H rest
      go true p c q e =
          event_read G H bs contents rest (n ∙ ap (λ t. whole t contents rest) (eqb-true tag 1 p)) e
      go false p true q e =
          edge_read G H bs contents rest (n ∙ ap (λ t. whole t contents rest) (eqb-true tag 2 q)) e
      go false p false q e = let z : ◌≡◌ {A = ℕ} 0 1 = cc in absurd (omega arith)

  empty_nil : {A : Type 0} (l : List A) → is_empty l ≡ true → l ≡ []
  empty_nil [] e = refl
  empty_nil (x ∷ xs) e = absurd (true_not_false e refl)

  fields_read : (n k : ℕ) (G : Listed) (bs : List ℕ) (L : Listed) → length bs ≤ n → fields_in R n k G bs ≡ ok L
      → graph_bytes G ++ bs ≡ graph_bytes L
  unfolding fields_in
  fields_read zero k G [] L h e = let q : G ≡ L = cc in append-nil (graph_bytes G) ∙ ap graph_bytes q
  fields_read zero k G (b ∷ bs) L h e = absurd (omega arith)
  fields_read (suc n) k G bs L h e =
      go (is_empty bs) refl (with_field R G (next_field bs)) (λ H. field_read G H bs (next_field bs) refl)
      (λ H. fields_read n (suc k) H (after_field (next_field bs)) L) e
    where
      rest : List ℕ
      rest = after_field (next_field bs)

      go : (b : Bool) → is_empty bs ≡ b → (o : Option Listed) → ((H : Listed) → o ≡ some H → Onward G bs H rest)
          → ((H : Listed) → length rest ≤ n → fields_in R n (suc k) H rest ≡ ok L → graph_bytes H ++ rest ≡ graph_bytes L)
          → elim b [ true ↦ ok G | false ↦ elim o [ none ↦ refuse graph_field k | some H ↦ fields_in R n (suc k) H rest ] ] ≡ ok L
          → graph_bytes G ++ bs ≡ graph_bytes L
      go true p o f g d =
          let q : G ≡ L = cc in
          ap (λ t. graph_bytes G ++ t) (empty_nil bs p) ∙ append-nil (graph_bytes G) ∙ ap graph_bytes q
      go false p none f g d = let z : ◌≡◌ {A = ℕ} 0 1 = cc in absurd (omega arith)
      go false p (some H) f g d =
          let w : Onward G bs H rest = f H refl in
          w.same_bytes ∙ g H (omega arith) d

  -- the bytes read are those of the graph
  pub read_is_written : (bs : List ℕ) (L : Listed) → graph_in R bs ≡ ok L → bs ≡ graph_bytes L
  unfolding graph_in
  read_is_written bs L e = fields_read (length bs) 1 (record { atoms = []; edges = [] }) bs L (omega arith) e

-- a written field is read
contents_read : (t n : ℕ) (bs : List ℕ) → n ≤ length bs → contents_of t n bs ≡ whole t (take n bs) (drop n bs)
unfolding contents_of
contents_read t n bs h = rw (le-leb n (length bs) h, contents_of)

next_of_event : (a : ℕ) (rest : List ℕ) → next_field (event_field a ++ rest) ≡ whole 1 (a ∷ []) rest
unfolding field big_endian next_field
next_of_event a rest = contents_read 1 1 (a ∷ rest) (omega arith)

next_of_edge : (e : Edge) (rest : List ℕ)
    → next_field (edge_field e ++ rest) ≡ whole 2 (e.relation ∷ e.from ∷ e.to ∷ []) rest
unfolding field big_endian next_field
next_of_edge e rest = contents_read 2 3 (e.relation ∷ e.from ∷ e.to ∷ rest) (omega arith)

field_not_empty : (tag : ℕ) (contents rest : List ℕ) → is_empty (field tag contents ++ rest) ≡ false
unfolding field
field_not_empty tag contents rest = refl

distinct_not_before : {A : Type 0} (l : List A) {x : A} (m : List A) → Distinct (l ++ (x ∷ m)) → In x l → ⊥
distinct_not_before (y ∷ ys) m (h, d) (here e) = h (in_append_right ys (here (sym e)))
distinct_not_before (y ∷ ys) m (h, d) (there i) = distinct_not_before ys m d i
distinct_not_before {A = A} [] m _ x5 = elim x5 [ ]

module _ (R : Ranges) where
  one_field : (n k : ℕ) (G H : Listed) (bs : List ℕ) (f : Field) → is_empty bs ≡ false → next_field bs ≡ f → with_field R G f ≡ some H
      → fields_in R (suc n) k G bs ≡ fields_in R n (suc k) H (after_field f)
  unfolding fields_in
  one_field n k G H bs f h p q = (λ i. turn (h i) (p i) (with_field R G (p i))) ∙ ap (turn false f) q
    where
      turn : Bool → Field → Option Listed → Result Listed
      turn b g o =
          elim b [
            | true ↦ ok G
            | false ↦ elim o [ none ↦ refuse graph_field k | some M ↦ fields_in R n (suc k) M (after_field g) ]
          ]

  one_event : (n k : ℕ) (G : Listed) (a : ℕ) (rest : List ℕ) → event_fits R G a ≡ true
      → fields_in R (suc n) k G (event_field a ++ rest)
      ≡ fields_in R n (suc k) (more_event G a) rest
  unfolding with_field with_event
  one_event n k G a rest h =
      one_field n k G (more_event G a) (event_field a ++ rest) (whole 1 (a ∷ []) rest)
      (field_not_empty 1 (a ∷ []) rest) (next_of_event a rest) (ap (λ b. provided b (more_event G a)) h)

  one_edge : (n k : ℕ) (G : Listed) (e : Edge) (rest : List ℕ) → edge_fits R G e ≡ true
      → fields_in R (suc n) k G (edge_field e ++ rest)
      ≡ fields_in R n (suc k) (more_edge G e) rest
  unfolding with_field with_edge
  one_edge n k G e rest h =
      one_field n k G (more_edge G e) (edge_field e ++ rest)
      (whole 2 (e.relation ∷ e.from ∷ e.to ∷ []) rest)
      (field_not_empty 2 (e.relation ∷ e.from ∷ e.to ∷ []) rest) (next_of_edge e rest) (ap (λ b. provided b (more_edge G e)) h)

  no_field : (n k : ℕ) (G : Listed) → fields_in R n k G [] ≡ ok G
  unfolding fields_in
  no_field zero k G = refl
  no_field (suc n) k G = refl

  module _ (L : Listed) (A : WellListed R L) where
    -- the reading of bytes after the graph G comes, k fields later, to the rest after L
    abbrev ReadOn : ℕ → ℕ → Listed → List ℕ → ℕ → List ℕ → Type 0
    ReadOn n k G bs count rest = (m : ℕ) × (length rest ≤ m) × (fields_in R n k G bs ≡ fields_in R m (k + count) L rest)

    edge_fits_lem : (done es : List Edge) (e : Edge) → L.edges ≡ done ++ (e ∷ es)
        → edge_fits R (record { atoms = L.atoms; edges = done }) e ≡ true
    edge_fits_lem done es e p =
        let i : In e L.edges = subst (In e) (sym p) (in_append_right done (here refl)) in
        and_both
        (and_both
        (and_both (lt-ltb e.relation R.relations (A.edges_known e i))
        (lt-ltb e.from (length L.atoms) (A.from_event e i)))
        (lt-ltb e.to (length L.atoms) (A.to_event e i)))
        (false_not_true (false_of_not (some_of (same_edge e) done) fresh))
      where
        fresh : some_of (same_edge e) done ≡ true → ⊥
        fresh h =
            let (f, i, s) = some_in (same_edge e) done h in
            distinct_not_before done es (subst Distinct p A.once_each) (subst (λ g. In g done) (sym (same_edge_lem e f s)) i)

    edges_read_on : (es done : List Edge) → L.edges ≡ done ++ es → (n k : ℕ) (rest : List ℕ) → length (joined edge_field es ++ rest) ≤ n
        → ReadOn n k (record { atoms = L.atoms; edges = done }) (joined edge_field es ++ rest) (length es) rest
    edges_read_on [] done p n k rest h =
        let q : done ≡ L.edges = sym (append-nil done) ∙ sym p in
        let z : k ≡ k + 0 = omega arith in
        (n, h, λ i. fields_in R n (z i) (record { atoms = L.atoms; edges = q i }) rest)
    edges_read_on (e ∷ es) done p zero k rest h =
        absurd (omega (arith, field_longer 2 (e.relation ∷ e.from ∷ e.to ∷ []) (joined edge_field es ++ rest), ap length (append_assoc (edge_field e) (joined edge_field es) rest)))
    edges_read_on (e ∷ es) done p (suc n) k rest h =
        let apart : joined edge_field (e ∷ es) ++ rest ≡ edge_field e ++ (joined edge_field es ++ rest) =
        append_assoc (edge_field e) (joined edge_field es) rest in
        let l = field_longer 2 (e.relation ∷ e.from ∷ e.to ∷ []) (joined edge_field es ++ rest) in
        let (m, f, g) =
        edges_read_on es (done ++ (e ∷ [])) (p ∙ sym (append_assoc done (e ∷ []) es)) n (suc k) rest (omega (arith, ap length apart)) in
        let z : suc k + length es ≡ k + length (e ∷ es) = omega arith in (
          m,
          f,
          ap (fields_in R (suc n) k (record { atoms = L.atoms; edges = done })) apart
              ∙ one_edge n k (record { atoms = L.atoms; edges = done }) e (joined edge_field es ++ rest) (edge_fits_lem done es e p)
              ∙ g ∙ ap (λ j. fields_in R m j L rest) z,
        )

    event_fits_lem : (done xs : List ℕ) (a : ℕ) → L.atoms ≡ done ++ (a ∷ xs)
        → event_fits R (record { atoms = done; edges = [] }) a ≡ true
    event_fits_lem done xs a p =
        let i : In a L.atoms = subst (In a) (sym p) (in_append_right done (here refl)) in
        let m : length (done ++ (a ∷ xs)) ≤ 64 = subst (λ l. length l ≤ 64) p A.at_most_64 in
        and_both (and_both (lt-ltb a R.atoms (A.atoms_known a i)) refl)
        (lt-ltb (length done) 64 (omega (arith, length-append done (a ∷ xs))))

    events_read_on : (xs done : List ℕ) → L.atoms ≡ done ++ xs → (n k : ℕ) (rest : List ℕ)
        → length (joined event_field xs ++ (joined edge_field L.edges ++ rest)) ≤ n
        → ReadOn n k (record { atoms = done; edges = [] }) (joined event_field xs ++ (joined edge_field L.edges ++ rest))
        (length xs + length L.edges) rest
    events_read_on [] done p n k rest h =
        let z : length L.edges ≡ length (let none : List ℕ = [] in none) + length L.edges = omega arith in
        subst (λ c. ReadOn n k (record { atoms = done; edges = [] }) (joined edge_field L.edges ++ rest) c rest) z
        (subst (λ l. ReadOn n k (record { atoms = l; edges = [] }) (joined edge_field L.edges ++ rest) (length L.edges) rest)
        (p ∙ append-nil done) (edges_read_on L.edges [] refl n k rest h))
    events_read_on (x ∷ xs) done p zero k rest h =
        let behind : List ℕ = joined edge_field L.edges ++ rest in
        absurd (omega (arith, field_longer 1 (x ∷ []) (joined event_field xs ++ behind), ap length (append_assoc (event_field x) (joined event_field xs) behind)))
    events_read_on (x ∷ xs) done p (suc n) k rest h =
        let behind : List ℕ = joined edge_field L.edges ++ rest in
        let apart : joined event_field (x ∷ xs) ++ behind ≡ event_field x ++ (joined event_field xs ++ behind) =
        append_assoc (event_field x) (joined event_field xs) behind in
        let l = field_longer 1 (x ∷ []) (joined event_field xs ++ behind) in
        let (m, f, g) =
        events_read_on xs (done ++ (x ∷ [])) (p ∙ sym (append_assoc done (x ∷ []) xs)) n (suc k) rest (omega (arith, ap length apart)) in
        let z : suc k + (length xs + length L.edges) ≡ k + (length (x ∷ xs) + length L.edges) = omega arith in (
          m,
          f,
          ap (fields_in R (suc n) k (record { atoms = done; edges = [] })) apart
              ∙ one_event n k (record { atoms = done; edges = [] }) x (joined event_field xs ++ behind) (event_fits_lem done xs x p)
              ∙ g ∙ ap (λ j. fields_in R m j L rest) z,
        )

    -- the bytes of an execution graph are read as that graph, whatever stands behind them
    pub graph_read_on : (rest : List ℕ)
        → (m : ℕ) × (length rest ≤ m) × (graph_in R (graph_bytes L ++ rest) ≡ fields_in R m (1 + (length L.atoms + length L.edges)) L rest)
    unfolding graph_in
    graph_read_on rest =
        let apart : graph_bytes L ++ rest ≡ joined event_field L.atoms ++ (joined edge_field L.edges ++ rest) =
        append_assoc (joined event_field L.atoms) (joined edge_field L.edges) rest in
        let (m, f, g) = events_read_on L.atoms [] refl (length (graph_bytes L ++ rest)) 1 rest (omega (arith, ap length apart)) in
        (m, f, ap (fields_in R (length (graph_bytes L ++ rest)) 1 (record { atoms = []; edges = [] })) apart ∙ g)

  pub written_is_read : (L : Listed) → WellListed R L → graph_in R (graph_bytes L) ≡ ok L
  written_is_read L A =
      let (m, f, g) = graph_read_on L A [] in
      ap (graph_in R) (sym (append-nil (graph_bytes L))) ∙ g ∙ no_field m _ L

  pub graph_reading : (bs : List ℕ) (L : Listed) → (graph_in R bs ≡ ok L) ↔ ((bs ≡ graph_bytes L) × WellListed R L)
  graph_reading bs L = (
    (λ e. (read_is_written R bs L e, graph_accepted R bs L e)),
    (λ (p, A). ap (graph_in R) p ∙ written_is_read L A),
  )
