-- Sheets against the judge, all as bytes, for "refuted": where the sheet check passes the sheet as refuted and the graph drawn from its word
-- has at most 64 events, the judge, given the bytes of that graph, answers with its judgement: line 0 and the claim broken. With
-- `passing_proved_called_to_hold` of `Demand3` this is the third demand on bytes. And the judge answers so on every execution graph of at
-- most 64 events. The idea: the bytes of the listed form of a graph are read as it, and it is judged as the graph is.
-- Assumes nothing.
use Prim.Native.Nat.{ℕ, suc, ◌<◌, ◌≤◌}
use native.Mathlib.Omega.{arith}
use mathlib.Core.Path.{◌≡◌, refl, ◌∙◌, ap}
use mathlib.Core.Logic.{⊎_elim}
use mathlib.Core.Bool.{true, false}
use mathlib.Core.List.{List, [], ◌∷◌}
use lib.ListN.{length}
use Rattle.kat.specs.Lists.{In, here, there}
use Rattle.kat.specs.Graph.{Finite, graph}
use Rattle.kat.specs.Word.{Word, end, at, size}
use Rattle.kat.proofs.Sets.{in_append}
use Rattle.notation.specs.Query.{Query, atoms, relations}
use Rattle.notation.specs.Sides.{Decision}
use Rattle.notation.specs.Refusals.{ok}
use Rattle.claims.specs.Calls.{Asked, asked, passed_refuted, check_call, judge_call}
use Rattle.claims.specs.Judgement.{holds_in, judgement}
use Rattle.claims.specs.Drawn.{drawn, filled, steps_of, ring_atoms}
use Rattle.claims.specs.GraphBytes.{Edge, Listed, Ranges, finite}
use Rattle.claims.specs.GraphWriting.{WellListed, joined, event_field, edge_field, graph_bytes, listed_of}
use Rattle.claims.specs.Meaning.{Execution}
use Rattle.claims.specs.Sheets.{SaysRefuted}
use Rattle.claims.specs.SheetWriting.{AllBytes}
use Rattle.claims.proofs.SheetOfBytes.{bytes_cons, bytes_nil, field_bytes}
use Rattle.claims.proofs.Limits.{WithinLimits, asked_within_limits}
use Rattle.claims.proofs.GraphReading.{ranges_of, accepted_is_execution}
use Rattle.claims.proofs.GraphWritten.{written_is_read}
use Rattle.claims.proofs.Judging.{judgement_is_meaning}
use Rattle.claims.proofs.JudgeCall.{IsAsked, asked_is, decided_ranges_lem, meaning_is_judge_call}
use Rattle.claims.proofs.Laid.{line_length, inner_length}
use Rattle.claims.proofs.ListedGraph.{listed_well, listed_judged_the_same}
use Rattle.claims.proofs.Demand3.{passing_refuted_judged_to_break}

joined_bytes : {A : Type 0} (f : A → List ℕ) (xs : List A) → ((x : A) → In x xs → AllBytes (f x)) → AllBytes (joined f xs)
joined_bytes f [] h b i = elim i [ ]
joined_bytes f (x ∷ xs) h b i =
    ⊎_elim (h x (here refl) b) (joined_bytes f xs (λ y j. h y (there j)) b) (in_append (f x) i)

-- each number of the fields of a graph is a byte
pub graph_bytes_lem : (R : Ranges) (L : Listed) → R.atoms ≤ 256 → R.relations ≤ 256 → WellListed R L → AllBytes (graph_bytes L)
graph_bytes_lem R L h k A b i =
    ⊎_elim (joined_bytes event_field L.atoms event b) (joined_bytes edge_field L.edges edge b)
    (in_append (joined event_field L.atoms) i)
  where
    event : (x : ℕ) → In x L.atoms → AllBytes (event_field x)
    event x j = field_bytes 1 (x ∷ []) (omega arith) (bytes_cons x [] (omega (arith, A.atoms_known x j)) bytes_nil)

    edge : (e : Edge) → In e L.edges → AllBytes (edge_field e)
    edge e j =
        field_bytes 2 (e.relation ∷ e.from ∷ e.to ∷ []) (omega arith)
        (bytes_cons e.relation (e.from ∷ e.to ∷ []) (omega (arith, A.edges_known e j))
        (bytes_cons e.from (e.to ∷ []) (omega (arith, A.from_event e j, A.at_most_64))
        (bytes_cons e.to [] (omega (arith, A.to_event e j, A.at_most_64)) bytes_nil)))

-- how many events a drawn graph has
pub drawn_path_events : (q : Query) (w : Word) → length (drawn q false w).atoms ≡ suc (size w)
unfolding drawn filled finite steps_of
drawn_path_events q w = line_length w

pub drawn_ring_events : (q : Query) (w : Word) → 0 < size w → length (drawn q true w).atoms ≡ size w
unfolding drawn filled finite steps_of ring_atoms
drawn_ring_events q (end a) h = absurd (omega arith)
drawn_ring_events q (at a r w) h = ap suc (inner_length w)

module _ (bs : List ℕ) (a : Asked) (accepted : asked bs ≡ ok a) where
  -- the judge answers on the bytes of a well-listed graph, with its judgement
  pub listed_is_judged : (L : Listed) → WellListed (ranges_of a.query) L
      → judge_call bs (graph_bytes L) ≡ ok (judgement (finite L) a.query a.claim)
  listed_is_judged L A =
      let i : IsAsked bs a = asked_is bs a accepted in
      meaning_is_judge_call bs (graph_bytes L) (judgement (finite L) a.query a.claim) (record {
        query = a.query;
        claim = a.claim;
        listed = L;
        reads = i.reads;
        claims = i.claims;
        asks = accepted ∙ (λ k. ok (record { query = a.query; claim = a.claim; decided = i.decides k }));
        lists = written_is_read (ranges_of a.query) L A;
        accepted = A;
        execution = accepted_is_execution a.query L A;
        answer = refl;
        meaning = judgement_is_meaning (finite L) a.query (accepted_is_execution a.query L A).1 a.claim;
      })

  -- an execution graph of at most 64 events is judged, by its bytes, as it is
  pub graph_is_judged : (G : Finite) → Execution (graph G) a.query → length G.atoms ≤ 64
      → judge_call bs (graph_bytes (listed_of G (length (relations a.query)))) ≡ ok (judgement G a.query a.claim)
  graph_is_judged G x few =
      listed_is_judged (listed_of G (length (relations a.query))) (listed_well a.query G x few)
      ∙ ap ok (listed_judged_the_same a.query G x a.claim)

  -- and its bytes are bytes
  pub graph_is_bytes : (G : Finite) → Execution (graph G) a.query → length G.atoms ≤ 64
      → (b : ℕ) → In b (graph_bytes (listed_of G (length (relations a.query)))) → b < 256
  graph_is_bytes G x few =
      let i : IsAsked bs a = asked_is bs a accepted in
      let within : WithinLimits a.decided = asked_within_limits bs accepted in
      let p : a.decided.atoms ≡ atoms a.query =
      ap (λ (D : Decision). D.atoms) i.decides ∙ ap (λ (R : Ranges). R.atoms) (decided_ranges_lem a.query a.claim)
      in
      let r : a.decided.relations ≡ length (relations a.query) =
      ap (λ (D : Decision). D.relations) i.decides ∙ ap (λ (R : Ranges). R.relations) (decided_ranges_lem a.query a.claim)
      in
      graph_bytes_lem (ranges_of a.query) (listed_of G (length (relations a.query)))
      (omega (arith, p, within.atoms)) (omega (arith, r, within.relations)) (listed_well a.query G x few)

  -- a sheet that passes as refuted: the judge, given the bytes of the graph drawn from its word, answers line 0 and a broken claim
  pub passing_refuted_called_to_break : (sheet : List ℕ) → check_call bs sheet ≡ ok passed_refuted
      → (w : Word) × SaysRefuted a.decided sheet w
      × (length (drawn a.query a.decided.ring w).atoms ≤ 64
      → ((b : ℕ) → In b (graph_bytes (listed_of (drawn a.query a.decided.ring w) (length (relations a.query)))) → b < 256)
      × (judge_call bs (graph_bytes (listed_of (drawn a.query a.decided.ring w) (length (relations a.query))))
      ≡ ok (judgement (drawn a.query a.decided.ring w) a.query a.claim))
      × ((judgement (drawn a.query a.decided.ring w) a.query a.claim).line ≡ 0)
      × ((judgement (drawn a.query a.decided.ring w) a.query a.claim).outcome ≡ holds_in → ⊥))
  passing_refuted_called_to_break sheet e =
      let (w, s, x, line, breaks) = passing_refuted_judged_to_break bs a accepted sheet e in
      let G : Finite = drawn a.query a.decided.ring w in
      (w, s, λ few. (graph_is_bytes G x few, graph_is_judged G x few, line, breaks))
