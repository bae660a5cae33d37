-- The answer of the judge's call is the meaning of the graph: where the call answers, the bytes are an accepted query with a claim and
-- an execution graph of that query, and the answer is the judgement of that graph, with all that `Judging` says of it. The idea: the
-- call's answer comes from its parts' answers, which are taken apart one by one.
-- Assumes nothing.
use Prim.Native.Nat.{ℕ}
use mathlib.Core.Path.{◌≡◌, refl, sym, ◌∙◌, ap, subst}
use mathlib.Core.List.{List}
use mathlib.Core.Option.{some}
use Rattle.kat.specs.Graph.{graph}
use Rattle.notation.specs.Tree.{Claim, includes, empty, irreflexive}
use Rattle.notation.specs.Query.{Query, atoms, relations}
use Rattle.notation.specs.Sides.{Decision, decision}
use Rattle.notation.specs.Reading.{read, claim_of}
use Rattle.notation.specs.Refusals.{Result, ok, afterwards}
use Rattle.claims.specs.Meaning.{Execution}
use Rattle.claims.specs.GraphBytes.{Listed, Ranges, graph_in, finite}
use Rattle.claims.specs.Judgement.{Judgement, judgement}
use Rattle.claims.specs.Calls.{Asked, asked, judge_call}
use Rattle.claims.proofs.Limits.{asked_read}
use Rattle.notation.proofs.Results.{onward_ok}
use Rattle.claims.proofs.Judging.{judgement_is_meaning}
use Rattle.claims.specs.Judgements.{JudgementIsMeaning}
use Rattle.claims.proofs.GraphReading.{ranges_of, graph_accepted, accepted_is_execution}
use Rattle.claims.specs.GraphWriting.{WellListed}

-- what was asked is what was read, its claim, and their decision
pub record IsAsked (bs : List ℕ) (a : Asked) : Type 0 where
  pub reads : read bs ≡ ok a.query
  pub claims : claim_of a.query ≡ some a.claim
  pub decides : a.decided ≡ decision a.query a.claim

pub asked_is : (bs : List ℕ) (a : Asked) → asked bs ≡ ok a → IsAsked bs a
asked_is bs a e = let (r, c, d) = asked_read bs e in record { reads = r; claims = c; decides = d }

-- the ranges of a decision are the query's
abbrev pub decided_ranges : Decision → Ranges
decided_ranges D = record { atoms = D.atoms; relations = D.relations }

pub decided_ranges_lem : (q : Query) (c : Claim) → decided_ranges (decision q c) ≡ ranges_of q
unfolding decision
decided_ranges_lem q (includes e f) = refl
decided_ranges_lem q (empty e) = refl
decided_ranges_lem q (irreflexive e) = refl

-- what an answer of the judge's call is
pub record Judged (bs gs : List ℕ) (j : Judgement) : Type 0 where
  pub query : Query
  pub claim : Claim
  pub listed : Listed
  pub reads : read bs ≡ ok query
  pub claims : claim_of query ≡ some claim
  pub asks : asked bs ≡ ok (record { query = query; claim = claim; decided = decision query claim })
  pub lists : graph_in (ranges_of query) gs ≡ ok listed
  pub accepted : WellListed (ranges_of query) listed
  pub execution : Execution (graph (finite listed)) query
  pub answer : j ≡ judgement (finite listed) query claim
  pub meaning : JudgementIsMeaning (finite listed) query claim j

judged_from : (bs gs : List ℕ) (a : Asked) (L : Listed) (j : Judgement) → asked bs ≡ ok a
    → graph_in (decided_ranges a.decided) gs ≡ ok L → judgement (finite L) a.query a.claim ≡ j → Judged bs gs j
judged_from bs gs a L j r l p =
    let i : IsAsked bs a = asked_is bs a r in
    let ranges : decided_ranges a.decided ≡ ranges_of a.query =
    ap decided_ranges i.decides ∙ decided_ranges_lem a.query a.claim
    in
    let g : graph_in (ranges_of a.query) gs ≡ ok L = subst (λ R. graph_in R gs ≡ ok L) ranges l in
    let A : WellListed (ranges_of a.query) L = graph_accepted (ranges_of a.query) gs L g in
    record {
      query = a.query;
      claim = a.claim;
      listed = L;
      reads = i.reads;
      claims = i.claims;
      asks = r ∙ (λ k. ok (record { query = a.query; claim = a.claim; decided = i.decides k }));
      lists = g;
      accepted = A;
      execution = accepted_is_execution a.query L A;
      answer = sym p;
      meaning = subst (JudgementIsMeaning (finite L) a.query a.claim) p
          (judgement_is_meaning (finite L) a.query (accepted_is_execution a.query L A).1 a.claim);
    }

pub judge_call_is_meaning : (bs gs : List ℕ) (j : Judgement) → judge_call bs gs ≡ ok j → Judged bs gs j
unfolding judge_call
judge_call_is_meaning bs gs j e =
    let (a, r, d) = onward_ok (asked bs) _ e in
    let (L, l, k) = onward_ok (graph_in (decided_ranges a.decided) gs) _ d in
    judged_from bs gs a L j r l (cc)

-- and there is no other answer: the call gives whatever is such
pub meaning_is_judge_call : (bs gs : List ℕ) (j : Judgement) → Judged bs gs j → judge_call bs gs ≡ ok j
unfolding judge_call
meaning_is_judge_call bs gs j J =
    let a : Asked = record { query = J.query; claim = J.claim; decided = decision J.query J.claim } in
    ap (λ m. afterwards m judged_by) J.asks
    ∙ ap (λ R. afterwards (graph_in R gs) (answer_of a)) (decided_ranges_lem J.query J.claim)
    ∙ ap (λ m. afterwards m (answer_of a)) J.lists ∙ ap ok (sym J.answer)
  where
    answer_of : Asked → Listed → Result Judgement
    answer_of a G = ok (judgement (finite G) a.query a.claim)

    judged_by : Asked → Result Judgement
    judged_by a = afterwards (graph_in (decided_ranges a.decided) gs) (answer_of a)
