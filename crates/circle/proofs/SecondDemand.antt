-- The second demand holds of the calls: from what the words fix of a search (`search_outcomes`' laws), and from what an answer of the judge
-- means, since a graph has one judgement with its meaning (`claims`).
-- Assumes nothing.
use Prim.Native.Nat.{ℕ}
use mathlib.Core.Path.{◌≡◌, sym, ◌∙◌, ap, subst}
use mathlib.Core.List.{List}
use mathlib.Core.Option.{some}
use Rattle.claims.specs.Tree.{Claim}
use Rattle.claims.specs.Query.{Query}
use Rattle.claims.specs.Refusals.{Refusal, ok, refused}
use Rattle.claims.specs.Reading.{read, claim_of}
use Rattle.claims.specs.RefusalOrder.{Accepted}
use Rattle.claims.specs.GraphBytes.{finite}
use Rattle.claims.specs.Judgement.{Judgement, judgement}
use Rattle.claims.specs.Calls.{Lent, Done, asked, search_call, judge_call}
use Rattle.claims.specs.CallOrder.{asked_as}
use Rattle.claims.proofs.Precedence.{read_accepts}
use Rattle.claims.proofs.SearchOrder.{asked_accepted, search_reads_first}
use Rattle.claims.proofs.GraphReading.{ranges_of, graph_accepted}
use Rattle.claims.proofs.Judging.{judgement_is_meaning}
use Rattle.claims.proofs.OneJudgement.{one_judgement}
use Rattle.claims.proofs.JudgeCall.{meaning_is_judge_call}
use Rattle.search_outcomes.specs.Outcomes.{Outcome, Says, SearchGives}
use Rattle.search_outcomes.proofs.ByWords.{search_by_words}
use Rattle.graph.specs.Meanings.{IsMeaning}
use Rattle.graph.proofs.Answered.{answer_means}
use Rattle.circle.specs.SecondDemand.{SecondDemand}

-- a query that is read, with its claim, is what a call asks about
asked_as_lem : (text : List ℕ) (q : Query) (c : Claim) → read text ≡ ok q → claim_of q ≡ some c → asked text ≡ ok (asked_as q c)
asked_as_lem text q c e f =
    let a : Accepted text q = (read_accepts text q).0 e in
    let g : some a.claim ≡ some c = sym a.claimed ∙ f in
    let same : a.claim ≡ c = cc in
    subst (λ k. asked text ≡ ok (asked_as q k)) same (asked_accepted text q a)

-- the judge answers what is the meaning of the graph
meaning_answered : (text graph : List ℕ) (j : Judgement) → IsMeaning text graph j → judge_call text graph ≡ ok j
meaning_answered text graph j J =
    meaning_is_judge_call text graph j (record {
      query = J.query;
      claim = J.claim;
      listed = J.listed;
      reads = J.reads;
      claims = J.claims;
      asks = asked_as_lem text J.query J.claim J.reads J.claims;
      lists = J.lists;
      accepted = graph_accepted (ranges_of J.query) graph J.listed J.lists;
      execution = J.execution;
      answer = one_judgement (finite J.listed) J.query J.claim j (judgement (finite J.listed) J.query J.claim) J.meaning
          (judgement_is_meaning (finite J.listed) J.query J.execution.1 J.claim);
      meaning = J.meaning;
    })

-- a text that the reader refuses
unread_refused : (text : List ℕ) (allowance : ℕ) (before after : Lent) (r : Outcome) → SearchGives text allowance before r after
    → (why : Refusal) → read text ≡ refused why → Says (refused why) r × (after ≡ before)
unread_refused text allowance before after r gives why e =
    let d : search_call text allowance before ≡ record { result = refused why; lent = before } = search_reads_first text allowance before why e in
    (subst (λ (z : Done). Says z.result r) d gives.says, gives.leaves ∙ ap (λ (z : Done). z.lent) d)

-- the second demand
pub second_demand : SecondDemand
second_demand =
    record {
      searched = search_by_words;
      unread = unread_refused;
      judged = λ text graph r e j. (answer_means text graph r e j, λ J. e ∙ meaning_answered text graph j J);
    }
