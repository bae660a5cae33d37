-- The answer of the judge: from the state behind the last line; and from the reading of the query and of the graph to the call of document 01.
-- Assumes nothing.
use Prim.Native.Nat.{ℕ, ◌-◌, ◌/◌, ◌%◌, ◌≤◌, ◌<◌, min}
use native.Mathlib.Omega.{arith}
use mathlib.Core.Path.{◌≡◌, refl, sym, ◌∙◌, ap, ap₂, subst}
use mathlib.Core.Logic.{⊎_elim}
use mathlib.Core.Bool.{Bool, true, false, cond}
use mathlib.Core.List.{List, ◌++◌}
use mathlib.Core.Option.{some}
use lib.ListN.{length, take, length-append}
use lib.Seq.{take-append_seam, take_all, take_at}
use borrow.Author.Tests.{lt-ltb, le-ltb}
use Rattle.kat.proofs.Bools.{lt_or_le}
use Rattle.claims.specs.Bytes.{raw_lines}
use Rattle.claims.specs.Tree.{Claim, includes, empty, irreflexive}
use Rattle.claims.specs.Query.{Query}
use Rattle.claims.specs.Sides.{decision}
use Rattle.claims.specs.Reading.{read}
use Rattle.claims.specs.Refusals.{Result, ok, refused, refuse, afterwards}
use Rattle.claims.specs.RefusalOrder.{Accepted}
use Rattle.claims.specs.Calls.{asked, judge_call}
use Rattle.claims.specs.CallOrder.{asked_as}
use Rattle.claims.specs.GraphBytes.{Listed, Ranges, graph_in, finite}
use Rattle.claims.specs.Judgement.{Outcome, holds_in, breaks_at, breaks_from, Judgement, judgement}
use Rattle.claims.proofs.Limits.{WithinLimits, read_within, decision_within_limits}
use Rattle.claims.proofs.Precedence.{read_accepts}
use Rattle.claims.proofs.SearchOrder.{asked_accepted}
use Rattle.claims.proofs.CheckOrder.{judge_reads_first}
use Rattle.claims.proofs.JudgeCall.{judge_call_is_meaning}
use Rattle.codes.specs.Codes.{query_codes}
use Rattle.codes.proofs.Claimed.{Claimed, taken_claimed}
use Rattle.memory.specs.Memory.{zeros}
use Rattle.refusals.specs.Causes.{cause_of}
use Rattle.refusals.specs.declared.Reason.{Reason}
use Rattle.refusals.specs.declared.Refusal.{Refusal}
use Rattle.read_text.specs.Reading.{left_codes}
use Rattle.query.specs.declared.Facts.{Facts}
use Rattle.std.specs.Prelude.{Ok, Err}
use Rattle.query.specs.Answer.{Answer, facts_of, Says}
use Rattle.side_items.specs.Items.{args_of, paired, items_of}
use Rattle.rows.specs.Outcomes.{pair_outcome, event_outcome}
use Rattle.tree_heights.proofs.LowLines.{low_lines}
use Rattle.std.specs.Prelude.{Ok, Err, Result as StdResult}
use Rattle.graph_read.specs.Reading.{listed_words, left_words, Says as SaysGraph}
use Rattle.graph_tables.specs.declared.JudgedSoFar.{JudgedSoFar}
use Rattle.graph_judge.specs.Machine.{performed_all, beginning}
use Rattle.graph_judge.specs.Outcome.{outcome_of}
use Rattle.graph_judge.proofs.Graphed.{read_graphed}
use Rattle.graph_judge.proofs.InLines.{ring_claim}
use Rattle.graph_judge.proofs.Judged.{query_judged}
use Rattle.graph.specs.declared.Judged.TheVariants.{Holds, BreaksAt, BreaksFrom}
use Rattle.graph.specs.Answers.{result_of, Answer as Judging}
use Rattle.graph.specs.Meanings.{IsMeaning}

-- how many atoms and relations there are
abbrev ranges_as : ℕ → ℕ → Ranges
ranges_as a r = record { atoms = a; relations = r }

-- the line, and what was found of the claim
abbrev pub says : ℕ → Outcome → Result Judgement
says l o = ok (record { line = l; outcome = o })

pub says_holds : (ring : Bool) (l m : ℕ) → 4096 ≤ m → result_of (Ok (Holds l)) ≡ says l (outcome_of ring m)
unfolding result_of pair_outcome event_outcome
says_holds true l m h = ap (λ c. says l (cond c (breaks_at m) holds_in)) (sym (le-ltb m 4096 h))
says_holds false l m h = ap (λ c. says l (cond c (breaks_from (m / 64) (m % 64)) holds_in)) (sym (le-ltb m 4096 h))

pub says_at : (ring : Bool) (l m : ℕ) → m < 4096 → ring ≡ true → result_of (Ok (BreaksAt l m)) ≡ says l (outcome_of ring m)
unfolding result_of event_outcome
says_at ring l m h e =
    ap (λ c. says l (cond c (breaks_at m) holds_in)) (sym (lt-ltb m 4096 h)) ∙ ap (λ b. says l (outcome_of b m)) (sym e)

pub says_from : (ring : Bool) (l m : ℕ) → m < 4096 → ring ≡ false → result_of (Ok (BreaksFrom l (m / 64) (m % 64))) ≡ says l (outcome_of ring m)
unfolding result_of pair_outcome
says_from ring l m h e =
    ap (λ c. says l (cond c (breaks_from (m / 64) (m % 64)) holds_in)) (sym (lt-ltb m 4096 h)) ∙ ap (λ b. says l (outcome_of b m)) (sym e)

-- the first codes, of as many as there are
first_codes : (codes : List ℕ) (i j : ℕ) → j ≡ min i (length codes) → take j codes ≡ take i codes
first_codes codes i j e =
    ⊎_elim (λ h. let z : j ≡ i = omega arith in ap (λ k. take k codes) z)
    (λ h. take_all j codes (omega arith) ∙ sym (take_all i codes (omega arith)))
    (lt_or_le i (length codes))

-- the first codes with what they need, in memory; i of them count, and j of these there are
pub items_read : (L codes args rest : List ℕ) (n i j : ℕ) (r : JudgedSoFar) → args ≡ args_of (take j codes) → length args ≡ j → j ≡ min i (length codes)
    → r ≡ (performed_all L (beginning n) (paired (take j codes) (take j (args ++ rest)))).state
    → r ≡ (performed_all L (beginning n) (items_of (take i codes))).state
unfolding items_of
items_read L codes args rest n i j r e size cut g =
    g ∙ ap (λ a. (performed_all L (beginning n) (paired (take j codes) a)).state) (take_at args rest j size ∙ e)
    ∙ ap (λ ks. (performed_all L (beginning n) (paired ks (args_of ks))).state) (first_codes codes i j cut)

-- the ring claims
claim_ring : (q : Query) (c : Claim) → (decision q c).ring ≡ ring_claim c
unfolding decision
claim_ring q (includes e f) = refl
claim_ring q (empty e) = refl
claim_ring q (irreflexive e) = refl

same_claim : (c d : Claim) → some c ≡ some d → c ≡ d
same_claim c d e = cc

-- a query that was read, with its facts and its codes
module _ (text : List ℕ) (f : Facts) (said : Says (read text) (Ok f)) (codes : List ℕ) (is-codes : codes ≡ left_codes (read text)) where
  record ReadQuery : Type 0 where
    query : Query
    claim : Claim
    reads : read text ≡ ok query
    asks : asked text ≡ ok (asked_as query claim)
    taken : Claimed query claim
    facts : f ≡ facts_of (length (query_codes query)) (decision query claim)
    few_atoms : (decision query claim).atoms ≤ 64
    few_relations_lem : (decision query claim).relations ≤ 16
    first : codes ≡ query_codes query ++ zeros (4096 - length (query_codes query))

  read_query : ReadQuery
  unfolding left_codes
  read_query = go (read text) refl said is-codes
    where
      go : (r : Result Query) → read text ≡ r → Says r (Ok f) → codes ≡ left_codes r → ReadQuery
      go (refused r) g s k = absurd s
      go (ok q) g (c, h, i) k =
          let a : Accepted text q = (read_accepts text q).0 g in
          let same : a.claim ≡ c = same_claim a.claim c (sym a.claimed ∙ h) in
          let w : WithinLimits (decision q c) =
          subst (λ d. WithinLimits (decision q d)) same (decision_within_limits q a.claim (read_within text g).0 a.within_the_limits)
          in
          record {
            query = q;
            claim = c;
            reads = g;
            asks = asked_accepted text q a ∙ ap (λ d. ok (asked_as q d)) same;
            taken = taken_claimed (raw_lines text) q c a.every_line_taken h;
            facts = i;
            few_atoms = w.atoms;
            few_relations_lem = w.relations;
            first = k;
          }

  -- the ranges of the query, as the graph is read
  ranges : (z : ReadQuery) (m : ℕ) → m ≡ min f.relations 16
      → ranges_as f.atoms m ≡ ranges_as (decision z.query z.claim).atoms (decision z.query z.claim).relations
  unfolding facts_of
  ranges z m e =
      let a : f.atoms ≡ (decision z.query z.claim).atoms = ap (λ (x : Facts). x.atoms) z.facts in
      let r : f.relations ≡ (decision z.query z.claim).relations = ap (λ (x : Facts). x.relations) z.facts in
      let s : m ≡ (decision z.query z.claim).relations = omega (arith, z.few_relations_lem) in
      ap₂ ranges_as a s

  -- the call, from what the graph's bytes are
  called : (z : ReadQuery) (gs : List ℕ) (R : Ranges)
      → R ≡ ranges_as (decision z.query z.claim).atoms (decision z.query z.claim).relations
      → judge_call text gs ≡ afterwards (graph_in R gs) (λ G. ok (judgement (finite G) z.query z.claim))
  unfolding judge_call
  called z gs R e =
      ap (λ m. afterwards m (λ a.
      afterwards (graph_in (record { atoms = a.decided.atoms; relations = a.decided.relations }) gs)
      (λ G. ok (judgement (finite G) a.query a.claim)))) z.asks
      ∙ ap (λ S. afterwards (graph_in S gs) (λ G. ok (judgement (finite G) z.query z.claim))) (sym e)

  module _ (gs : List ℕ) (m : ℕ) (few : m ≡ min f.relations 16) (x : StdResult ℕ ℕ)
      (reads : SaysGraph (graph_in (record { atoms = f.atoms; relations = m }) gs) x) where
    -- a wrong field
    pub wrong_field : (k : ℕ) → x ≡ Err k → result_of (Err (record { why = Reason.GraphField; place = k })) ≡ judge_call text gs
    unfolding result_of cause_of
    wrong_field k e = go (graph_in (ranges_as f.atoms m) gs) refl (subst (SaysGraph (graph_in (ranges_as f.atoms m) gs)) e reads)
      where
        go : (r : Result Listed) → graph_in (ranges_as f.atoms m) gs ≡ r → SaysGraph r (Err k) → result_of (Err (record { why = Reason.GraphField; place = k })) ≡ judge_call text gs
        go (ok G) g s = absurd s
        go (refused r) g (a, b) =
            let z = read_query in
            ap₂ (λ c p. refuse c p) (sym a) (sym b)
            ∙ sym (called z gs (ranges_as f.atoms m) (ranges z m few) ∙ ap (λ r. afterwards r (λ G. ok (judgement (finite G) z.query z.claim))) g)

    -- a graph: its judgement
    pub events_judged : (n : ℕ) → x ≡ Ok n → (L : List ℕ) → L ≡ left_words (graph_in (record { atoms = f.atoms; relations = m }) gs) → length codes ≡ 4096
        → (s : JudgedSoFar) → s ≡ (performed_all L (beginning n) (items_of (take (min f.codes 4096) codes))).state
        → (r : Judging) → result_of r ≡ says s.broken (outcome_of f.ring s.found) → result_of r ≡ judge_call text gs
    unfolding left_words facts_of judgement
    events_judged n e L is-words size s is_state r is-result =
        go (graph_in (ranges_as f.atoms m) gs) refl (subst (SaysGraph (graph_in (ranges_as f.atoms m) gs)) e reads) is-words
      where
        go : (u : Result Listed) → graph_in (ranges_as f.atoms m) gs ≡ u → SaysGraph u (Ok n) → L ≡ left_words u → result_of r ≡ judge_call text gs
        go (refused u) g s k = absurd s
        go (ok G) g count words =
            let z = read_query in
            let q = z.query in
            let c = z.claim in
            let R = ranges_as f.atoms m in
            let ks = query_codes q in
            let facts_codes : f.codes ≡ length ks = ap (λ (x : Facts). x.codes) z.facts in
            let facts_atoms : f.atoms ≡ (decision q c).atoms = ap (λ (x : Facts). x.atoms) z.facts in
            let fits : length ks ≤ 4096 = omega (arith, ap length z.first, length-append ks (zeros (4096 - length ks))) in
            let counted : min f.codes 4096 ≡ length ks = omega arith in
            let part : take (min f.codes 4096) codes ≡ ks = ap₂ take counted z.first ∙ take-append_seam ks (zeros (4096 - length ks)) in
            let shown = read_graphed R gs G (omega (arith, z.few_atoms)) g in
            let J = query_judged (finite G) q c (listed_words G) (length G.atoms) shown z.taken (low_lines text q z.reads) fits in
            let k = performed_all (listed_words G) (beginning (length G.atoms)) (items_of ks) in
            let same : s ≡ k.state =
            is_state ∙ ap₂ (λ M (i : ℕ). (performed_all M (beginning i) (items_of (take (min f.codes 4096) codes))).state) words count
            ∙ ap (λ l. (performed_all (listed_words G) (beginning (length G.atoms)) (items_of l)).state) part
            in
            let ring : f.ring ≡ ring_claim c = ap (λ (x : Facts). x.ring) z.facts ∙ claim_ring q c in
            is-result
            ∙ ap₂ (λ (t : JudgedSoFar) b. says t.broken (outcome_of b t.found)) same ring
            ∙ ap₂ says J.line J.outcome
            ∙ sym (called z gs R (ranges z m few) ∙ ap (λ r. afterwards r (λ G. ok (judgement (finite G) q c))) g)

-- a refusal of the reader is handed on
pub query_refused : (text gs : List ℕ) (x : Answer) → Says (read text) x → (y : Refusal) → x ≡ Err y
    → result_of (Err y) ≡ judge_call text gs
unfolding result_of
query_refused text gs x said y e = go (read text) refl (subst (Says (read text)) e said)
  where
    go : (r : Result Query) → read text ≡ r → Says r (Err y) → result_of (Err y) ≡ judge_call text gs
    go (ok q) g s = absurd s
    go (refused r) g (a, b) = ap₂ (λ c q. refuse c q) a b ∙ sym (judge_reads_first text gs r g)

-- an answer is the meaning of the graph
pub answer_means : (text gs : List ℕ) (r : Judging) → result_of r ≡ judge_call text gs → (j : Judgement) → result_of r ≡ ok j → IsMeaning text gs j
answer_means text gs r e j f =
    let J = judge_call_is_meaning text gs j (sym e ∙ f) in
    record {
      query = J.query;
      claim = J.claim;
      listed = J.listed;
      reads = J.reads;
      claims = J.claims;
      lists = J.lists;
      execution = J.execution;
      meaning = J.meaning;
    }
