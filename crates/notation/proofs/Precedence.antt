-- The order of the reader's refusals for a whole query, a theorem for each rule of document 01's last paragraph before "The desk's
-- cases": 1, then 2, then the lines from the top, then a missing claim, then 8; and what is left is accepted. The idea: `read` is
-- opened once, by the rules, into `ReadRefused`, which lists all that refuses a query; each "only then" is read off there, the causes
-- being told apart by their numbers.
-- Assumes nothing.
use Prim.Native.Nat.{ℕ, suc, ◌≤◌, ◌<◌}
use native.Mathlib.Nat.{zero-add}
use native.Mathlib.Omega.{arith}
use mathlib.Core.Path.{◌≡◌, refl, sym, ◌∙◌, ap, subst}
use mathlib.Core.Logic.{◌⊎◌, ◌↔◌}
use mathlib.Core.Logic.◌⊎◌.{inl, inr}
use mathlib.Core.Bool.{Bool, true, false}
use mathlib.Core.List.{List, [], ◌∷◌, ◌++◌}
use mathlib.Core.Option.{Option, some, none}
use lib.ListN.{length, length-append}
use borrow.Author.Tests.{le-leb, lt-leb}
use Rattle.kat.proofs.Bools.{le_or_lt}
use Rattle.notation.specs.Bytes.{raw_lines}
use Rattle.notation.specs.Tree.{Claim, claim_line}
use Rattle.notation.specs.Query.{Query, each, claims_of}
use Rattle.notation.specs.Counting.{within_limits}
use Rattle.notation.specs.Decisions.{claim_at, decisions}
use Rattle.notation.specs.Refusals.{Cause, number, too_long, bad_byte, no_claim, after_claim, over_limit, Refusal, Result, ok, refused, refuse, afterwards}
use Rattle.notation.specs.Reading.{bad_line, claim_of, read_lines, limited, read}
use Rattle.notation.proofs.FirstFault.{bad_line_lem, no_bad_line}
use Rattle.notation.specs.RefusalOrder.{FirstBad, Taken, RefusedAmong, CleanBytes, ReadRefused, Accepted, OfALine, long, unclean, at_a_line, unclaimed, large}
use Rattle.notation.proofs.ClaimLast.{claim_is_last}
use Rattle.notation.proofs.Decisions.{claim_decided, limited_by_the_claim}
use Rattle.notation.proofs.LineOrder.{ok_not_refused, same_value, same_refusal, line_refusal_number, lines_from_the_top, lines_taken, taken_count}

-- refusals exclude each other: one cause and one place for each query, and none where it is accepted
pub one_refusal : (bs : List ℕ) (c d : Cause) (p r : ℕ) → read bs ≡ refuse c p → read bs ≡ refuse d r → (c ≡ d) × (p ≡ r)
one_refusal bs c d p r e f = same_refusal (sym e ∙ f)

pub accepted_not_refused : (bs : List ℕ) (q : Query) (r : Refusal) → read bs ≡ ok q → read bs ≡ refused r → ⊥
accepted_not_refused bs q r e f = ok_not_refused q r (sym e ∙ f)

-- `read` opened, rule by rule
read_long : (bs : List ℕ) → 4096 < length bs → read bs ≡ refuse too_long 0
unfolding read
read_long bs h = rw (lt-leb (length bs) 4096 h, read)

read_unclean : (bs : List ℕ) (n : ℕ) → length bs ≤ 4096 → bad_line 1 bs ≡ some n → read bs ≡ refuse bad_byte n
unfolding read
read_unclean bs n h e = rw (le-leb (length bs) 4096 h, read, e)

read_lines_lem : (bs : List ℕ) → CleanBytes bs → read bs ≡ afterwards (read_lines [] 1 (raw_lines bs)) limited
unfolding read
read_lines_lem bs o = rw (le-leb (length bs) 4096 o.short, read, (no_bad_line 1 bs).1 o.clean)

read_taken : (bs : List ℕ) (q : Query) → CleanBytes bs → Taken [] (raw_lines bs) q → read bs ≡ limited q
read_taken bs q o ts = read_lines_lem bs o ∙ ap (λ r. afterwards r limited) ((lines_taken [] 1 (raw_lines bs) q).1 ts)

limited_unclaimed : (q : Query) → claim_of q ≡ none → limited q ≡ refuse no_claim 0
unfolding limited
limited_unclaimed q e = rw (e, limited)

module _ (bs : List ℕ) (q : Query) (ts : Taken [] (raw_lines bs) q) (c : Claim) (e : claim_of q ≡ some c) where
  limited_large : within_limits q c ≡ false → limited q ≡ refuse over_limit (length q)
  limited_large f = limited_by_the_claim q c (claim_is_last (raw_lines bs) q c ts e) false f

  limited_ok : within_limits q c ≡ true → limited q ≡ ok q
  limited_ok f = limited_by_the_claim q c (claim_is_last (raw_lines bs) q c ts e) true f

refused_read : (bs : List ℕ) {c : Cause} {p : ℕ} → ReadRefused bs c p → read bs ≡ refuse c p
refused_read bs (long h) = read_long bs h
refused_read bs (unclean {n = n} h f) = read_unclean bs n h ((bad_line_lem 1 bs n).1 f)
refused_read bs (at_a_line {c = c} {p = p} o r) =
    read_lines_lem bs o ∙ ap (λ s. afterwards s limited) ((lines_from_the_top [] 1 (raw_lines bs) c p).1 r)
refused_read bs (unclaimed q o ts e) = read_taken bs q o ts ∙ limited_unclaimed q e
refused_read bs (large q c o ts e f) = read_taken bs q o ts ∙ limited_large bs q ts c e f

accepted_read : (bs : List ℕ) (q : Query) → Accepted bs q → read bs ≡ ok q
accepted_read bs q a =
    read_taken bs q a.in_order a.every_line_taken ∙ limited_ok bs q a.every_line_taken a.claim a.claimed a.within_the_limits

-- one of the two holds of every query
pub read_fate : (bs : List ℕ) → ((c : Cause) × (p : ℕ) × ReadRefused bs c p) ⊎ ((q : Query) × Accepted bs q)
read_fate bs = lengthy (le_or_lt (length bs) 4096)
  where
    Fate : Type 0
    Fate = ((c : Cause) × (p : ℕ) × ReadRefused bs c p) ⊎ ((q : Query) × Accepted bs q)

    measured : (q : Query) (c : Claim) (b : Bool) → CleanBytes bs → Taken [] (raw_lines bs) q → claim_of q ≡ some c
        → within_limits q c ≡ b → Fate
    measured q c true o ts e f = inr (q, record { in_order = o; every_line_taken = ts; claim = c; claimed = e; within_the_limits = f })
    measured q c false o ts e f = inl (over_limit, length q, large q c o ts e f)

    claimed : (q : Query) (c : Option Claim) → CleanBytes bs → Taken [] (raw_lines bs) q → claim_of q ≡ c → Fate
    claimed q none o ts e = inl (no_claim, 0, unclaimed q o ts e)
    claimed q (some c) o ts e = measured q c (within_limits q c) o ts e refl

    lined : (r : Result Query) → CleanBytes bs → read_lines [] 1 (raw_lines bs) ≡ r → Fate
    lined (ok q) o e = claimed q (claim_of q) o ((lines_taken [] 1 (raw_lines bs) q).0 e) refl
    lined (refused r) o e =
        inl (r.cause, r.place, at_a_line o ((lines_from_the_top [] 1 (raw_lines bs) r.cause r.place).0 e))

    cleaned : (o : Option ℕ) → length bs ≤ 4096 → bad_line 1 bs ≡ o → Fate
    cleaned (some n) h e = inl (bad_byte, n, unclean h ((bad_line_lem 1 bs n).0 e))
    cleaned none h e =
        lined (read_lines [] 1 (raw_lines bs)) (record { short = h; clean = (no_bad_line 1 bs).0 e }) refl

    lengthy : (length bs ≤ 4096) ⊎ (4096 < length bs) → Fate
    lengthy (inl h) = cleaned (bad_line 1 bs) h refl
    lengthy (inr h) = inl (too_long, 0, long h)

-- the reader refuses exactly what the rules refuse
pub read_refuses : (bs : List ℕ) (c : Cause) (p : ℕ) → (read bs ≡ refuse c p) ↔ ReadRefused bs c p
read_refuses bs c p = ((λ e. go e (read_fate bs)), refused_read bs)
  where
    go : read bs ≡ refuse c p → ((c : Cause) × (p : ℕ) × ReadRefused bs c p) ⊎ ((q : Query) × Accepted bs q) → ReadRefused bs c p
    go e (inl (d, r, f)) =
        let (same, at) = same_refusal (sym (refused_read bs f) ∙ e) in
        subst (λ k. ReadRefused bs c k) at (subst (λ k. ReadRefused bs k r) same f)
    go e (inr (q, a)) = absurd (ok_not_refused q _ (sym (accepted_read bs q a) ∙ e))

-- and accepts all else, with nothing left that could refuse it
pub read_accepts : (bs : List ℕ) (q : Query) → (read bs ≡ ok q) ↔ Accepted bs q
read_accepts bs q = ((λ e. go e (read_fate bs)), accepted_read bs q)
  where
    go : read bs ≡ ok q → ((c : Cause) × (p : ℕ) × ReadRefused bs c p) ⊎ ((q : Query) × Accepted bs q) → Accepted bs q
    go e (inl (c, p, f)) = absurd (ok_not_refused q _ (sym e ∙ refused_read bs f))
    go e (inr (q', a)) = subst (Accepted bs) (same_value q' q (sym (accepted_read bs q' a) ∙ e)) a

-- "1 and 2 come first", 1 before 2: more than 4,096 bytes, whatever they are, and only then
pub too_long_first : (bs : List ℕ) (p : ℕ) → (read bs ≡ refuse too_long p) ↔ ((4096 < length bs) × (p ≡ 0))
unfolding number
too_long_first bs p = ((λ e. go ((read_refuses bs too_long p).0 e) refl), (λ (h, z). read_long bs h ∙ ap (refuse too_long) (sym z)))
  where
    go : {c : Cause} {r : ℕ} → ReadRefused bs c r → c ≡ too_long → (4096 < length bs) × (r ≡ 0)
    go (long h) e = (h, refl)
    go (unclean h f) e = absurd (omega (arith, ap number e))
    go (at_a_line {c = c} o (before, l, rest, q, eq, ts, f, at)) e =
        let (low, high, seven) = line_refusal_number f in absurd (omega (arith, ap number e))
    go (unclaimed q o ts f) e = absurd (omega (arith, ap number e))
    go (large q c o ts f g) e = absurd (omega (arith, ap number e))

-- "1 and 2 come first": then a byte that is not allowed, at the line of the first one, whatever the lines are, and only then
pub bad_byte_next : (bs : List ℕ) (p : ℕ) → (read bs ≡ refuse bad_byte p) ↔ ((length bs ≤ 4096) × FirstBad 1 bs p)
unfolding number
bad_byte_next bs p =
    ((λ e. go ((read_refuses bs bad_byte p).0 e) refl), (λ (h, f). (read_refuses bs bad_byte p).1 (unclean h f)))
  where
    go : {c : Cause} {r : ℕ} → ReadRefused bs c r → c ≡ bad_byte → (length bs ≤ 4096) × FirstBad 1 bs r
    go (long h) e = absurd (omega (arith, ap number e))
    go (unclean h f) e = (h, f)
    go (at_a_line {c = c} o (before, l, rest, q, eq, ts, f, at)) e =
        let (low, high, seven) = line_refusal_number f in absurd (omega (arith, ap number e))
    go (unclaimed q o ts f) e = absurd (omega (arith, ap number e))
    go (large q c o ts f g) e = absurd (omega (arith, ap number e))

-- "then lines from the top": the first line that is refused, after lines that are all taken, and only then
pub lines_next : (bs : List ℕ) (c : Cause) (p : ℕ) → OfALine c
    → (read bs ≡ refuse c p) ↔ (CleanBytes bs × RefusedAmong [] 1 (raw_lines bs) c p)
unfolding number
lines_next bs c p k = ((λ e. go k ((read_refuses bs c p).0 e)), (λ (o, r). refused_read bs (at_a_line o r)))
  where
    go : {c : Cause} {r : ℕ} → OfALine c → ReadRefused bs c r → CleanBytes bs × RefusedAmong [] 1 (raw_lines bs) c r
    go k (at_a_line o f) = (o, f)
    go (inl e) (long h) = absurd (omega (arith, ap number e))
    go (inr (low, high)) (long h) = absurd (omega arith)
    go (inl e) (unclean h f) = absurd (omega (arith, ap number e))
    go (inr (low, high)) (unclean h f) = absurd (omega arith)
    go (inl e) (unclaimed q o ts f) = absurd (let z : ◌≡◌ {A = ℕ} 0 1 = cc in omega arith)
    go (inr (low, high)) (unclaimed q o ts f) = absurd (omega arith)
    go (inl e) (large q c o ts f g) = absurd (omega (arith, ap number e))
    go (inr (low, high)) (large q c o ts f g) = absurd (omega arith)

-- "A missing claim": all lines taken and no claim among them, at place 0, and only then
pub claim_missing_next : (bs : List ℕ) (p : ℕ)
    → (read bs ≡ refuse no_claim p) ↔ (CleanBytes bs × ((q : Query) × Taken [] (raw_lines bs) q × (claim_of q ≡ none)) × (p ≡ 0))
unfolding number
claim_missing_next bs p = (
  (λ e. go ((read_refuses bs no_claim p).0 e) refl),
  (λ (o, (q, ts, f), z). refused_read bs (unclaimed q o ts f) ∙ ap (refuse no_claim) (sym z)),
)
  where
    go : {c : Cause} {r : ℕ} → ReadRefused bs c r → c ≡ no_claim
        → CleanBytes bs × ((q : Query) × Taken [] (raw_lines bs) q × (claim_of q ≡ none)) × (r ≡ 0)
    go (long h) e = absurd (omega (arith, ap number e))
    go (unclean h f) e = absurd (omega (arith, ap number e))
    go (at_a_line {c = c} o (before, l, rest, q, eq, ts, f, at)) e =
        let (low, high, seven) = line_refusal_number f in
        let s : c ≡ after_claim = seven (ap number e) in
        absurd (let z : ◌≡◌ {A = ℕ} 0 1 = cc in omega arith)
    go (unclaimed q o ts f) e = (o, (q, ts, f), refl)
    go (large q c o ts f g) e = absurd (omega (arith, ap number e))

-- "and then 8": a claim whose sides are over the limits, placed "at the claim line", which is the last line, and only then
pub limits_last : (bs : List ℕ) (p : ℕ)
    → (read bs ≡ refuse over_limit p)
    ↔ (CleanBytes bs
    × ((q : Query) × (c : Claim) × Taken [] (raw_lines bs) q × (claim_of q ≡ some c) × (within_limits q c ≡ false))
    × (p ≡ length (raw_lines bs)))
unfolding number
limits_last bs p = (
  (λ e. go ((read_refuses bs over_limit p).0 e) refl),
  (λ (o, (q, c, ts, f, g), z).
      refused_read bs (large q c o ts f g)
      ∙ ap (refuse over_limit) (taken_count [] (raw_lines bs) q ts ∙ zero-add (length (raw_lines bs)) ∙ sym z)),
)
  where
    go : {c : Cause} {r : ℕ} → ReadRefused bs c r → c ≡ over_limit
        → CleanBytes bs
        × ((q : Query) × (c : Claim) × Taken [] (raw_lines bs) q × (claim_of q ≡ some c) × (within_limits q c ≡ false))
        × (r ≡ length (raw_lines bs))
    go (long h) e = absurd (omega (arith, ap number e))
    go (unclean h f) e = absurd (omega (arith, ap number e))
    go (at_a_line {c = c} o (before, l, rest, q, eq, ts, f, at)) e =
        let (low, high, seven) = line_refusal_number f in absurd (omega (arith, ap number e))
    go (unclaimed q o ts f) e = absurd (omega (arith, ap number e))
    go (large q c o ts f g) e = (o, (q, c, ts, f, g), taken_count [] (raw_lines bs) q ts ∙ zero-add (length (raw_lines bs)))

-- the two in their order, where all lines are taken: "A missing claim and then 8 follow"
pub claim_missing_then_limits : (bs : List ℕ) (q : Query) → CleanBytes bs → Taken [] (raw_lines bs) q
    → (claim_of q ≡ none → read bs ≡ refuse no_claim 0)
    × ((c : Claim) → claim_of q ≡ some c → within_limits q c ≡ false → read bs ≡ refuse over_limit (length q))
    × ((c : Claim) → claim_of q ≡ some c → within_limits q c ≡ true → read bs ≡ ok q)
claim_missing_then_limits bs q o ts =
    let e : read bs ≡ limited q = read_taken bs q o ts in
    ((λ f. e ∙ limited_unclaimed q f), (λ c f g. e ∙ limited_large bs q ts c f g), (λ c f g. e ∙ limited_ok bs q ts c f g))

-- reading gives the refusals 1 to 8 only
pub reading_refusals : (bs : List ℕ) (c : Cause) (p : ℕ) → read bs ≡ refuse c p → number c ≤ 8
unfolding number
reading_refusals bs c p e = go ((read_refuses bs c p).0 e)
  where
    go : {c : Cause} {r : ℕ} → ReadRefused bs c r → number c ≤ 8
    go (long h) = omega arith
    go (unclean h f) = omega arith
    go (at_a_line o (before, l, rest, q, eq, ts, f, at)) = let (low, high, seven) = line_refusal_number f in omega arith
    go (unclaimed q o ts f) = omega arith
    go (large q c o ts f g) = omega arith

-- an accepted query has exactly one claim, the last line
pub exactly_one_claim : (bs : List ℕ) (q : Query) → read bs ≡ ok q
    → (before : Query) × (c : Claim) × (q ≡ before ++ (claim_line c ∷ [])) × (each claims_of before ≡ []) × (claim_of q ≡ some c)
exactly_one_claim bs q e =
    let a : Accepted bs q = (read_accepts bs q).0 e in
    let (before, f, g) = claim_is_last (raw_lines bs) q a.claim a.every_line_taken a.claimed in
    (before, a.claim, f, g, a.claimed)

-- "8 is placed at the claim line": the lines before it and the claim itself are taken, and the place is the claim's line
pub eight_at_the_claim_line : (bs : List ℕ) (p : ℕ) → read bs ≡ refuse over_limit p
    → (before : Query) × (c : Claim) × Taken [] (raw_lines bs) (before ++ (claim_line c ∷ []))
    × (each claims_of before ≡ []) × (p ≡ suc (length before))
eight_at_the_claim_line bs p e =
    let (o, (q, c, ts, f, g), z) = (limits_last bs p).0 e in
    let (before, h, k) = claim_is_last (raw_lines bs) q c ts f in (
      before,
      c,
      subst (Taken [] (raw_lines bs)) h ts,
      k,
      omega (arith, taken_count [] (raw_lines bs) q ts, ap length h, length-append before (claim_line c ∷ [])),
    )

-- an accepted query gives exactly one thing to be decided: its claim, at the claim's line, which is the last
pub one_decision : (bs : List ℕ) (q : Query) → read bs ≡ ok q
    → (before : Query) × (c : Claim) × (q ≡ before ++ (claim_line c ∷ [])) × (decisions q ≡ claim_at q (suc (length before)) c ∷ [])
one_decision bs q e =
    let (before, c, f, g, h) = exactly_one_claim bs q e in (
      before,
      c,
      f,
      claim_decided q c (before, f, g)
          ∙ ap (λ n. claim_at q n c ∷ []) (omega (arith, ap length f, length-append before (claim_line c ∷ []))),
    )
