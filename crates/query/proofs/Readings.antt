-- The reading of document 01 after the readable text: a query that the reader takes has its claim last, and its codes stand at the start of
-- the array; the limits then accept it or refuse it at its last line.
-- Assumes nothing.
use Prim.Native.Nat.{ℕ, ◌-◌, ◌≤◌}
use native.Mathlib.Omega.{arith}
use mathlib.Core.Path.{◌≡◌, refl, sym, ◌∙◌, ap}
use mathlib.Core.Bool.{Bool, true, false}
use mathlib.Core.List.{List, []}
use mathlib.Core.Option.{Option, some, none}
use lib.Dec.{eqb, leb}
use lib.ListN.{length, take, length-append}
use lib.Seq.{take-append_seam}
use Rattle.claims.specs.Bytes.{raw_lines}
use Rattle.claims.specs.Tree.{Claim, includes, empty, irreflexive}
use Rattle.claims.specs.Query.{Query}
use Rattle.claims.specs.Sides.{decision}
use Rattle.claims.specs.Counting.{within_limits}
use Rattle.claims.specs.Reading.{bad_line, claim_of, read_lines, limited, read}
use Rattle.claims.specs.Refusals.{too_long, bad_byte, no_claim, over_limit, Refusal, Result, ok, refused, refuse, afterwards}
use Rattle.claims.proofs.Decisions.{limited_by_the_claim}
use Rattle.codes.specs.Codes.{query_codes}
use Rattle.read_text.specs.Reading.{claimed, in_lines, readable, left_codes, summary_of, SaysSummary}
use Rattle.memory.specs.Memory.{zeros}
use Rattle.read_text.specs.declared.Summary.{Summary}
use Rattle.std.specs.Prelude.{Ok}
use Rattle.read_text.proofs.Answers.{readable_then_limits}
use Rattle.side_limits.specs.Sizes.{within_test}
use Rattle.side_limits.proofs.Counted.{within_is_within}
use Rattle.codes.proofs.Claimed.{Claimed, read_claimed, claim_end, claim_kind_lem}
use Rattle.query.specs.inner.Counted.{is_ring, claim_sizes, in_limits}

same_query : (p q : Query) → ◌≡◌ {A = Result Query} (ok p) (ok q) → p ≡ q
same_query p q e = cc

not_both : (r : Refusal) (q : Query) → ◌≡◌ {A = Result Query} (refused r) (ok q) → ⊥
not_both r q e = let z : ◌≡◌ {A = ℕ} 0 1 = cc in omega arith

-- a query that the reader takes
pub record ReadAs (bs : List ℕ) (q : Query) : Type 0 where
  pub lines : read_lines [] 1 (raw_lines bs) ≡ ok q
  pub claim : Claim
  pub found : claim_of q ≡ some claim

claimed_taken : (bs : List ℕ) (p q : Query) → read_lines [] 1 (raw_lines bs) ≡ ok p → claimed p ≡ ok q → ReadAs bs q
unfolding claimed
claimed_taken bs p q l e = go (claim_of p) refl e
  where
    go : (o : Option Claim) → claim_of p ≡ o → ◌≡◌ {A = Result Query} (elim o [ none ↦ refuse no_claim 0 | some c ↦ ok p ]) (ok q) → ReadAs bs q
    go none f h = absurd (not_both _ q h)
    go (some c) f h =
        let z : p ≡ q = same_query p q h in
        record { lines = l ∙ ap ok z; claim = c; found = ap claim_of (sym z) ∙ f }

lines_taken : (bs : List ℕ) (q : Query) → in_lines bs ≡ ok q → ReadAs bs q
unfolding in_lines
lines_taken bs q e = go (read_lines [] 1 (raw_lines bs)) refl e
  where
    go : (r : Result Query) → read_lines [] 1 (raw_lines bs) ≡ r → afterwards r claimed ≡ ok q → ReadAs bs q
    go (ok p) f h = claimed_taken bs p q f h
    go (refused r) f h = absurd (not_both r q h)

pub readable_taken : (bs : List ℕ) (q : Query) → readable bs ≡ ok q → ReadAs bs q
unfolding readable
readable_taken bs q e = go (leb (length bs) 4096) (bad_line 1 bs) e
  where
    go : (t : Bool) (o : Option ℕ)
        → ◌≡◌ {A = Result Query} (elim t [ false ↦ refuse too_long 0 | true ↦ elim o [ some n ↦ refuse bad_byte n | none ↦ in_lines bs ] ]) (ok q)
        → ReadAs bs q
    go false o h = absurd (not_both _ q h)
    go true (some n) h = absurd (not_both _ q h)
    go true none h = lines_taken bs q h

pub taken_claimed : (bs : List ℕ) (q : Query) (t : ReadAs bs q) → Claimed q t.claim
taken_claimed bs q t = read_claimed (raw_lines bs) q t.claim t.lines t.found

-- an accepted reading is that of a query, of which s is the summary, and whose codes are the first of the array
pub record Accepts (bs : List ℕ) (s : Summary) (out : List ℕ) : Type 0 where
  pub query : Query
  pub is_it : readable bs ≡ ok query
  pub taken : ReadAs bs query
  pub codes : take s.codes out ≡ query_codes query
  pub known : s ≡ summary_of query
  pub room : s.codes ≤ 4096

pub accepts : (bs : List ℕ) (s : Summary) (out : List ℕ) → length out ≡ 4096 → SaysSummary (readable bs) (Ok s) → out ≡ left_codes (readable bs) → Accepts bs s out
unfolding left_codes summary_of
accepts bs s out l said w = go (readable bs) refl said w
  where
    count : (q : Query) → s ≡ summary_of q → s.codes ≡ length (query_codes q)
    count q e = ap (λ (x : Summary). x.codes) e

    go : (r : Result Query) → readable bs ≡ r → SaysSummary r (Ok s) → out ≡ left_codes r → Accepts bs s out
    go (ok q) e k w =
        record {
          query = q;
          is_it = e;
          taken = readable_taken bs q e;
          codes = ap (λ n. take n out) (count q k) ∙ ap (take (length (query_codes q))) w
              ∙ take-append_seam (query_codes q) (zeros (4096 - length (query_codes q)));
          known = k;
          room = omega (arith, ap length w, count q k, length-append (query_codes q) (zeros (4096 - length (query_codes q))));
        }
    go (refused r) e k w = absurd k

-- the last code tells whether the claim is one of rings
ring_end : (q : Query) (c : Claim) → eqb (claim_end c) 138 ≡ (decision q c).ring
unfolding decision
ring_end q (includes e f) = refl
ring_end q (empty e) = refl
ring_end q (irreflexive e) = refl

module _ (bs : List ℕ) (s : Summary) (out : List ℕ) (a : Accepts bs s out) where
  pub ring_told : is_ring s ≡ (decision a.query a.taken.claim).ring
  unfolding is_ring summary_of
  ring_told =
      ap is_ring a.known ∙ ap (λ k. eqb k 138) (claim_kind_lem a.query a.taken.claim (taken_claimed bs a.query a.taken))
      ∙ ring_end a.query a.taken.claim

  tested : (b : Bool) → in_limits s out ≡ b → within_limits a.query a.taken.claim ≡ b
  tested b e =
      sym (within_is_within a.query a.taken.claim (taken_claimed bs a.query a.taken))
      ∙ sym (ap (λ ks. within_test (claim_sizes ks)) a.codes) ∙ e

  read_is : (b : Bool) → in_limits s out ≡ b → read bs ≡ elim b [ true ↦ ok a.query | false ↦ refuse over_limit (length a.query) ]
  read_is b e =
      let h = taken_claimed bs a.query a.taken in
      readable_then_limits bs ∙ ap (λ r. afterwards r limited) a.is_it
      ∙ limited_by_the_claim a.query a.taken.claim (h.before, h.last, h.one) b (tested b e)

  pub read_within : in_limits s out ≡ true → (read bs ≡ ok a.query) × (within_limits a.query a.taken.claim ≡ true)
  read_within e = (read_is true e, tested true e)

  pub read_over : in_limits s out ≡ false → read bs ≡ refuse over_limit (length a.query)
  read_over e = read_is false e

-- a refusal of the reader is one of document 01's reading
pub read_refused : (bs : List ℕ) (r : Refusal) → readable bs ≡ refused r → read bs ≡ refused r
read_refused bs r e = readable_then_limits bs ∙ ap (λ x. afterwards x limited) e
