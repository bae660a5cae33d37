-- What the reader answers: the answer and the array are fixed by what was read, and the reading is that of document 01 but for the
-- limits. And the array of zeros, as a loop fills it and as codes are written over it.
-- Assumes nothing.
use Prim.Native.Nat.{ℕ, ◌≤◌, ◌<◌}
use mathlib.Core.Path.{◌≡◌, refl, sym, ◌∙◌, ap, ap₂, subst⁻¹}
use mathlib.Core.Bool.{Bool, true, false}
use mathlib.Core.List.{List, [], ◌++◌}
use mathlib.Core.Option.{Option, some, none}
use lib.Dec.{leb}
use lib.ListN.{length, drop}
use borrow.Author.Tests.{le-leb, lt-leb}
use Rattle.std.specs.Prelude.{Result as Returned, Ok, Err}
use Rattle.claims.specs.Bytes.{raw_lines}
use Rattle.claims.specs.Tree.{Claim}
use Rattle.claims.specs.Query.{Query}
use Rattle.claims.specs.Reading.{bad_line, claim_of, read_lines, limited, read}
use Rattle.claims.specs.Refusals.{too_long, bad_byte, no_claim, Result, ok, refused, refuse, afterwards}
use Rattle.codes.specs.Codes.{query_codes}
use Rattle.read_text.specs.Reading.{claimed, in_lines, readable, SaysSummary, left_codes}
use Rattle.read_text.specs.inner.Steps.{Written}
use Rattle.memory.specs.Memory.{zeros}
use Rattle.refusals.specs.Causes.{cause_of}
use Rattle.refusals.specs.declared.Reason.{Reason}
use Rattle.refusals.specs.declared.Reason.TheVariants.{TooLong, BadByte}
use Rattle.refusals.specs.declared.Refusal.{Refusal}
use Rattle.read_text.specs.declared.Summary.{Summary}
use Rattle.refusals.proofs.Causes.{one_reason}
use Rattle.memory.proofs.Zeros.{drop_zeros}

-- a reason with a place
abbrev pub refusal : Reason → ℕ → Refusal
refusal c p = record { why = c; place = p }

-- what was read has one answer
pub one_answer : (r : Result Query) (x y : Returned Summary Refusal) → SaysSummary r x → SaysSummary r y → x ≡ y
one_answer (ok q) (Ok m) (Ok n) a b = ap Ok (a ∙ sym b)
one_answer (ok q) (Ok m) (Err f) a b = absurd b
one_answer (ok q) (Err f) y a b = absurd a
one_answer (refused r) (Ok n) y a b = absurd a
one_answer (refused r) (Err f) (Ok n) a b = absurd b
one_answer (refused r) (Err f) (Err g) a b =
    ap₂ (λ c p. Err (refusal c p)) (one_reason f.why g.why (a.0 ∙ sym b.0)) (a.1 ∙ sym b.1)

-- the reading, rule by rule
pub readable_long : (bs : List ℕ) → 4096 < length bs → readable bs ≡ refuse too_long 0
unfolding readable
readable_long bs h = rw (lt-leb (length bs) 4096 h, readable)

pub readable_bad : (bs : List ℕ) (n : ℕ) → length bs ≤ 4096 → bad_line 1 bs ≡ some n → readable bs ≡ refuse bad_byte n
unfolding readable
readable_bad bs n h e = rw (le-leb (length bs) 4096 h, readable, e)

pub readable_lines : (bs : List ℕ) → length bs ≤ 4096 → bad_line 1 bs ≡ none → readable bs ≡ in_lines bs
unfolding readable
readable_lines bs h e = rw (le-leb (length bs) 4096 h, readable, e)

-- the array as the answer leaves it
left_written : (r : Result Query) (before out : List ℕ) → before ≡ zeros 4096 → Written r before out → out ≡ left_codes r
unfolding left_codes
left_written (ok q) before out e w =
    w ∙ ap (λ l. query_codes q ++ l) (ap (drop (length (query_codes q))) e ∙ drop_zeros (length (query_codes q)) 4096)
left_written (refused r) before out e w = w

left_refused : (r : Result Query) (f : Refusal) → SaysSummary r (Err f) → zeros 4096 ≡ left_codes r
unfolding left_codes
left_refused (ok q) f s = absurd s
left_refused (refused r) f s = refl

-- the answer to a text with what is left in the array, by what the text is
abbrev Answered : List ℕ → Returned Summary Refusal → List ℕ → Type 0
Answered bs r out = SaysSummary (readable bs) r × (out ≡ left_codes (readable bs))

module _ (bs out : List ℕ) where
  refused_as : (c : Reason) (p n : ℕ) → readable bs ≡ refuse (cause_of c) p → n ≡ 4096 → out ≡ zeros n → Answered bs (Err (refusal c p)) out
  refused_as c p n e m z =
      let s : SaysSummary (readable bs) (Err (refusal c p)) = subst⁻¹ (λ x. SaysSummary x (Err (refusal c p))) e (refl, refl) in
      (s, z ∙ ap zeros m ∙ left_refused (readable bs) (refusal c p) s)

  pub answer_long : (n : ℕ) → 4096 < length bs → n ≡ 4096 → out ≡ zeros n → Answered bs (Err (refusal TooLong 0)) out
  unfolding cause_of
  answer_long n h m z = refused_as TooLong 0 n (readable_long bs h) m z

  pub answer_bad : (p n : ℕ) → length bs ≤ 4096 → bad_line 1 bs ≡ some p → n ≡ 4096 → out ≡ zeros n
      → Answered bs (Err (refusal BadByte p)) out
  unfolding cause_of
  answer_bad p n h e m z = refused_as BadByte p n (readable_bad bs p h e) m z

  -- all bytes are allowed: the lines decide
  module _ (h : length bs ≤ 4096) (none_bad : bad_line 1 bs ≡ none) where
    read_by_lines : readable bs ≡ in_lines bs
    read_by_lines = readable_lines bs h none_bad

    pub answer_lines : (r : Returned Summary Refusal) (n : ℕ) (before : List ℕ) → SaysSummary (in_lines bs) r → Written (in_lines bs) before out → n ≡ 4096
        → before ≡ zeros n → Answered bs r out
    answer_lines r n before s w m z = (
      subst⁻¹ (λ x. SaysSummary x r) read_by_lines s,
      left_written (in_lines bs) before out (z ∙ ap zeros m) w ∙ ap left_codes (sym read_by_lines),
    )

pub claimed_none : (q : Query) → claim_of q ≡ none → claimed q ≡ refuse no_claim 0
unfolding claimed
claimed_none q e = rw (e, claimed)

pub claimed_some : (q : Query) (c : Claim) → claim_of q ≡ some c → claimed q ≡ ok q
unfolding claimed
claimed_some q c e = rw (e, claimed)

-- the reading of document 01 is this one and then the limits
limited_after : (q : Query) → limited q ≡ afterwards (claimed q) limited
unfolding limited
limited_after q = go (claim_of q) refl
  where
    go : (o : Option Claim) → claim_of q ≡ o → limited q ≡ afterwards (claimed q) limited
    go none e = rw (claimed_none q e, e, limited)
    go (some c) e = rw (claimed_some q c e)

pub readable_then_limits : (bs : List ℕ) → read bs ≡ afterwards (readable bs) limited
unfolding read readable in_lines
readable_then_limits bs = go (leb (length bs) 4096) (bad_line 1 bs) (read_lines [] 1 (raw_lines bs))
  where
    lined : (r : Result Query) → afterwards r limited ≡ afterwards (afterwards r claimed) limited
    lined (ok q) = limited_after q
    lined (refused r) = refl

    go : (t : Bool) (o : Option ℕ) (r : Result Query)
        → elim t [ false ↦ refuse too_long 0 | true ↦ elim o [ some n ↦ refuse bad_byte n | none ↦ afterwards r limited ] ]
        ≡ afterwards (elim t [ false ↦ refuse too_long 0 | true ↦ elim o [ some n ↦ refuse bad_byte n | none ↦ afterwards r claimed ] ]) limited
    go false o r = refl
    go true (some n) r = refl
    go true none r = lined r
