-- From the reading of the query to the graph: what the reader leaves of a query whose sheet passes as refuted draws the graph of the sheet's word. The
-- codes say which relations are closed, the facts how many there are and whether the claim is one of rings.
-- Assumes nothing.
use Prim.Native.Nat.{ℕ, ◌-◌, ◌≤◌, ◌<◌}
use native.Mathlib.Omega.{arith}
use mathlib.Core.Path.{◌≡◌, sym, ◌∙◌, ap, ap₂, subst}
use mathlib.Core.Bool.{Bool}
use mathlib.Core.List.{List, [], ◌++◌}
use lib.ListN.{length, take, drop}
use Rattle.kat.specs.Word.{Word, numbers}
use Rattle.claims.specs.Bytes.{raw_lines}
use Rattle.claims.specs.Query.{Query, relations}
use Rattle.claims.specs.Sides.{Decision}
use Rattle.claims.specs.Reading.{read}
use Rattle.claims.specs.Refusals.{Result, ok}
use Rattle.claims.specs.Calls.{Asked, passed_refuted, check_call}
use Rattle.claims.specs.GraphBytes.{Ranges}
use Rattle.claims.proofs.Precedence.{read_accepts}
use Rattle.claims.proofs.JudgeCall.{IsAsked, asked_is, decided_ranges_lem}
use Rattle.codes.specs.Codes.{query_codes}
use Rattle.codes.proofs.Orderly.{Orderly, taken_orderly}
use Rattle.memory.specs.Memory.{zeros}
use Rattle.read_text.specs.Reading.{left_codes}
use Rattle.query.specs.declared.Facts.{Facts}
use Rattle.std.specs.Prelude.{Ok}
use Rattle.query.specs.Answer.{Answer, Says, facts_of, left_after, right_after}
use Rattle.query.proofs.Asked.{AskedWith, asked_with}
use Rattle.side_relations.specs.Relations.{closed_set}
use Rattle.draw_rows.specs.Rows.{event_count, drawn_rows, table_at}
use Rattle.draw_rows.proofs.ClosedLines.{closed_relation}
use Rattle.draw_rows.proofs.Drawn.{event_number}
use Rattle.draw_bytes.specs.Bytes.{bytes_of}
use Rattle.draw_bytes.proofs.Drawn.{bytes_drawn, bytes_same}
use Rattle.draw.specs.declared.Drawing.{Drawing}
use Rattle.draw.specs.DrawCall.{Drew, drew, drawn_for, drawn_bytes, draw_call}
use Rattle.draw.specs.Drawings.{Draws}
use Rattle.draw.proofs.WordInSheet.{word_stands, rest_all}
use Rattle.draw.proofs.Calls.{drew_same, Refutes, refuted_is}

-- a sheet that passes as refuted has its word behind seven bytes
pub long_enough : (text sheet : List ℕ) → check_call text sheet ≡ ok passed_refuted → 7 ≤ length sheet
long_enough text sheet e =
    let r : Refutes text sheet [] = refuted_is text sheet [] e in
    (word_stands r.asks.decided sheet r.word r.reads).0

-- tables that are filled give the bytes of what is drawn, where there is one for each relation
pub filled_bytes : (bs : List ℕ) (n closed rs size : ℕ) (ts : List (List ℕ)) → rs ≤ size → (set : ℕ) → set ≡ closed
    → ((r : ℕ) → r < size → table_at ts r ≡ drawn_rows bs n set r) → bytes_of bs n (table_at ts) rs ≡ bytes_of bs n (drawn_rows bs n closed) rs
filled_bytes bs n closed rs size ts h set e f =
    bytes_same bs n (table_at ts) (drawn_rows bs n closed) rs (λ r l. f r (omega arith) ∙ ap (λ s. drawn_rows bs n s r) e)

-- the graph of a word, from the codes of its query
word_drawn : (a : Asked) → Orderly [] a.query → (w : Word) (n : ℕ) (out : List ℕ)
    → drew (event_count a.decided.ring (length (numbers w)))
    (bytes_of (numbers w) (event_count a.decided.ring (length (numbers w)))
    (drawn_rows (numbers w) (event_count a.decided.ring (length (numbers w))) (closed_set 0 (query_codes a.query ++ zeros n))) (length (relations a.query))) out
    ≡ drew (length (drawn_for a w).atoms) (drawn_bytes a w) out
unfolding drawn_bytes
word_drawn a o w n out =
    let q : Query = a.query in
    let ring : Bool = a.decided.ring in
    drew_same (event_count ring (length (numbers w)))
    (bytes_of (numbers w) (event_count ring (length (numbers w)))
    (drawn_rows (numbers w) (event_count ring (length (numbers w))) (closed_set 0 (query_codes q ++ zeros n))) (length (relations q))) (drawn_bytes a w) out
    (λ few. bytes_drawn q ring w (closed_set 0 (query_codes q ++ zeros n)) few (closed_relation q o n))
    ∙ ap (λ k. drew k (drawn_bytes a w) out) (sym (event_number q ring w))

-- what is asked is one thing
same_asked : (a b : Asked) → ◌≡◌ {A = Result Asked} (ok a) (ok b) → a ≡ b
same_asked a b e = cc

module _ (text sheet : List ℕ) (passed : check_call text sheet ≡ ok passed_refuted) (x : Answer) (said : Says (read text) x)
    (f : Facts) (e : x ≡ Ok f) (left right codes : List ℕ)
    (is-codes : codes ≡ left_codes (read text)) (is-left : left ≡ left_after (read text)) (is_right : right ≡ right_after (read text)) where
  -- the graph that is drawn from what the reader leaves is that of the call
  pub refuted_drawn : (set : ℕ) → set ≡ closed_set 0 codes → (out ws : List ℕ) → ws ≡ take (length sheet - 7) (drop 7 sheet)
      → {r : Drawing} {after : List ℕ}
      → Draws (drew (event_count f.ring (length ws)) (bytes_of ws (event_count f.ring (length ws)) (drawn_rows ws (event_count f.ring (length ws)) set) f.relations) out) r after
      → Draws (draw_call text sheet out) r after
  unfolding facts_of left_codes
  refuted_drawn set s out ws v {r} {after} d =
      let R : Refutes text sheet out = refuted_is text sheet out passed in
      let A : AskedWith text f left right = asked_with text x said f e left right is-left is_right in
      let a : Asked = R.asks in
      let same : A.asks ≡ a = same_asked A.asks a (sym A.accepted ∙ R.accepted) in
      let i : IsAsked text a = asked_is text a R.accepted in
      let facts = A.decided.facts in
      let ring : f.ring ≡ a.decided.ring = ap (λ (z : Facts). z.ring) facts ∙ ap (λ (z : Asked). z.decided.ring) same in
      let count : f.relations ≡ length (relations a.query) =
      ap (λ (z : Facts). z.relations) facts ∙ ap (λ (z : Asked). z.decided.relations) same
      ∙ ap (λ (D : Decision). D.relations) i.decides ∙ ap (λ (z : Ranges). z.relations) (decided_ranges_lem a.query a.claim)
      in
      let word : ws ≡ numbers R.word = v ∙ rest_all sheet ∙ (word_stands a.decided sheet R.word R.reads).1 in
      let left_codes_lem : codes ≡ query_codes a.query ++ zeros (4096 - length (query_codes a.query)) = is-codes ∙ ap left_codes i.reads in
      let o : Orderly [] a.query = taken_orderly (raw_lines text) a.query ((read_accepts text a.query).0 i.reads).every_line_taken in
      subst (λ (z : Drew). Draws z r after)
      (ap₂ (λ (b : Bool) (k : ℕ). drew (event_count b (length ws)) (bytes_of ws (event_count b (length ws)) (drawn_rows ws (event_count b (length ws)) set) k) out) ring count
      ∙ ap₂ (λ (us : List ℕ) (t : ℕ). drew (event_count a.decided.ring (length us))
      (bytes_of us (event_count a.decided.ring (length us)) (drawn_rows us (event_count a.decided.ring (length us)) t) (length (relations a.query))) out) word (s ∙ ap (closed_set 0) left_codes_lem)
      ∙ word_drawn a o R.word (4096 - length (query_codes a.query)) out ∙ sym R.drawing) d
