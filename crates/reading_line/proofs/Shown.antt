-- The line of an answer, from its pieces; and the line of an answer that says what was read is the line of the reading.
-- Assumes nothing.
use Prim.Native.Nat.{ℕ, ◌≤◌}
use mathlib.Core.Path.{◌≡◌, sym, ◌∙◌, ap, ap₂, subst}
use mathlib.Core.Bool.{Bool, true, false}
use mathlib.Core.List.{List, [], ◌∷◌, ◌++◌, append_assoc}
use mathlib.Core.Option.{Option, some, none}
use lib.ListN.{length}
use Rattle.claims.specs.Bytes.{text}
use Rattle.claims.specs.Tree.{Claim}
use Rattle.claims.specs.Query.{Query}
use Rattle.claims.specs.Sides.{decision}
use Rattle.claims.specs.Refusals.{Cause, number, Result, ok, refused, Refusal}
use Rattle.claims.specs.Printed.{spaced, refusal_line}
use Rattle.refusals.specs.Causes.{cause_of}
use Rattle.refusals.specs.declared.Refusal.{Refusal as Reported}
use Rattle.query.specs.declared.Facts.{Facts}
use Rattle.std.specs.Prelude.{Ok, Err}
use Rattle.query.specs.Answer.{Answer, facts_of, Says}
use Rattle.print_line.specs.Puts.{Puts}
use Rattle.print_line.proofs.Putting.{puts_append, puts_bytes}
use Rattle.print_line.proofs.Decimals.{spaced_append}
use Rattle.reading_line.specs.Shown.{kind_text, accepted_line, decision_line, read_line}
use Rattle.reading_line.specs.inner.Answers.{answer_line}

-- one piece after the other
pub accepted_pieces : {l m n o p q : List ℕ} {a b c d e : ℕ} (ring : Bool) (left right : ℕ) → Puts l 0 (text "accepted ") a m → Puts m a (kind_text ring) b n
    → Puts n b (spaced (left ∷ [])) c o → Puts o c (spaced (right ∷ [])) d p → Puts p d (10 ∷ []) e q → Puts l 0 (accepted_line ring left right) e q
unfolding accepted_line
accepted_pieces ring left right s t u v w =
    puts_bytes
    (ap (λ ns. text "accepted " ++ (kind_text ring ++ ns))
    (sym (append_assoc (spaced (left ∷ [])) (spaced (right ∷ [])) (10 ∷ [])) ∙ ap (λ ns. ns ++ (10 ∷ [])) (sym (spaced_append (left ∷ []) (right ∷ [])))))
    (puts_append s (puts_append t (puts_append u (puts_append v w))))

-- the kind
pub kind_ring : {l m : List ℕ} {at to : ℕ} (ring : Bool) → ring ≡ true → Puts l at (text "ring") to m → Puts l at (kind_text ring) to m
kind_ring ring e p = puts_bytes (ap kind_text (sym e)) p

pub kind_path : {l m : List ℕ} {at to : ℕ} (ring : Bool) → ring ≡ false → Puts l at (text "path") to m → Puts l at (kind_text ring) to m
kind_path ring e p = puts_bytes (ap kind_text (sym e)) p

-- by the case of the answer
pub as_accepted : {l m : List ℕ} {to : ℕ} (a : Answer) (f : Facts) → a ≡ Ok f → Puts l 0 (accepted_line f.ring f.left f.right) to m
    → Puts l 0 (answer_line a) to m
unfolding answer_line
as_accepted a f e p = puts_bytes (ap answer_line (sym e)) p

-- the end of the line is behind the last number
refusal_ended : (r : Refusal)
    → text "refusal" ++ (spaced (number r.cause ∷ []) ++ (text " line" ++ (spaced (r.place ∷ []) ++ (10 ∷ [])))) ≡ refusal_line r ++ (10 ∷ [])
unfolding refusal_line
refusal_ended r =
    ap (λ (l : List ℕ). text "refusal" ++ l)
    (sym (append_assoc (spaced (number r.cause ∷ [])) (text " line" ++ spaced (r.place ∷ [])) (10 ∷ [])))

pub as_refused : {l m : List ℕ} {to : ℕ} (a : Answer) (y : Reported) → a ≡ Err y
    → Puts l 0 (text "refusal" ++ (spaced (number (cause_of y.why) ∷ []) ++ (text " line" ++ (spaced (y.place ∷ []) ++ (10 ∷ []))))) to m
    → Puts l 0 (answer_line a) to m
unfolding answer_line
as_refused a y e h = puts_bytes (refusal_ended (record { cause = cause_of y.why; place = y.place }) ∙ ap answer_line (sym e)) h

-- the line of an answer that says the reading
says_line : (r : Result Query) (a : Answer) → Says r a → answer_line a ≡ read_line r
unfolding answer_line read_line facts_of
says_line (ok q) (Ok f) (c, h, i) =
    ap (λ (x : Facts). accepted_line x.ring x.left x.right) i
    ∙ ap (λ (o : Option Claim). elim o [ none ↦ [] | some d ↦ decision_line (decision q d) ]) (sym h)
says_line (ok q) (Err y) s = absurd s
says_line (refused r) (Ok f) s = absurd s
says_line (refused r) (Err y) (e, f) =
    ap₂ (λ (c : Cause) (k : ℕ). refusal_line (record { cause = c; place = k }) ++ (10 ∷ [])) e f

pub read_line_lem : {l m : List ℕ} {to : ℕ} (r : Result Query) (a : Answer) → Says r a → Puts l 0 (answer_line a) to m → length (answer_line a) ≤ 56
    → Puts l 0 (read_line r) to m × (length (read_line r) ≤ 56)
read_line_lem r a s p h = let e = says_line r a s in (puts_bytes e p, subst (λ (bs : List ℕ). length bs ≤ 56) e h)
