-- No expression of a query that was read needs more than 67 relations at once. The idea: an expression is read with no bracket open, so a
-- union is at most 2 * 32 + 3 high; each line's reader gives a line of such expressions, and the lines of a query are those taken.
-- Assumes nothing.
use Prim.Native.Nat.{ℕ, ◌≤◌}
use native.Mathlib.Omega.{arith}
use mathlib.Core.Path.{◌≡◌, subst}
use mathlib.Core.Bool.{Bool, true, false, ◌&&◌}
use mathlib.Core.List.{List, [], ◌∷◌, ◌++◌, map}
use Rattle.claims.specs.Bytes.{RawLine, raw_lines, byte, text}
use Rattle.claims.specs.LineKinds.{LineKind, test_kind, rel_kind, let_kind, never_kind, within_kind, closed_kind, assume_kind, claim_kind, all_kinds}
use Rattle.claims.specs.Tokens.{Token, word, mark, bad, is_reserved, tokens}
use Rattle.claims.specs.Tree.{Tree, includes, empty, irreflexive, Line, test_line, rel_line, let_line, never_line, closed_line, assume_empty, assume_irreflexive, claim_line}
use Rattle.claims.specs.Grammar.{Found, got, wrong, deep, and_then, goes_on, past, says_next, name_next}
use Rattle.claims.specs.Lines.{expression, condition, bracketed, declared, enough, Choice, choose, let_reader, within_reader, include_reader, assumptions, claims, line_reader, line_choice, line_kinds, at_end, line, line_by}
use Rattle.claims.specs.Query.{Query}
use Rattle.claims.specs.Refusals.{ok}
use Rattle.claims.specs.Reading.{read}
use Rattle.claims.specs.RefusalOrder.{Taken}
use Rattle.claims.proofs.Precedence.{read_accepts}
use Rattle.tree_heights.specs.Heights.{height, HIGHEST, LowLine, LowLines}
use Rattle.tree_heights.proofs.LowTrees.{Low, bound, union_is_low}

-- a line that was found has low expressions
abbrev Good : Found Line → Type 0
Good (got l us) = LowLine l
Good wrong = Unit {0}
Good deep = Unit {0}

-- one of two readers, by a test
either_good : (c : Bool) (x y : Found Line) → Good x → Good y → Good (elim c [ true ↦ x | false ↦ y ])
either_good true x y h k = h
either_good false x y h k = k

-- what goes on after something else than an expression
then_good : {A : Type 0} (x : Found A) (k : A → List Token → Found Line) → ((a : A) (us : List Token) → Good (k a us))
    → Good (and_then x k)
then_good (got a us) k f = f a us
then_good wrong k f = tt
then_good deep k f = tt

-- what goes on after an expression
after_expression : (ts : List Token) (k : Tree → List Token → Found Line)
    → ((e : Tree) (us : List Token) → height e ≤ HIGHEST → Good (k e us)) → Good (and_then (expression ts) k)
unfolding expression
after_expression ts k f = go (expression ts) (union_is_low (enough ts) 0 ts (omega arith))
  where
    go : (x : Found Tree) → Low (bound 3 0) x → Good (and_then x k)
    go (got e us) h = f e us (omega arith)
    go wrong h = tt
    go deep h = tt

let_good : (ts : List Token) → Good (let_reader ts)
unfolding let_reader
let_good ts =
    then_good (declared ts) _ (λ n us.
    either_good (goes_on (byte "=") us) _ wrong (after_expression (past us) (λ e vs. got (let_line n e) vs) (λ e vs h. h)) tt)

within_good : (ts : List Token) → Good (within_reader ts)
unfolding within_reader
within_good ts =
    then_good (name_next (λ n. n) ts) _ (λ n us. then_good (bracketed us) _ (λ t vs. then_good (bracketed vs) _ (λ u ws. tt)))

include_good : (ts : List Token) → Good (include_reader ts)
unfolding include_reader
include_good ts =
    after_expression ts _ (λ e us h.
    either_good (says_next (text "in") us) _ wrong
    (after_expression (past us) (λ f vs. got (claim_line (includes e f)) vs) (λ f vs k. (h, k))) tt)

closed_good : (ts : List Token) → Good (name_next closed_line ts)
unfolding name_next
closed_good [] = tt
closed_good (word w ∷ ts) = either_good (is_reserved w) wrong (got (closed_line w) ts) tt tt
closed_good (mark b ∷ ts) = tt
closed_good (bad ∷ ts) = tt

-- each of several readers gives such lines
abbrev AllGood : List Choice → Type 0
AllGood [] = Unit {0}
AllGood (c ∷ cs) = ((ts : List Token) → Good (c.reads ts)) × AllGood cs

choose_good : (cs : List Choice) (ts : List Token) → AllGood cs → Good (choose cs ts)
unfolding choose
choose_good [] ts h = tt
choose_good (c ∷ cs) ts (h, hs) =
    either_good (says_next c.says ts) (c.reads (past ts)) (choose cs ts) (h (past ts)) (choose_good cs ts hs)

assumptions_good : (ts : List Token) → Good (choose assumptions ts)
unfolding assumptions
assumptions_good ts =
    choose_good assumptions ts (
      (λ us. after_expression us (λ e vs. got (assume_empty e) vs) (λ e vs h. h)),
      ((λ us. after_expression us (λ e vs. got (assume_irreflexive e) vs) (λ e vs h. h)), tt),
    )

claims_good : (ts : List Token) → Good (choose claims ts)
unfolding claims
claims_good ts =
    choose_good claims ts (
      include_good,
      (
        (λ us. after_expression us (λ e vs. got (claim_line (empty e)) vs) (λ e vs h. h)),
        ((λ us. after_expression us (λ e vs. got (claim_line (irreflexive e)) vs) (λ e vs h. h)), tt),
      ),
    )

-- the readers of all line kinds
kind_good : (k : LineKind) (ts : List Token) → Good (line_reader k ts)
kind_good test_kind ts = then_good (declared ts) (λ n us. got (test_line n) us) (λ n us. tt)
kind_good rel_kind ts = then_good (declared ts) (λ n us. got (rel_line n) us) (λ n us. tt)
kind_good let_kind ts = let_good ts
kind_good never_kind ts = then_good (condition ts) (λ t us. got (never_line t) us) (λ t us. tt)
kind_good within_kind ts = within_good ts
kind_good closed_kind ts = closed_good ts
kind_good assume_kind ts = assumptions_good ts
kind_good claim_kind ts = claims_good ts

kinds_good : (ks : List LineKind) → AllGood (map line_choice ks)
kinds_good [] = tt
kinds_good (k ∷ ks) = (kind_good k, kinds_good ks)

-- a line in the notation
line_good : (l : RawLine) (x : Line) (us : List Token) → line l ≡ got x us → LowLine x
unfolding line line_by line_kinds
line_good l x us e =
    subst Good e (go (choose line_kinds (tokens l.bytes)) (choose_good line_kinds (tokens l.bytes) (kinds_good all_kinds)))
  where
    go : (f : Found Line) → Good f → Good (and_then f (λ y vs. elim (at_end vs && l.ended) [ true ↦ got y [] | false ↦ wrong ]))
    go (got y vs) h = either_good (at_end vs && l.ended) (got y []) wrong h tt
    go wrong h = tt
    go deep h = tt

low_append : (p q : Query) → LowLines p → LowLines q → LowLines (p ++ q)
low_append [] q h k = k
low_append (l ∷ p) q (h, hs) k = (h, low_append p q hs k)

-- lines that are taken one after another
taken_low : (p : Query) (ls : List RawLine) (q : Query) → LowLines p → Taken p ls q → LowLines q
taken_low p [] q h e = subst LowLines e h
taken_low p (l ∷ ls) q h (x, t, ts) =
    taken_low (p ++ (x ∷ [])) ls q (low_append p (x ∷ []) h (line_good l x [] t.in_the_notation, tt)) ts

-- every expression of a query that was read is low
pub low_lines : (bs : List ℕ) (q : Query) → read bs ≡ ok q → LowLines q
low_lines bs q e = taken_low [] (raw_lines bs) q tt ((read_accepts bs q).0 e).every_line_taken
