-- The order of refusals on one line and among the lines: on a line 7, then 3 or 4, then 5 by its leftmost name, then 6; and the lines
-- from the top. (Document 01, the last paragraph before "The desk's cases".) The idea: a line after those taken is either taken or
-- refused by exactly one of the rules (`line_fate_lem`); the lines in a row go by that, whatever stands behind the refused one.
-- Assumes nothing.
use Prim.Native.Nat.{ℕ, suc, ◌+◌, ◌≤◌}
use native.Mathlib.Nat.{add-zero}
use native.Mathlib.Omega.{arith}
use mathlib.Core.Path.{◌≡◌, refl, sym, ◌∙◌, ap, subst}
use mathlib.Core.Logic.{◌⊎◌, ◌↔◌}
use mathlib.Core.Logic.◌⊎◌.{inl, inr}
use mathlib.Core.Bool.{Bool, true, false, ◌&&◌}
use mathlib.Core.List.{List, [], ◌∷◌, ◌++◌, append-nil, append_assoc}
use mathlib.Core.Option.{Option, some, none}
use lib.ListN.{length, length-append}
use Rattle.notation.specs.Bytes.{RawLine}
use Rattle.notation.specs.Tokens.{Token, tokens}
use Rattle.notation.specs.Tree.{Claim, Line}
use Rattle.notation.specs.Grammar.{Found, got, wrong, deep, and_then}
use Rattle.notation.specs.Lines.{line, line_by, choose, line_kinds, at_end}
use Rattle.notation.specs.Names.{uses, first_slip}
use Rattle.notation.specs.Query.{Query}
use Rattle.notation.specs.Refusals.{Cause, number, notation, too_deep, too_many, after_claim, Refusal, Result, ok, refused, refuse, afterwards}
use Rattle.notation.specs.Reading.{crowded, claim_of, read_line, read_lines}
use Rattle.notation.proofs.FirstFault.{slips_have_number_five}
use Rattle.notation.specs.RefusalOrder.{LineRefused, LineTaken, Taken, RefusedAmong, after_the_claim, not_in_notation, bracket_too_deep, name_slips, one_too_many}

module _ {A : Type 0} where
  -- one result for each input: a value is no refusal, and equal refusals have equal causes and places
  pub ok_not_refused : (a : A) (r : Refusal) → ok a ≡ refused r → ⊥
  ok_not_refused a r e = let z : ◌≡◌ {A = ℕ} 0 1 = cc in omega arith

  pub same_value : (a b : A) → ok a ≡ ok b → a ≡ b
  same_value a b e = cc

  pub same_refusal : {c d : Cause} {p r : ℕ} → ◌≡◌ {A = Result A} (refuse c p) (refuse d r) → (c ≡ d) × (p ≡ r)
  same_refusal {c} {d} {p} {r} e =
      let z : ◌≡◌ {A = Refusal} (record { cause = c; place = p }) (record { cause = d; place = r }) = cc in
      (ap (λ s. s.cause) z, ap (λ s. s.place) z)

-- a line that is read is read to its end
nothing_left : (l : RawLine) (x : Line) (us : List Token) → line l ≡ got x us → us ≡ []
unfolding line line_by
nothing_left l x us e = go (choose line_kinds (tokens l.bytes)) e
  where
    ended : (b : Bool) (y : Line) → elim b [ true ↦ got y [] | false ↦ wrong ] ≡ got x us → us ≡ []
    ended true y h = cc
    ended false y h = absurd (let z : ◌≡◌ {A = ℕ} 0 1 = cc in omega arith)

    go : (f : Found Line)
        → and_then f (λ y vs. elim (at_end vs && l.ended) [ true ↦ got y [] | false ↦ wrong ]) ≡ got x us → us ≡ []
    go (got y vs) h = ended (at_end vs && l.ended) y h
    go wrong h = absurd (let z : ◌≡◌ {A = ℕ} 0 1 = cc in omega arith)
    go deep h = absurd (let z : ◌≡◌ {A = ℕ} 0 1 = cc in omega arith)

module _ (q : Query) (n : ℕ) (x : Line) (us : List Token) where
  slip_read : {c : Cause} → first_slip q (uses x) ≡ some c → read_line q n (got x us) ≡ refuse c n
  unfolding read_line
  slip_read e = rw (e, read_line)

  crowd_read : first_slip q (uses x) ≡ none → crowded q x ≡ true → read_line q n (got x us) ≡ refuse too_many n
  unfolding read_line
  crowd_read e f = rw (e, read_line, f)

  taken_read : first_slip q (uses x) ≡ none → crowded q x ≡ false → read_line q n (got x us) ≡ ok x
  unfolding read_line
  taken_read e f = rw (e, read_line, f)

module _ (q : Query) (n : ℕ) (l : RawLine) (ls : List RawLine) where
  -- "7 for a line after the claim" comes first on a line, whatever it holds
  pub after_claim_first : (c : Claim) → claim_of q ≡ some c → read_lines q n (l ∷ ls) ≡ refuse after_claim n
  unfolding read_lines
  after_claim_first c e = rw (e, read_lines)

  -- "then 3 or 4", whatever the names are
  pub notation_next : claim_of q ≡ none → line l ≡ wrong → read_lines q n (l ∷ ls) ≡ refuse notation n
  unfolding read_lines read_line
  notation_next e f = rw (e, read_lines, f)

  pub depth_next : claim_of q ≡ none → line l ≡ deep → read_lines q n (l ∷ ls) ≡ refuse too_deep n
  unfolding read_lines read_line
  depth_next e f = rw (e, read_lines, f)

  -- then "5 left to right", also where there is one declaration too many
  pub names_next : (x : Line) (c : Cause) → claim_of q ≡ none → line l ≡ got x [] → first_slip q (uses x) ≡ some c
      → read_lines q n (l ∷ ls) ≡ refuse c n
  unfolding read_lines read_line
  names_next x c e f g = rw (e, read_lines, f, slip_read q n x [] g)

  -- then "6"
  pub crowd_last : (x : Line) → claim_of q ≡ none → line l ≡ got x [] → first_slip q (uses x) ≡ none → crowded q x ≡ true
      → read_lines q n (l ∷ ls) ≡ refuse too_many n
  unfolding read_lines read_line
  crowd_last x e f g h = rw (e, read_lines, f, crowd_read q n x [] g h)

  -- and else the line is taken
  pub else_taken : (x : Line) → claim_of q ≡ none → line l ≡ got x [] → first_slip q (uses x) ≡ none → crowded q x ≡ false
      → read_lines q n (l ∷ ls) ≡ read_lines (q ++ (x ∷ [])) (suc n) ls
  unfolding read_lines read_line
  else_taken x e f g h = rw (e, read_lines, f, taken_read q n x [] g h)

-- one of the two holds of every line
pub line_fate_lem : (q : Query) (l : RawLine) → ((c : Cause) × LineRefused q l c) ⊎ ((x : Line) × LineTaken q l x)
line_fate_lem q l = claimed (claim_of q) refl
  where
    Fate : Type 0
    Fate = ((c : Cause) × LineRefused q l c) ⊎ ((x : Line) × LineTaken q l x)

    counted : (x : Line) (b : Bool) → claim_of q ≡ none → line l ≡ got x [] → first_slip q (uses x) ≡ none → crowded q x ≡ b → Fate
    counted x true e f g h = inl (too_many, one_too_many e f g h)
    counted x false e f g h = inr (x, record { no_claim_yet = e; in_the_notation = f; names_in_order = g; room_for_it = h })

    named : (x : Line) (o : Option Cause) → claim_of q ≡ none → line l ≡ got x [] → first_slip q (uses x) ≡ o → Fate
    named x (some c) e f g = inl (c, name_slips e f g)
    named x none e f g = counted x (crowded q x) e f g refl

    noted : (f : Found Line) → claim_of q ≡ none → line l ≡ f → Fate
    noted (got x us) e f = named x (first_slip q (uses x)) e (f ∙ ap (got x) (nothing_left l x us f)) refl
    noted wrong e f = inl (notation, not_in_notation e f)
    noted deep e f = inl (too_deep, bracket_too_deep e f)

    claimed : (o : Option Claim) → claim_of q ≡ o → Fate
    claimed (some c) e = inl (after_claim, after_the_claim e)
    claimed none e = noted (line l) e refl

-- a refused line decides, whatever lines follow
pub line_refused : (q : Query) (n : ℕ) (l : RawLine) (ls : List RawLine) {c : Cause} → LineRefused q l c
    → read_lines q n (l ∷ ls) ≡ refuse c n
line_refused q n l ls (after_the_claim {c = c} e) = after_claim_first q n l ls c e
line_refused q n l ls (not_in_notation e f) = notation_next q n l ls e f
line_refused q n l ls (bracket_too_deep e f) = depth_next q n l ls e f
line_refused q n l ls (name_slips {x = x} {c = c} e f g) = names_next q n l ls x c e f g
line_refused q n l ls (one_too_many {x = x} e f g h) = crowd_last q n l ls x e f g h

pub line_taken : (q : Query) (n : ℕ) (l : RawLine) (ls : List RawLine) (x : Line) → LineTaken q l x
    → read_lines q n (l ∷ ls) ≡ read_lines (q ++ (x ∷ [])) (suc n) ls
line_taken q n l ls x t = else_taken q n l ls x t.no_claim_yet t.in_the_notation t.names_in_order t.room_for_it

-- the rules exclude each other: a line has one cause, and a refused line is not taken
pub one_cause : (q : Query) (l : RawLine) {c d : Cause} → LineRefused q l c → LineRefused q l d → c ≡ d
one_cause q l r s = (same_refusal (sym (line_refused q 1 l [] r) ∙ line_refused q 1 l [] s)).0

pub refused_not_taken : (q : Query) (l : RawLine) (x : Line) {c : Cause} → LineRefused q l c → LineTaken q l x → ⊥
unfolding read_lines
refused_not_taken q l x r t = ok_not_refused (q ++ (x ∷ [])) _ (sym (line_taken q 1 l [] x t) ∙ line_refused q 1 l [] r)

-- a line's refusals are 3 to 7, and 7 is for a line after the claim
pub line_refusal_number : {q : Query} {l : RawLine} {c : Cause} → LineRefused q l c
    → (3 ≤ number c) × (number c ≤ 7) × (number c ≡ 7 → c ≡ after_claim)
unfolding number
line_refusal_number (after_the_claim e) = (omega arith, omega arith, λ h. refl)
line_refusal_number (not_in_notation e f) = (omega arith, omega arith, λ h. absurd (omega arith))
line_refusal_number (bracket_too_deep e f) = (omega arith, omega arith, λ h. absurd (omega arith))
line_refusal_number {q} (name_slips {x = x} {c = c} e f g) =
    let five : number c ≡ 5 = slips_have_number_five q (uses x) c g in
    (omega arith, omega arith, λ h. absurd (omega arith))
line_refusal_number (one_too_many e f g h) = (omega arith, omega arith, λ h. absurd (omega arith))

-- taken lines hand their query and number on
pub taken_onward : (q : Query) (n : ℕ) (ls ms : List RawLine) (q' : Query) → Taken q ls q'
    → read_lines q n (ls ++ ms) ≡ read_lines q' (n + length ls) ms
taken_onward q n [] ms q' e = ap (λ p. read_lines p n ms) e ∙ ap (λ k. read_lines q' k ms) (sym (add-zero n))
taken_onward q n (l ∷ ls) ms q' (x, t, ts) =
    line_taken q n l (ls ++ ms) x t ∙ taken_onward (q ++ (x ∷ [])) (suc n) ls ms q' ts ∙ ap (λ k. read_lines q' k ms) (omega arith)

refused_split : (q : Query) (n : ℕ) (ls : List RawLine) (c : Cause) (p : ℕ) → read_lines q n ls ≡ refuse c p → RefusedAmong q n ls c p
unfolding read_lines
refused_split q n [] c p e = absurd (ok_not_refused q _ e)
refused_split q n (l ∷ ls) c p e = go (line_fate_lem q l) (λ x. refused_split (q ++ (x ∷ [])) (suc n) ls c p)
  where
    go : ((d : Cause) × LineRefused q l d) ⊎ ((x : Line) × LineTaken q l x)
        → ((x : Line) → read_lines (q ++ (x ∷ [])) (suc n) ls ≡ refuse c p → RefusedAmong (q ++ (x ∷ [])) (suc n) ls c p)
        → RefusedAmong q n (l ∷ ls) c p
    go (inl (d, r)) k =
        let (same, at) = same_refusal (sym (line_refused q n l ls r) ∙ e) in
        ([], l, ls, q, refl, refl, subst (LineRefused q l) same r, omega arith)
    go (inr (x, t)) k =
        let (before, m, rest, q', eq, ts, r, at) = k x (sym (line_taken q n l ls x t) ∙ e) in
        (l ∷ before, m, rest, q', ap (λ ms. l ∷ ms) eq, (x, t, ts), r, omega arith)

-- "then lines from the top": the first line that is refused decides, with its number for the place
pub lines_from_the_top : (q : Query) (n : ℕ) (ls : List RawLine) (c : Cause) (p : ℕ)
    → (read_lines q n ls ≡ refuse c p) ↔ RefusedAmong q n ls c p
lines_from_the_top q n ls c p = (
  refused_split q n ls c p,
  (λ (before, l, rest, q', eq, ts, r, at).
      ap (read_lines q n) eq ∙ taken_onward q n before (l ∷ rest) q' ts ∙ line_refused q' (n + length before) l rest r
      ∙ ap (λ k. refuse c k) (sym at)),
)

-- what follows a refused line does not matter
pub whatever_follows : (q : Query) (n : ℕ) (ls ms : List RawLine) (c : Cause) (p : ℕ)
    → read_lines q n ls ≡ refuse c p → read_lines q n (ls ++ ms) ≡ refuse c p
whatever_follows q n ls ms c p e =
    let (before, l, rest, q', eq, ts, r, at) = (lines_from_the_top q n ls c p).0 e in
    (lines_from_the_top q n (ls ++ ms) c p).1
    (before, l, rest ++ ms, q', ap (λ k. k ++ ms) eq ∙ append_assoc before (l ∷ rest) ms, ts, r, at)

-- the lines are taken exactly where reading them gives a query
pub lines_taken : (q : Query) (n : ℕ) (ls : List RawLine) (q' : Query) → (read_lines q n ls ≡ ok q') ↔ Taken q ls q'
unfolding read_lines
lines_taken q n ls q' = (
  taken q n ls,
  (λ ts. ap (read_lines q n) (sym (append-nil ls)) ∙ taken_onward q n ls [] q' ts),
)
  where
    go : (q : Query) (n : ℕ) (l : RawLine) (ls : List RawLine) → read_lines q n (l ∷ ls) ≡ ok q'
        → ((c : Cause) × LineRefused q l c) ⊎ ((x : Line) × LineTaken q l x)
        → ((x : Line) → read_lines (q ++ (x ∷ [])) (suc n) ls ≡ ok q' → Taken (q ++ (x ∷ [])) ls q')
        → Taken q (l ∷ ls) q'
    go q n l ls e (inl (c, r)) k = absurd (ok_not_refused q' _ (sym e ∙ line_refused q n l ls r))
    go q n l ls e (inr (x, t)) k = (x, t, k x (sym (line_taken q n l ls x t) ∙ e))

    taken : (q : Query) (n : ℕ) (ls : List RawLine) → read_lines q n ls ≡ ok q' → Taken q ls q'
    taken q n [] e = same_value q q' e
    taken q n (l ∷ ls) e = go q n l ls e (line_fate_lem q l) (λ x. taken (q ++ (x ∷ [])) (suc n) ls)

-- the lines in two parts: the second is read after what the first gives, and its lines are numbered on
pub lines_in_parts : (q : Query) (n : ℕ) (ls ms : List RawLine)
    → read_lines q n (ls ++ ms) ≡ afterwards (read_lines q n ls) (λ q'. read_lines q' (n + length ls) ms)
lines_in_parts q n ls ms = go (read_lines q n ls) refl
  where
    go : (r : Result Query) → read_lines q n ls ≡ r → read_lines q n (ls ++ ms) ≡ afterwards r (λ q'. read_lines q' (n + length ls) ms)
    go (ok q') e = taken_onward q n ls ms q' ((lines_taken q n ls q').0 e)
    go (refused r) e = whatever_follows q n ls ms r.cause r.place e

-- a line of the query for each line taken
pub taken_count : (q : Query) (ls : List RawLine) (q' : Query) → Taken q ls q' → length q' ≡ length q + length ls
taken_count q [] q' e = omega (arith, ap length e)
taken_count q (l ∷ ls) q' (x, t, ts) =
    omega (arith, taken_count (q ++ (x ∷ [])) ls q' ts, length-append q (x ∷ []))
