-- The reading line by line as the loop meets it. What is left to read, from the state now, is the whole reading from the start: so it is
-- at the start, a line that is taken keeps it so, and a line that is refused, or the end, gives the answer.
-- Assumes nothing.
use Prim.Native.Nat.{ℕ, suc, ◌+◌, ◌-◌, ◌≤◌, ◌<◌}
use native.Mathlib.Omega.{arith}
use native.Mathlib.Nat.{zero-add}
use native.Mathlib.Numerals.{add-one}
use mathlib.Core.Path.{◌≡◌, refl, sym, ◌∙◌, ap, subst, subst⁻¹}
use mathlib.Core.Bool.{true, false}
use mathlib.Core.List.{List, [], ◌∷◌, ◌++◌}
use mathlib.Core.Option.{Option, some, none}
use lib.Dec.{ltb}
use lib.ListN.{length, take, drop, length-take, length-append, drop_of_length-le}
use lib.Seq.{sets, sets-eq, take-append_seam}
use Rattle.std.specs.Prelude.{Result as Returned, Ok, Err}
use Rattle.claims.specs.Bytes.{RawLine, raw_lines}
use Rattle.claims.specs.Tree.{Claim}
use Rattle.claims.specs.Lines.{line}
use Rattle.claims.specs.Query.{Query, tests, relations}
use Rattle.claims.specs.Reading.{claim_of, read_line, read_lines}
use Rattle.claims.specs.Refusals.{no_claim, after_claim, Result, ok, refuse, afterwards}
use Rattle.claims.specs.Names.{kind_of}
use Rattle.codes.specs.Codes.{code_of, kind_code, query_codes, lines_codes}
use Rattle.read_tokens.specs.Scan.{front}
use Rattle.read_names.specs.Keys.{find_in}
use Rattle.read_text.specs.Reading.{claimed, in_lines, summary_of, SaysSummary}
use Rattle.read_text.specs.inner.Steps.{in_line, known, Written}
use Rattle.read_declarations.specs.State.{After, Small, Tabled, Took, LineSays, LeavesNone, ReadsLine, line_fate}
use Rattle.memory.specs.Memory.{zeros}
use Rattle.refusals.specs.Causes.{cause_of}
use Rattle.refusals.specs.declared.Reason.{Reason}
use Rattle.refusals.specs.declared.Reason.TheVariants.{NoClaim}
use Rattle.read_text.specs.declared.Summary.{Summary}
use Rattle.read_declarations.specs.declared.LineState.{LineState}
use Rattle.read_text.proofs.TextLines.{line_split}
use Rattle.read_text.proofs.Answers.{refusal, claimed_none, claimed_some}

-- the lines go by the fate of the first
pub lines_by_fate : (q : Query) (n : ℕ) (l : RawLine) (ls : List RawLine)
    → read_lines q n (l ∷ ls) ≡ afterwards (line_fate q n l) (λ x. read_lines (q ++ (x ∷ [])) (suc n) ls)
unfolding read_lines line_fate
lines_by_fate q n l ls = go (claim_of q)
  where
    go : (o : Option Claim)
        → elim o [ some c ↦ refuse after_claim n | none ↦ afterwards (read_line q n (line l)) (λ x. read_lines (q ++ (x ∷ [])) (suc n) ls) ]
        ≡ afterwards (elim o [ some c ↦ refuse after_claim n | none ↦ read_line q n (line l) ]) (λ x. read_lines (q ++ (x ∷ [])) (suc n) ls)
    go (some c) = refl
    go none = refl

-- what the loop keeps: q has been read, the rest is to be read from `at` on, in line n
pub record Going (text before : List ℕ) (st : LineState) (names out : List ℕ) (n at : ℕ) : Type 0 where
  pub query : Query
  pub left : read_lines query n (raw_lines (drop at text)) ≡ read_lines [] 1 (raw_lines text)
  pub after : After query st before out
  pub knows : Tabled names st.names query
  pub small : Small st
  pub used : st.used ≤ at
  pub short : st.used ≤ length text
  pub within : at ≤ length text + 1
  pub counted : n ≤ at + 1
  pub numbered : n ≡ length query + 1

pub going_start : (text out names : List ℕ) → length names ≡ 192
    → Going text out (record { used = 0; names = 0; tests = 0; relations = 0; lets = 0; claimed = false }) names out 1 0
unfolding query_codes lines_codes tests relations claim_of code_of kind_of kind_code find_in
going_start text out names a =
    record {
      query = [];
      left = refl;
      after = record { used = refl; written = refl; tests = refl; relations = refl; lets = refl; names = refl; claimed = refl };
      knows = record { size = a; entries = tt; found = λ w a b. refl };
      small = record { tests = omega arith; relations = omega arith; lets = omega arith; names = omega arith };
      used = omega arith;
      short = omega arith;
      within = omega arith;
      counted = omega arith;
      numbered = refl;
    }

-- a refusal's answer: no code is left
refused_answer : (r : Result Query) (c : Reason) (p : ℕ) (before out : List ℕ) → out ≡ zeros 4096 → r ≡ refuse (cause_of c) p
    → SaysSummary r (Err (refusal c p)) × Written r before out
refused_answer r c p before out z e = subst⁻¹ (λ x. SaysSummary x (Err (refusal c p)) × Written x before out) e ((refl, refl), z)

-- the line from `at` to e
abbrev pub line_at : List ℕ → ℕ → ℕ → RawLine
line_at text at e = record { bytes = take (e - at) (drop at text); ended = ltb e (length text) }

module _ (text before : List ℕ) (st : LineState) (names out : List ℕ) (n at e : ℕ) (g : Going text before st names out n at) (h : at < length text)
    (ends : e ≡ at + front in_line (drop at text)) (within : e ≤ length text) where
  -- there is room for the line's codes
  pub line_fits : length text ≤ 4096 → st.used + length (take (e - at) (drop at text)) ≤ 4096
  line_fits m = omega (arith, length-take (e - at) (drop at text), g.used)

  next_line : read_lines g.query n (line_at text at e ∷ raw_lines (drop (e + 1) text)) ≡ read_lines [] 1 (raw_lines text)
  next_line = ap (read_lines g.query n) (sym (line_split text at e h ends)) ∙ g.left

  -- a line that is taken
  pub going_on : (names' out' : List ℕ) (r : Returned LineState Reason) (next : LineState) → ReadsLine (line_at text at e) st names out r names' out' → r ≡ Ok next
      → Going text before next names' out' (n + 1) (e + 1)
  going_on names' out' r next says same =
      let t : Took g.query (line_at text at e) st next before names' out' =
      subst (LineSays g.query (line_at text at e) st before names' out') same (says.2 g.query before g.after g.knows) in
      record {
        query = g.query ++ (t.line ∷ []);
        left =
            ap (λ k. read_lines (g.query ++ (t.line ∷ [])) k (raw_lines (drop (e + 1) text))) (add-one n)
            ∙ sym (ap (λ x. afterwards x (λ l. read_lines (g.query ++ (l ∷ [])) (suc n) (raw_lines (drop (e + 1) text)))) (t.fate n))
            ∙ sym (lines_by_fate g.query n (line_at text at e) (raw_lines (drop (e + 1) text)))
            ∙ next_line;
        after = t.after;
        knows = t.knows;
        small = t.small;
        used = omega (arith, t.short, g.used, length-take (e - at) (drop at text));
        short = omega (arith, t.short, g.used, length-take (e - at) (drop at text));
        within = omega arith;
        counted = omega (arith, g.counted);
        numbered = omega (arith, g.numbered, length-append g.query (t.line ∷ []));
      }

  -- a line that is refused
  pub refused_here : (names' out' : List ℕ) (r : Returned LineState Reason) (c : Reason) → ReadsLine (line_at text at e) st names out r names' out' → r ≡ Err c
      → SaysSummary (in_lines text) (Err (refusal c n)) × Written (in_lines text) before out'
  unfolding in_lines
  refused_here names' out' r c says same =
      let f : (k : ℕ) → line_fate g.query k (line_at text at e) ≡ refuse (cause_of c) k =
      subst (LineSays g.query (line_at text at e) st before names' out') same (says.2 g.query before g.after g.knows) in
      refused_answer (in_lines text) c n before out' (subst (λ x. LeavesNone x out') same says.0)
      (ap (λ x. afterwards x claimed)
      (sym next_line ∙ lines_by_fate g.query n (line_at text at e) (raw_lines (drop (e + 1) text))
      ∙ ap (λ x. afterwards x (λ l. read_lines (g.query ++ (l ∷ [])) (suc n) (raw_lines (drop (e + 1) text)))) (f n)))

sets_from_start : (before codes : List ℕ) → length codes ≤ length before → sets before 0 codes ≡ codes ++ drop (length codes) before
sets_from_start before codes h =
    sets-eq codes before 0 (omega arith) ∙ ap (λ n. codes ++ drop n before) (zero-add (length codes))

-- all lines are read
module _ (text before : List ℕ) (st : LineState) (names out : List ℕ) (n at : ℕ) (g : Going text before st names out n at) (h : length text ≤ at) where
  all_read : in_lines text ≡ claimed g.query
  unfolding in_lines read_lines raw_lines
  all_read =
      let e : read_lines g.query n (raw_lines (drop at text)) ≡ ok g.query = rw (drop_of_length-le text h) in
      ap (λ x. afterwards x claimed) (sym g.left ∙ e)

  pub over_unclaimed : st.claimed ≡ false → (left : List ℕ) (size : ℕ) → size ≡ 4096 → left ≡ zeros size
      → SaysSummary (in_lines text) (Err (refusal NoClaim 0)) × Written (in_lines text) before left
  unfolding cause_of
  over_unclaimed e left size m z =
      refused_answer (in_lines text) NoClaim 0 before left (z ∙ ap zeros m)
      (all_read ∙ go (claim_of g.query) refl (sym g.after.claimed ∙ e))
    where
      go : (o : Option Claim) → claim_of g.query ≡ o → elim o [ some c ↦ true | none ↦ false ] ≡ false → claimed g.query ≡ refuse no_claim 0
      go none f t = claimed_none g.query f
      go (some c) f t = absurd (let z : ◌≡◌ {A = ℕ} 0 1 = cc in omega arith)

  read_so_far : length text ≤ length before → out ≡ query_codes g.query ++ drop (length (query_codes g.query)) before
  read_so_far m = g.after.written ∙ sets_from_start before (query_codes g.query) (omega (arith, g.after.used, g.short))

  -- the array has room for what was read
  pub read_within : length text ≤ length before → length out ≡ length before → st.used ≤ length out
  read_within m s = omega (arith, g.short)

  known_summary : length text ≤ length before → known st (n - 1) (take st.used out) ≡ summary_of g.query
  unfolding known summary_of
  known_summary m =
      let front : take st.used out ≡ query_codes g.query =
      ap (λ k. take k out) g.after.used ∙ ap (take (length (query_codes g.query))) (read_so_far m)
      ∙ take-append_seam (query_codes g.query) (drop (length (query_codes g.query)) before) in
      let lines : n - 1 ≡ length g.query = omega (arith, g.numbered) in
      rw (known, summary_of, front, lines, g.after.used, g.after.tests, g.after.relations) refl

  pub over_claimed : length text ≤ length before → st.claimed ≡ true → (s : Summary) → s ≡ known st (n - 1) (take st.used out)
      → SaysSummary (in_lines text) (Ok s) × Written (in_lines text) before out
  over_claimed m e s i =
      subst⁻¹ (λ x. SaysSummary x (Ok s) × Written x before out) (all_read ∙ go (claim_of g.query) refl (sym g.after.claimed ∙ e))
      (i ∙ known_summary m, read_so_far m)
    where
      go : (o : Option Claim) → claim_of g.query ≡ o → elim o [ some c ↦ true | none ↦ false ] ≡ true → claimed g.query ≡ ok g.query
      go none f t = absurd (let z : ◌≡◌ {A = ℕ} 0 1 = cc in omega arith)
      go (some c) f t = claimed_some g.query c f
