-- A line by its first word, and the fate of a line as a whole. The idea: the place of a word among the line words, found by its key, is the
-- place of what the word chooses in the table of line kinds.
-- Assumes nothing.
use Prim.Native.Nat.{ℕ, zero, suc, ◌+◌, ◌-◌, ◌≤◌, ◌<◌}
use native.Mathlib.Omega.{arith}
use native.Mathlib.Nat.{add-zero, zero-add}
use native.Mathlib.Numerals.{add-one}
use mathlib.Core.Path.{◌≡◌, refl, sym, ap, ◌∙◌, subst}
use mathlib.Core.Bool.{Bool, true, false, cond}
use mathlib.Core.List.{List, [], ◌∷◌, ◌++◌, map}
use mathlib.Core.Option.{Option, some, none}
use lib.ListN.{length, drop, get_or}
use Rattle.std.specs.Prelude.{Result as Returned, Ok, Err}
use Rattle.claims.specs.Bytes.{RawLine, same}
use Rattle.claims.specs.Tokens as Notation
use Rattle.claims.specs.Tokens.{tokens, reserved_words}
use Rattle.claims.specs.Grammar.{Found, wrong}
use Rattle.claims.specs.Tree.{Name, Claim, Line}
use Rattle.claims.specs.Lines.{Choice, choose, line_kinds, line_by, line}
use Rattle.claims.specs.Query.{Query}
use Rattle.claims.specs.Reading.{claim_of, read_line}
use Rattle.claims.specs.Refusals.{after_claim, Result, refuse}
use Rattle.read_tokens.specs.declared.Key.{Key}
use Rattle.read_tokens.specs.declared.Token.{Token}
use Rattle.read_tokens.specs.declared.Token.TheVariants.{Word, Mark, Bad, End}
use Rattle.read_tokens.specs.Scan.{key_of, token_at, Spelled}
use Rattle.read_names.specs.Keys.{same_key, word_key}
use Rattle.read_names.proofs.Names.{same_key_lem, reserved_name_lem}
use Rattle.read_tokens.proofs.Tokens.{Scanned, ScannedWord}
use Rattle.memory.specs.Memory.{zeros}
use Rattle.refusals.specs.declared.Reason.{Reason}
use Rattle.refusals.specs.declared.Reason.TheVariants.{Notation as BadNotation, AfterClaim}
use Rattle.read_declarations.specs.declared.LineState.{LineState}
use Rattle.read_declarations.specs.State.{line_fate, has_claim, After, KeepsNames, ReadsLine}
use Rattle.refusals.specs.Causes.{cause_of}
use Rattle.read_declarations.specs.inner.Kinds.{whole_line, KindSays, KindOutcome, kind_place, reads_at}
use Rattle.read_bodies.proofs.NextWords.{choose_here, choose_next, choose_none, NoWord, token_found}
use Rattle.read_declarations.proofs.Fates.{fate_wrong}

-- what a line with the word w in front is read by
abbrev pub After-word : Name → List Notation.Token → Found Line
After-word w ts = choose line_kinds (Notation.word w ∷ ts)

-- the words of the choices
abbrev words_of : List Choice → List Name
words_of cs = map (λ (c : Choice). c.says) cs

-- the place of a word among the choices, by its key: what it chooses stands there
abbrev AllSpelled : List Choice → Type 0
AllSpelled cs = (n : ℕ) → n < length cs → Spelled (get_or (words_of cs) n [])

place_chosen : (w : Name) → Spelled w → (ts : List Notation.Token) (cs : List Choice) → AllSpelled cs
    → choose cs (Notation.word w ∷ ts) ≡ reads_at cs (kind_place cs (key_of w)) ts
unfolding kind_place reads_at
place_chosen w sp ts [] h = choose_none (Notation.word w ∷ ts)
place_chosen w sp ts (c ∷ cs) h =
    go (same_key (key_of c.says) (key_of w)) (sym (same_key_lem c.says w (h 0 (omega arith)) sp))
    (place_chosen w sp ts cs (λ n i. h (suc n) (omega arith)))
  where
    go : (b : Bool) → same c.says w ≡ b → choose cs (Notation.word w ∷ ts) ≡ reads_at cs (kind_place cs (key_of w)) ts
        → choose (c ∷ cs) (Notation.word w ∷ ts) ≡ reads_at (c ∷ cs) (cond b 0 (suc (kind_place cs (key_of w)))) ts
    go true e f = choose_here c cs (Notation.word w ∷ ts) e
    go false e f = choose_next c cs (Notation.word w ∷ ts) e ∙ f

front_word : (xs ys : List Name) (n : ℕ) → n < length xs → get_or (xs ++ ys) n [] ≡ get_or xs n []
front_word [] ys n h = absurd (omega arith)
front_word (x ∷ xs) ys zero h = refl
front_word (x ∷ xs) ys (suc n) h = front_word xs ys n (omega arith)

kinds_spelled : AllSpelled line_kinds
unfolding line_kinds reserved_words
kinds_spelled n h = subst Spelled (front_word (words_of line_kinds) (drop 8 reserved_words) n h) (reserved_name_lem n (omega arith))

-- the same line under another reader
via_kind : (D E : List Notation.Token → Found Line) (s : List ℕ) (at : ℕ) (ended : Bool) (st : LineState) (names out : List ℕ) (l : Returned LineState Reason)
    (names' out' : List ℕ) → ((ts : List Notation.Token) → E ts ≡ D ts) → KindOutcome D s at ended st names out l names' out'
    → KindOutcome E s at ended st names out l names' out'
via_kind D E s at ended st names out l names' out' e h q before a k =
    subst (λ x. KindSays (λ n. read_line q n (whole_line ended x)) q (st.used + (length s - at) + 1) before names' out' l)
    (sym (e (tokens (drop at s)))) (h q before a k)

-- so for the reader that the word w chooses, where x is the place of its key
pub kind_at : (k : Key) (x : ℕ) → x ≡ kind_place line_kinds k → (w : Name) → Spelled w → k ≡ key_of w → (s : List ℕ) (at : ℕ) (ended : Bool) (st : LineState)
    (names out : List ℕ) (l : Returned LineState Reason) (names' out' : List ℕ) → KindOutcome (reads_at line_kinds x) s at ended st names out l names' out'
    → KindOutcome (After-word w) s at ended st names out l names' out'
kind_at k x place w sp key s at ended st names out l names' out' h =
    via_kind (reads_at line_kinds x) (After-word w) s at ended st names out l names' out'
    (λ ts. place_chosen w sp ts line_kinds kinds_spelled
    ∙ ap (λ i. reads_at line_kinds i ts) (ap (kind_place line_kinds) (sym key) ∙ sym place))
    h

-- the fate of a line, where there was a claim and where there was none
claim_there : (q : Query) (n : ℕ) (raw : RawLine) → has_claim q ≡ true → line_fate q n raw ≡ refuse after_claim n
unfolding line_fate
claim_there q n raw e = go (claim_of q) e
  where
    go : (o : Option Claim) → ◌≡◌ {A = Bool} (elim o [ some c ↦ true | none ↦ false ]) true
        → ◌≡◌ {A = Result Line} (elim o [ some c ↦ refuse after_claim n | none ↦ read_line q n (line raw) ]) (refuse after_claim n)
    go (some c) h = refl
    go none h = let z : ◌≡◌ {A = ℕ} 0 1 = cc in absurd (omega arith)

claim_none : (q : Query) (n : ℕ) (raw : RawLine) → has_claim q ≡ false → line_fate q n raw ≡ read_line q n (line raw)
unfolding line_fate
claim_none q n raw e = go (claim_of q) e
  where
    go : (o : Option Claim) → ◌≡◌ {A = Bool} (elim o [ some c ↦ true | none ↦ false ]) false
        → ◌≡◌ {A = Result Line} (elim o [ some c ↦ refuse after_claim n | none ↦ read_line q n (line raw) ]) (read_line q n (line raw))
    go (some c) h = let z : ◌≡◌ {A = ℕ} 0 1 = cc in absurd (omega arith)
    go none h = refl

line_whole : (raw : RawLine) → line raw ≡ whole_line raw.ended (choose line_kinds (tokens raw.bytes))
unfolding line line_by whole_line
line_whole raw = refl

module _ (s : List ℕ) (ended : Bool) (st : LineState) (names out : List ℕ) where
  abbrev raw : RawLine
  raw = record { bytes = s; ended = ended }

  pub claimed_before : st.claimed ≡ true → (left : List ℕ) → left ≡ zeros 4096 → ReadsLine raw st names out (Err AfterClaim) names left
  unfolding cause_of
  claimed_before h left z = (z, refl, λ q before a k n. claim_there q n raw (sym a.claimed ∙ h))

  module _ (free : st.claimed ≡ false) where
    fate_is : (q : Query) (before : List ℕ) → After q st before out → (n : ℕ) (x : Found Line) → choose line_kinds (tokens s) ≡ x
        → line_fate q n raw ≡ read_line q n (whole_line ended x)
    fate_is q before a n x e =
        claim_none q n raw (sym a.claimed ∙ free) ∙ ap (read_line q n) (line_whole raw ∙ ap (whole_line ended) e)

    no_kind : (t : Token) → NoWord t → Scanned s 0 t → choose line_kinds (tokens s) ≡ wrong
    unfolding choose line_kinds
    no_kind (Word k e) n h = absurd n
    no_kind (Mark b e) n h = ap (choose line_kinds) h.read
    no_kind Bad n h = ap (choose line_kinds) h.1
    no_kind End n h = ap (choose line_kinds) h

    pub no_word_first : (t : Token) → t ≡ token_at s 0 → NoWord t → (left : List ℕ) → left ≡ zeros 4096
        → ReadsLine raw st names out (Err BadNotation) names left
    unfolding cause_of
    no_word_first t e w left z = (
      z,
      refl,
      (λ q before a k n. fate_is q before a n wrong (no_kind t w (token_found s 0 t t e refl)) ∙ fate_wrong q ended n wrong refl),
    )

    -- a word stands first: the line is taken or refused as its kind says
    module _ (k : Key) (at : ℕ) (f : ScannedWord s 0 k at) (l : Returned LineState Reason) (names' out' : List ℕ)
        (h : KindOutcome (After-word f.spelling) s at ended st names out l names' out') where
      abbrev SaysOfKind : Query → List ℕ → Returned LineState Reason → Type 0
      SaysOfKind q before =
          KindSays (λ n. read_line q n (whole_line ended (After-word f.spelling (tokens (drop at s))))) q (st.used + (length s - at) + 1) before
          names' out'

      pub word_taken : (next : LineState) → l ≡ Ok next → ReadsLine raw st names out (Ok next) names' out'
      word_taken next e = (
        tt,
        tt,
        (λ q before a m. let t = subst (SaysOfKind q before) e (h q before a m) in
            record {
              line = t.line;
              fate = λ n. fate_is q before a n (After-word f.spelling (tokens (drop at s))) (ap (choose line_kinds) f.read) ∙ t.fated n;
              after = t.after;
              knows = t.knows;
              small = t.small;
              short = omega (arith, t.short, f.after, f.within);
            }),
      )

      pub word_refused : KeepsNames l names names' → (c : Reason) → l ≡ Err c → (left : List ℕ) → left ≡ zeros 4096
          → ReadsLine raw st names out (Err c) names' left
      word_refused kept c e left z = (
        z,
        subst (λ x. KeepsNames x names names') e kept,
        (λ q before a m n.
            fate_is q before a n (After-word f.spelling (tokens (drop at s))) (ap (choose line_kinds) f.read)
            ∙ subst (SaysOfKind q before) e (h q before a m) n),
      )
