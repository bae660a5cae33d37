-- A line is taken or refused: what the state, the table of names and the codes are after it. The idea: the check of the line decides, and what
-- its body promises is carried over by two laws, one for lines that declare a name and one for those that declare none.
-- Assumes nothing.
use Prim.Native.Nat.{ℕ, ◌+◌, ◌-◌, ◌≤◌, ◌<◌}
use native.Mathlib.Omega.{arith}
use mathlib.Core.Path.{◌≡◌, refl, sym, ap, ◌∙◌, subst, subst⁻¹}
use mathlib.Core.Bool.{Bool, true, false, cond}
use lib.Dec.{eqb, leb}
use mathlib.Core.List.{List, [], ◌∷◌, ◌++◌}
use mathlib.Core.Option.{none}
use lib.ListN.{length, drop, length-map}
use lib.Seq.{sets}
use borrow.Author.Tests.{leb-false}
use Rattle.std.specs.Prelude.{Result as Returned, Ok, Err}
use Rattle.claims.specs.Tokens as Notation
use Rattle.claims.specs.Tokens.{tokens}
use Rattle.claims.specs.Grammar.{Found}
use Rattle.claims.specs.Tree.{Tree, Line}
use Rattle.claims.specs.Names.{uses, first_slip}
use Rattle.claims.specs.Query.{Query, Bound, each, tests, relations, lets}
use Rattle.claims.specs.Reading.{crowded, read_line}
use Rattle.claims.specs.Refusals.{Result, ok, refuse}
use Rattle.codes.specs.Codes.{let_names, line_codes}
use Rattle.read_tokens.specs.declared.Key.{Key}
use Rattle.read_tokens.specs.Scan.{token_at}
use Rattle.read_tests.specs.declared.Place.{Place}
use Rattle.read_tests.specs.declared.Fault.{Fault}
use Rattle.refusals.specs.declared.Reason.{Reason}
use Rattle.refusals.specs.declared.Reason.TheVariants.{TooMany}
use Rattle.read_declarations.specs.declared.LineState.{LineState}
use Rattle.read_names.specs.Keys as Keys
use Rattle.read_declarations.specs.State.{After, Small, Tabled, KeepsNames}
use Rattle.refusals.specs.Causes.{cause_of}
use Rattle.read_names.specs.Keys.{entered}
use Rattle.read_declarations.specs.inner.Declaring.{count_of, number_of, most_of, one_if, one_more, declared_read, declared_names, DeclaresNext}
use Rattle.read_declarations.specs.inner.Kinds.{checked, plain_read, whole_line, KindSays, KindOutcome}
use Rattle.read_bodies.specs.Bodies.{Behind, Ends, Body, BodySays, BodyOutcome, Bare, word_of}
use Rattle.read_declarations.proofs.Declared.{bare_plain, after_declared, after_plain, knows_declared, knows_plain}
use Rattle.read_declarations.proofs.Fates.{Whole, fine_whole, faulty_fate, fate_crowded, fate_taken, clean_slips}

-- the table of names, as the readers of T and E want it
known : (q : Query) (st : LineState) (before out names : List ℕ) → After q st before out → Small st → Tabled names st.names q
    → Keys.Knows names st.names q
unfolding let_names
known q st before out names a m k =
    record {
      codes = λ w sp. k.found w sp.like sp.bytes;
      few_tests = omega (arith, a.tests, m.tests);
      few_relations = omega (arith, a.relations, m.relations);
      few_lets = omega (arith, a.lets, m.lets, length-map (each lets q) (λ (b : Bound Tree). b.called));
    }

-- the state counts the names of a kind; where there may be more of them, one more is not too many
counted : (of : ℕ) (q : Query) (st : LineState) (before out : List ℕ) → After q st before out → count_of of st ≡ number_of of q
unfolding count_of number_of
counted of q st before out a = go (eqb of 16) (eqb of 32)
  where
    go : (b c : Bool)
        → cond b st.tests (cond c st.relations st.lets) ≡ cond b (length (tests q)) (cond c (length (relations q)) (length (each lets q)))
    go true c = a.tests
    go false true = a.relations
    go false false = a.lets

small_more : (of u : ℕ) (st : LineState) → Small st → st.names ≡ st.tests + st.relations + st.lets
    → one_if of 16 + one_if of 32 + one_if of 64 ≡ 1 → count_of of st < most_of of → Small (one_more of u st)
unfolding count_of most_of one_more
small_more of u st m n = go (eqb of 16) (eqb of 32) (eqb of 64)
  where
    fits : (i j k : ℕ) → i + j + k ≡ 1 → st.tests + i ≤ 6 → st.relations + j ≤ 16 → st.lets + k ≤ 32
        → Small (record { used = u; names = st.names + 1; tests = st.tests + i; relations = st.relations + j; lets = st.lets + k; claimed = st.claimed })
    fits i j k o e f g = record { tests = e; relations = f; lets = g; names = omega arith }

    go : (a b c : Bool) → cond a 1 0 + cond b 1 0 + cond c 1 0 ≡ 1
        → cond a st.tests (cond b st.relations st.lets) < cond a 6 (cond b 16 32)
        → Small (record { used = u; names = st.names + 1; tests = st.tests + cond a 1 0; relations = st.relations + cond b 1 0; lets = st.lets + cond c 1 0; claimed = st.claimed })
    go true false false e h = fits 1 0 0 refl (omega arith) (omega (arith, m.relations)) (omega (arith, m.lets))
    go false true false e h = fits 0 1 0 refl (omega (arith, m.tests)) (omega arith) (omega (arith, m.lets))
    go false false true e h = fits 0 0 1 refl (omega (arith, m.tests)) (omega (arith, m.relations)) (omega arith)
    go true true true e h = absurd (omega arith)
    go true true false e h = absurd (omega arith)
    go true false true e h = absurd (omega arith)
    go false true true e h = absurd (omega arith)
    go false false false e h = absurd (omega arith)

-- a refused line leaves the table of names as it was
pub kept_plain : (l : Returned LineState Reason) (names : List ℕ) → KeepsNames l names names
kept_plain (Ok next) names = tt
kept_plain (Err c) names = refl

pub kept_declared : (of : ℕ) (st : LineState) (k : Key) (x : Returned ℕ Reason) (names : List ℕ) (l : Returned LineState Reason) (names' : List ℕ)
    → (l ≡ declared_read of st x) × (names' ≡ declared_names k of st x names) → KeepsNames l names names'
unfolding declared_read declared_names
kept_declared of st k x names l names' (e, f) =
    subst⁻¹ (λ y. KeepsNames y names names') e (subst⁻¹ (KeepsNames (declared_read of st x) names) f (go x))
  where
    by : (b : Bool) (next : LineState) (more : List ℕ) → KeepsNames (cond b (Err TooMany) (Ok next)) names (cond b names more)
    by true next more = refl
    by false next more = tt

    go : (x : Returned ℕ Reason) → KeepsNames (declared_read of st x) names (declared_names k of st x names)
    go (Ok u) = by (leb (most_of of) (count_of of st)) (one_more of u st) (entered names st.names k (of + count_of of st))
    go (Err w) = refl

module _ (D : List Notation.Token → Found Line) (K : Line → Type 0) (s : List ℕ) (at : ℕ) (ended : Bool) (st : LineState) (names out out' : List ℕ)
    (r : Returned Place Fault) (small : Small st) (body : BodyOutcome D K s names st.names at st.used out out' r) where
  abbrev fate : Query → ℕ → Result Line
  fate q n = read_line q n (whole_line ended (D (tokens (drop at s))))

  abbrev most : ℕ
  most = st.used + (length s - at) + 1

  module _ (q : Query) (before : List ℕ) (a : After q st before out) (k : Tabled names st.names q) where
    says : BodySays D K q s at st.used out out' r
    says = body.1 q (known q st before out names a small k)

    refuses : (w : Reason) → checked s ended r ≡ Err w → (n : ℕ) → fate q n ≡ refuse (cause_of w) n
    refuses w e n = faulty_fate D K q s at st.used out out' ended w r e says n

    module _ (u : ℕ) (e : checked s ended r ≡ Ok u) where
      whole : Whole s ended r u
      whole = fine_whole s ended r u e

      read : Body D K q s at st.used out out' whole.place
      read = subst (BodySays D K q s at st.used out out') whole.reached says

      clean : first_slip q (uses read.line) ≡ none
      clean = clean_slips q (uses read.line) whole.place.slip read.slip whole.clean

      stored : out' ≡ sets out st.used (line_codes q read.line)
      stored = read.written whole.clean

      grown : u ≡ st.used + length (line_codes q read.line)
      grown = whole.used ∙ read.used

      short : u ≤ most
      short =
          let b : Behind s at st.used 1 whole.place = subst (Ends s at st.used 1 out') whole.reached body.0 in
          omega (arith, b.room, whole.used)

      crowds : crowded q read.line ≡ true → (n : ℕ) → fate q n ≡ refuse (cause_of TooMany) n
      unfolding cause_of
      crowds h n =
          fate_crowded q ended n (D (tokens (drop at s))) read.line (tokens (drop whole.place.at s)) read.read whole.ends clean h

      taken : crowded q read.line ≡ false → (n : ℕ) → fate q n ≡ ok read.line
      taken h n =
          fate_taken q ended n (D (tokens (drop at s))) read.line (tokens (drop whole.place.at s)) read.read whole.ends clean h

    -- a line that declares nothing, by its check
    plain_says : (c : Bool) → ((l : Line) → K l → Bare c l) → (x : Returned ℕ Reason) → checked s ended r ≡ x
        → KindSays (fate q) q most before names out' (plain_read st c x)
    unfolding plain_read
    plain_says c bare (Err w) e = refuses w e
    plain_says c bare (Ok u) e =
        let l = (read u e).line in
        let p = bare_plain c l (bare l (read u e).sort) in
        record {
          line = l;
          fated = taken u e (p.free q);
          after = after_plain q st before out a c l p u out' (stored u e) (grown u e);
          knows = knows_plain names st.names q k c l p;
          small = record { tests = small.tests; relations = small.relations; lets = small.lets; names = small.names };
          short = short u e;
        }

    -- a line that declares a name: one too many, or an entry more in the table
    module _ (of : ℕ) (names? : (l : Line) → K l → DeclaresNext of s at l) where
      name_says : (u : ℕ) → checked s ended r ≡ Ok u → (b : Bool) → leb (most_of of) (count_of of st) ≡ b
          → KindSays (fate q) q most before (cond b names (entered names st.names (word_of (token_at s at)) (of + count_of of st))) out'
          (cond b (Err TooMany) (Ok (one_more of u st)))
      unfolding one_more
      name_says u e true h =
          let l = (read u e).line in
          let (w, d, i) = names? l (read u e).sort in
          crowds u e (d.crowds q ∙ ap (leb (most_of of)) (sym (counted of q st before out a)) ∙ h)
      name_says u e false h =
          let l = (read u e).line in
          let (w, d, i) = names? l (read u e).sort in
          let m = leb-false (most_of of) (count_of of st) h in
          record {
            line = l;
            fated = taken u e (d.crowds q ∙ ap (leb (most_of of)) (sym (counted of q st before out a)) ∙ h);
            after = after_declared q st before out a of w l d u out' (stored u e) (grown u e);
            knows =
                subst⁻¹ (λ x. Tabled (entered names st.names x (of + count_of of st)) (st.names + 1) (q ++ (l ∷ []))) i.key
                (knows_declared names st.names q k of w l d (of + count_of of st) i.spelled (omega (arith, small.names)) (clean u e)
                (ap (λ x. of + x) (counted of q st before out a)));
            small = small_more of u st small a.names d.one (omega (arith, m));
            short = short u e;
          }

      declared_says : (x : Returned ℕ Reason) → checked s ended r ≡ x
          → KindSays (fate q) q most before (declared_names (word_of (token_at s at)) of st x names) out' (declared_read of st x)
      unfolding declared_names declared_read
      declared_says (Err w) e = refuses w e
      declared_says (Ok u) e = name_says u e (leb (most_of of) (count_of of st)) refl

  pub plain_outcome : (c : Bool) → ((l : Line) → K l → Bare c l) → (l : Returned LineState Reason) → l ≡ plain_read st c (checked s ended r)
      → KindOutcome D s at ended st names out l names out'
  plain_outcome c bare l le q before a k =
      subst⁻¹ (KindSays (fate q) q most before names out') le (plain_says q before a k c bare (checked s ended r) refl)

  pub declared_outcome : (of : ℕ) → ((l : Line) → K l → DeclaresNext of s at l) → (l : Returned LineState Reason) (names' : List ℕ)
      → (l ≡ declared_read of st (checked s ended r)) × (names' ≡ declared_names (word_of (token_at s at)) of st (checked s ended r) names)
      → KindOutcome D s at ended st names out l names' out'
  declared_outcome of names? l names' (le, ne) q before a k =
      subst⁻¹ (KindSays (fate q) q most before names' out') le
      (subst⁻¹ (λ x. KindSays (fate q) q most before x out' (declared_read of st (checked s ended r))) ne
      (declared_says q before a k of names? (checked s ended r) refl))
