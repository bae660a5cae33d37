-- Readers of T, by the grammar's definitions: the two chains, prefix `!`, round brackets.
-- Assumes nothing.
use Prim.Native.Nat.{ℕ, zero, suc, ◌+◌, ◌*◌, ◌≤◌}
use native.Mathlib.Omega.{arith}
use mathlib.Core.Path.{◌≡◌, refl, sym, ap, ◌∙◌}
use mathlib.Core.Bool.{false}
use mathlib.Core.List.{List, [], ◌∷◌, ◌++◌, append_assoc, append-nil}
use lib.ListN.{length, drop, replicate, length-append, length-replicate}
use Rattle.claims.specs.Bytes.{byte}
use Rattle.claims.specs.Tokens as Notation
use Rattle.claims.specs.Tokens.{Token, tokens}
use Rattle.claims.specs.Grammar.{Found, got, wrong, deep, and_then, goes_on, test_union, test_union_more, test_meet, test_meet_more, test_not, test_basic, test_word}
use Rattle.claims.specs.Lines.{condition}
use Rattle.claims.specs.Tree.{TestTree, either, both, not}
use Rattle.claims.specs.Names.{test_uses}
use Rattle.claims.specs.Query.{Query}
use Rattle.codes.specs.Codes.{OR, AND, NOT, test_codes}
use Rattle.std.specs.Prelude.{Result, Ok, Err}
use Rattle.read_tests.specs.declared.Place.{Place}
use Rattle.read_next.specs.declared.Run.{Run}
use Rattle.read_tests.specs.declared.Fault.{Fault}
use Rattle.read_next.specs.Next.{MarksNext}
use Rattle.read_next.specs.Written.{used_after, written_after}
use Rattle.read_tests.specs.Places.{Room, Read, TestOutcome, Finds, Is}
use Rattle.read_next.proofs.Stores.{replicate_more, written_room}
use Rattle.read_tests.proofs.Told.{told_store, told_as, told_from}
use Rattle.read_tests.proofs.Outcomes.{handed_on, outcome_of_all}
use Rattle.read_tests.proofs.Chains.{Chain, Chained}
use Rattle.read_tests.proofs.Rounds.{Rounds, Rounded}

-- `|`
abbrev pub union_chain : Chain TestTree
union_chain =
    record { whole = test_union; operand = test_meet; more = test_union_more; join = either; sign = byte "|"; code = OR; codes = test_codes; uses = test_uses }

pub unions : Chained union_chain
unfolding test_union test_union_more test_codes test_uses
unions = record { first = λ n d ts. refl; step = λ n d t ts. refl; codes_join = λ q t u. refl; uses_join = λ t u. refl }

-- `&`
abbrev pub meet_chain : Chain TestTree
meet_chain =
    record { whole = test_meet; operand = test_not; more = test_meet_more; join = both; sign = byte "&"; code = AND; codes = test_codes; uses = test_uses }

pub meets : Chained meet_chain
unfolding test_meet test_meet_more test_codes test_uses
meets = record { first = λ n d ts. refl; step = λ n d t ts. refl; codes_join = λ q t u. refl; uses_join = λ t u. refl }

-- round brackets, or a name, `true` or `false`
abbrev pub basic_rounds : Rounds TestTree
basic_rounds = record { outer = test_basic; inner = test_union; plain = λ n d ts. test_word ts; codes = test_codes; uses = test_uses }

pub basics : Rounded basic_rounds
unfolding test_basic
basics = record { step = λ n d ts. refl }

-- prefix `!`, as often as it stands
abbrev nots : ℕ → TestTree → TestTree
nots zero t = t
nots (suc k) t = not (nots k t)

nots_codes : (q : Query) (k : ℕ) (t : TestTree) → test_codes q (nots k t) ≡ test_codes q t ++ replicate k NOT
unfolding test_codes
nots_codes q zero t = sym (append-nil (test_codes q t))
nots_codes q (suc k) t =
    ap (λ l. l ++ (NOT ∷ [])) (nots_codes q k t) ∙ append_assoc (test_codes q t) (replicate k NOT) (NOT ∷ [])
    ∙ ap (λ l. test_codes q t ++ l) (replicate_more k NOT)

nots_uses : (k : ℕ) (t : TestTree) → test_uses (nots k t) ≡ test_uses t
unfolding test_uses
nots_uses zero t = refl
nots_uses (suc k) t = nots_uses k t

-- what is found, under k of them
abbrev negated : ℕ → Found TestTree → Found TestTree
negated k x = and_then x (λ t us. got (nots k t) us)

negated_none : (x : Found TestTree) → x ≡ negated 0 x
negated_none (got t us) = refl
negated_none wrong = refl
negated_none deep = refl

negated_more : (k : ℕ) (x : Found TestTree) → and_then (negated k x) (λ t us. got (not t) us) ≡ negated (suc k) x
negated_more k (got t us) = refl
negated_more k wrong = refl
negated_more k deep = refl

not_next : (n d : ℕ) (ts : List Token) → test_not (suc n) d (Notation.mark (byte "!") ∷ ts) ≡ and_then (test_not n d ts) (λ t us. got (not t) us)
unfolding test_not
not_next n d ts = refl

not_stop : (n d : ℕ) (ts : List Token) → goes_on (byte "!") ts ≡ false → test_not (suc n) d ts ≡ test_basic n d ts
unfolding test_not
not_stop n d ts h = rw (h, test_not)

nots_read : (k d f : ℕ) (ts : List Token) → goes_on (byte "!") ts ≡ false → 8 * length (replicate k (Notation.mark (byte "!")) ++ ts) + 2 ≤ f
    → (g : ℕ) × (8 * length ts + 1 ≤ g) × (test_not f d (replicate k (Notation.mark (byte "!")) ++ ts) ≡ negated k (test_basic g d ts))
nots_read zero d zero ts h l = absurd (omega arith)
nots_read zero d (suc g) ts h l = (g, omega arith, not_stop g d ts h ∙ negated_none (test_basic g d ts))
nots_read (suc k) d zero ts h l = absurd (omega arith)
nots_read (suc k) d (suc f) ts h l =
    let (g, m, e) = nots_read k d f ts h (omega arith) in
    (g, m, not_next f d (replicate k (Notation.mark (byte "!")) ++ ts) ∙ ap (λ x. and_then x (λ t us. got (not t) us)) e ∙ negated_more k (test_basic g d ts))

-- what stands behind the run
abbrev pub behind_run : Place → Run → Place
behind_run p m = record { at = m.at; used = p.used; slip = p.slip }

-- the ways out of the reader of prefix `!`, over the answers of the functions that it calls
module _ (d : ℕ) (s names : List ℕ) (n : ℕ) (p : Place) (before : List ℕ) (m : Run) (run : MarksNext s p.at (byte "!") m)
    (mid : List ℕ) where
  under : (y : Found TestTree) → Finds test_basic d 1 (tokens (drop m.at s)) y → Finds test_not d 2 (tokens (drop p.at s)) (negated m.count y)
  under y h f l =
      let (g, i, e) = nots_read m.count d f (tokens (drop m.at s)) run.stop (omega (arith, ap length run.read)) in
      ap (λ ts. test_not f d ts) run.read ∙ e ∙ ap (negated m.count) (h g i)

  abbrev Under : Result Place Fault → Type 0
  Under = TestOutcome (Finds test_basic d 1) s names n (behind_run p m) before mid

  pub nots_fault : (e : Fault) → Under (Err e) → TestOutcome (Finds test_not d 2) s names n p before mid (Err e)
  nots_fault e o =
      handed_on Under (TestOutcome (Finds test_not d 2) s names n p before mid) (λ h. (under wrong h.0, h.1)) (λ h. (under deep h.0, h.1)) e o

  module _ (r : Place) (there : Read (Finds test_basic d 1) test_codes test_uses s names n (behind_run p m) before mid r) where
    pub nots_got : (after : List ℕ) (used : ℕ) → Room s p
        → (used ≡ used_after r.used m.count) × (after ≡ written_after mid r.used m.count NOT)
        → TestOutcome (Finds test_not d 2) s names n p before after (Ok (record { at = r.at; used = used; slip = r.slip }))
    nots_got after used h w =
        let t = there.tree in
        let v = there.moved in
        let fits : r.used + m.count ≤ 4096 = omega (arith, v.room, run.room) in
        let (u, a) = written_room mid r.used m.count NOT used after w fits in
        let e : Place = record { at = r.at; used = used; slip = r.slip } in
        record {
          tree = nots m.count t;
          read = under (got t (tokens (drop r.at s))) there.read;
          moved =
              record {
                onward = omega (arith, run.onward, v.onward);
                within = v.within;
                room = omega (arith, run.room, v.room, u);
                fewer =
                    omega (
                      arith,
                      v.fewer,
                      ap length run.read,
                      length-append (replicate m.count (Notation.mark (byte "!"))) (tokens (drop m.at s)),
                    );
              };
          told =
              λ q known. told_as q p before after e (test_codes q t ++ replicate m.count NOT) (test_uses t)
              (told_store q p before mid r (test_codes q t) (test_uses t)
              (told_from q p m.at before mid r (test_codes q t) (test_uses t) (there.told q known))
              after e (replicate m.count NOT) refl a (u ∙ ap (λ l. r.used + l) (sym (length-replicate {A = ℕ} m.count NOT))))
              (test_codes q (nots m.count t)) (test_uses (nots m.count t)) (sym (nots_codes q m.count t)) (sym (nots_uses m.count t));
        }

-- T with no open bracket
pub condition_read : (s names : List ℕ) (n : ℕ) (p : Place) (before after : List ℕ) (x : Result Place Fault)
    → TestOutcome (Finds test_union 0 4) s names n p before after x → TestOutcome (Is condition) s names n p before after x
unfolding condition
condition_read s names n p before after x o = outcome_of_all test_union test_codes test_uses s names n p before after x o
