-- What stands behind a line's first word, by what the code finds: a name that is declared, a let, a relation that is closed or limited.
-- Assumes nothing.
use Prim.Native.Nat.{ℕ, ◌+◌}
use native.Mathlib.Omega.{arith}
use mathlib.Core.Path.{◌≡◌, refl, sym, ap, ◌∙◌}
use mathlib.Core.Bool.{Bool, true, false}
use mathlib.Core.List.{List, [], ◌∷◌, ◌++◌, append_assoc}
use lib.ListN.{length, drop, replicate, length-append}
use lib.Seq.{sets}
use Rattle.std.specs.Prelude.{Result, Ok}
use Rattle.claims.specs.Bytes.{byte}
use Rattle.claims.specs.Tokens as Notation
use Rattle.claims.specs.Tokens.{tokens}
use Rattle.claims.specs.Grammar.{Found, got, wrong, deep, and_then, goes_on, past, name_next}
use Rattle.claims.specs.Tree.{Name, TestTree, Line, test_line, rel_line, let_line, never_line, within_line, closed_line}
use Rattle.claims.specs.Lines.{declared, mapped, expression, condition, bracketed, let_reader, within_reader}
use Rattle.claims.specs.Names.{declares, uses_relation, test_uses, tree_uses, uses, first_slip}
use Rattle.claims.specs.Query.{Limit, index_of, relations}
use Rattle.codes.specs.Codes.{test_codes, tree_codes, line_codes}
use Rattle.read_tokens.specs.declared.Key.{Key}
use Rattle.read_tokens.specs.declared.Token.{Token}
use Rattle.read_tokens.specs.declared.Token.TheVariants.{Word}
use Rattle.read_tokens.specs.Scan.{token_at}
use Rattle.read_names.specs.Keys.{reserved_key, find_in}
use Rattle.read_tokens.proofs.Tokens.{ScannedWord, ScannedMark}
use Rattle.read_tests.specs.declared.Place.{Place}
use Rattle.read_tests.specs.declared.Fault.{Fault}
use Rattle.read_names.specs.declared.Slip.{Slip}
use Rattle.read_names.specs.declared.Slip.TheVariants.{Clean, Unknown, OtherKind, Twice, Reserved}
use Rattle.read_names.specs.Slips.{first_of, slip_by, slip_of_code, declared_slip, relation_number}
use Rattle.read_bodies.specs.Bodies.{TestThen, ending, BodyOutcome, Bare, Declaration, Declares, DeclaresLet}
use Rattle.read_bodies.specs.inner.Parts.{TreeThen, limits_reader, limit_codes, limit_uses, LimitsThen}
use Rattle.read_next.proofs.Next.{goes_on_lem, passed}
use Rattle.read_bodies.proofs.Parts.{tree_line}
use Rattle.read_bodies.proofs.NextWords.{named_here, declared_here, name_reserved, name_here, declared_slip_lem, relation_slip_lem, relation_number_lem, slip_first, slip_alone}

-- a name that is declared, with the line's code
module _ (kind : Name → Line) (code : ℕ) (d : Declaration kind code) (s names : List ℕ) (n at used : ℕ) where
  pub declaration_got : (t : Token) (k : Key) (next : ℕ) → t ≡ token_at s at → t ≡ Word k next → ScannedWord s at k next
      → (i : Slip) (end : ℕ) (before after : List ℕ) → i ≡ declared_slip n names k
      → (end ≡ used + 1) × (after ≡ sets before used (replicate 1 code))
      → BodyOutcome (λ ts. mapped kind (declared ts)) (Declares kind s at) s names n at used before after
      (Ok (record { at = next; used = end; slip = i }))
  declaration_got t k next e h f i end before after j (u, v) = (
    record { onward = f.after; within = f.within; room = omega (arith, u, f.after, f.within) },
    (λ q m. record {
      line = kind f.spelling;
      sort = (f.spelling, refl, named_here s at k next f t e h);
      read = ap (mapped kind) (declared_here s at k next f);
      slip =
          j ∙ declared_slip_lem s at k next f names n q m ∙ sym (slip_alone q (declares f.spelling))
          ∙ ap (λ us. slip_by (first_slip q us)) (sym (d.names f.spelling));
      written = λ z. v ∙ ap (sets before used) (sym (d.codes q f.spelling));
      used = omega (arith, u, ap length (d.codes q f.spelling));
    }),
  )

-- `N = E`
pub let_none : (ts : List Notation.Token) → declared ts ≡ wrong → let_reader ts ≡ wrong
unfolding let_reader
let_none ts e = rw (e, let_reader)

module _ (s : List ℕ) (at : ℕ) (k : Key) (next : ℕ) (f : ScannedWord s at k next) where
  let_begun : let_reader (tokens (drop at s))
      ≡ elim (goes_on (byte "=") (tokens (drop next s))) [
        | true ↦ mapped (let_line f.spelling) (expression (past (tokens (drop next s))))
        | false ↦ wrong
      ]
  unfolding let_reader
  let_begun = rw (declared_here s at k next f, let_reader)

  pub let_unequal : goes_on 61 (tokens (drop next s)) ≡ false → let_reader (tokens (drop at s)) ≡ wrong
  let_unequal e = let_begun ∙ rw e

  module _ (start : ℕ) (m : ScannedMark s next 61 start) where
    let_equal : let_reader (tokens (drop at s)) ≡ mapped (let_line f.spelling) (expression (tokens (drop start s)))
    let_equal =
        let_begun ∙ rw (goes_on_lem s next 61 start m)
        (ap (λ ts. mapped (let_line f.spelling) (expression ts)) (passed s next 61 start m))

    pub let_passed : (t : Token) → t ≡ token_at s at → t ≡ Word k next → (names : List ℕ) (n used : ℕ) (i : Slip) (before after : List ℕ)
        → i ≡ declared_slip n names k → (r : Result Place Fault)
        → TreeThen 130 s names n (record { at = start; used = used; slip = i }) before after r
        → BodyOutcome let_reader (DeclaresLet s at) s names n at used before after r
    unfolding uses line_codes
    let_passed t e h names n used i before after j =
        tree_line expression (ending 130 tree_codes) tree_uses let_reader (DeclaresLet s at) (let_line f.spelling) s names n at start used i before after
        let_equal (omega (arith, f.after, m.after))
        (λ q z x. record {
          sort = (f.spelling, x, refl, named_here s at k next f t e h);
          slip =
              ap (λ y. first_of y (slip_by (first_slip q (tree_uses x)))) (j ∙ declared_slip_lem s at k next f names n q z)
              ∙ sym (slip_first q (declares f.spelling) (tree_uses x));
          codes = λ y. refl;
          count = refl;
        })

-- `N`, a relation
module _ (s names : List ℕ) (n at used : ℕ) (k : Key) (next : ℕ) (f : ScannedWord s at k next) (b : Bool) (free : b ≡ reserved_key k) where
  pub closed_reserved : b ≡ true → name_next closed_line (tokens (drop at s)) ≡ wrong
  closed_reserved h = name_reserved s at k next f closed_line (sym free ∙ h)

  pub closed_got : b ≡ false → (c : ℕ) (i : Slip) (w : ℕ) → c ≡ find_in n names k → i ≡ slip_of_code 32 64 c → w ≡ relation_number c
      → (end : ℕ) (before after : List ℕ) → (end ≡ used + 1) × (after ≡ sets before used (replicate 1 (160 + w)))
      → BodyOutcome (λ ts. name_next closed_line ts) (Bare false) s names n at used before after
      (Ok (record { at = next; used = end; slip = i }))
  unfolding uses line_codes
  closed_got h c i w ce ie we end before after (u, v) = (
    record { onward = f.after; within = f.within; room = omega (arith, u, f.after, f.within) },
    (λ q m. record {
      line = closed_line f.spelling;
      sort = refl;
      read = name_here s at k next f closed_line (sym free ∙ h);
      slip =
          ie ∙ ap (slip_of_code 32 64) ce ∙ relation_slip_lem s at k next f names n q m ∙ sym (slip_alone q (uses_relation f.spelling));
      written = λ z.
          v ∙ ap (λ x. sets before used ((160 + x) ∷ []))
          (we ∙ ap relation_number ce ∙ relation_number_lem s at k next f names n q m (ap (slip_of_code 32 64) (sym ce) ∙ sym ie ∙ z));
      used = u;
    }),
  )

-- `N [T] [U]`
abbrev limited : Name → Limit → Line
limited w l = within_line w l.from l.to

abbrev limit : TestTree → TestTree → Limit
limit t u = record { from = t; to = u }

within_limits_lem : (w : Name) (us : List Notation.Token)
    → and_then (bracketed us) (λ t vs. mapped (within_line w t) (bracketed vs)) ≡ mapped (limited w) (limits_reader us)
unfolding limits_reader
within_limits_lem w us = first (bracketed us)
  where
    second : (t : TestTree) (x : Found TestTree)
        → mapped (within_line w t) x ≡ mapped (limited w) (mapped (limit t) x)
    second t (got u vs) = refl
    second t wrong = refl
    second t deep = refl

    first : (x : Found TestTree)
        → and_then x (λ t vs. mapped (within_line w t) (bracketed vs))
        ≡ mapped (limited w) (and_then x (λ t vs. mapped (limit t) (bracketed vs)))
    first (got t vs) = second t (bracketed vs)
    first wrong = refl
    first deep = refl

pub within_none : (ts : List Notation.Token) → name_next (λ n. n) ts ≡ wrong → within_reader ts ≡ wrong
unfolding within_reader
within_none ts e = rw (e, within_reader)

module _ (s names : List ℕ) (n at used : ℕ) (k : Key) (next : ℕ) (f : ScannedWord s at k next) (b : Bool) (free : b ≡ reserved_key k) where
  pub within_reserved : b ≡ true → within_reader (tokens (drop at s)) ≡ wrong
  within_reserved h = within_none (tokens (drop at s)) (name_reserved s at k next f (λ n. n) (sym free ∙ h))

  within_begun : b ≡ false
      → within_reader (tokens (drop at s)) ≡ mapped (limited f.spelling) (limits_reader (tokens (drop next s)))
  unfolding within_reader
  within_begun h = rw (name_here s at k next f (λ n. n) (sym free ∙ h), within_reader) (within_limits_lem f.spelling (tokens (drop next s)))

  pub within_passed : b ≡ false → (c : ℕ) (i : Slip) (w : ℕ) → c ≡ find_in n names k → i ≡ slip_of_code 32 64 c → w ≡ relation_number c
      → (before after : List ℕ) (r : Result Place Fault) → LimitsThen (144 + w) s names n (record { at = next; used = used; slip = i }) before after r
      → BodyOutcome within_reader (Bare false) s names n at used before after r
  unfolding uses line_codes
  within_passed h c i w ce ie we before after =
      tree_line limits_reader (ending (144 + w) limit_codes) limit_uses within_reader (Bare false) (limited f.spelling) s names n at next used i before
      after (within_begun h) (omega (arith, f.after))
      (λ q m l. record {
        sort = refl;
        slip =
            ap (λ x. first_of x (slip_by (first_slip q (limit_uses l)))) (ie ∙ ap (slip_of_code 32 64) ce ∙ relation_slip_lem s at k next f names n q m)
            ∙ sym (slip_first q (uses_relation f.spelling) (limit_uses l));
        codes = λ z.
            append_assoc (ending 6 test_codes q l.from) (ending 6 test_codes q l.to) ((144 + w) ∷ [])
            ∙ ap (λ x. ending 6 test_codes q l.from ++ (ending 6 test_codes q l.to ++ ((144 + x) ∷ [])))
            (we ∙ ap relation_number ce ∙ relation_number_lem s at k next f names n q m (ap (slip_of_code 32 64) (sym ce) ∙ sym ie ∙ no_first i _ z));
        count = lengths (ending 6 test_codes q l.from) (ending 6 test_codes q l.to) (144 + w) (144 + index_of f.spelling (relations q));
      })
    where
      no_first : (x y : Slip) → first_of x y ≡ Clean → x ≡ Clean
      no_first Clean y e = refl
      no_first Unknown y e = e
      no_first OtherKind y e = e
      no_first Twice y e = e
      no_first Reserved y e = e

      lengths : (cs ds : List ℕ) (x y : ℕ) → length ((cs ++ ds) ++ (x ∷ [])) ≡ length (cs ++ (ds ++ (y ∷ [])))
      lengths cs ds x y = ap length (append_assoc cs ds (x ∷ [])) ∙ simp length-append

-- `never T`
pub never_passed : (s names : List ℕ) (n at used : ℕ) (before after : List ℕ) (r : Result Place Fault)
    → TestThen 131 s names n (record { at = at; used = used; slip = Clean }) before after r
    → BodyOutcome (λ ts. mapped never_line (condition ts)) (Bare false) s names n at used before after r
unfolding uses line_codes
never_passed s names n at used before after =
    tree_line condition (ending 131 test_codes) test_uses (λ ts. mapped never_line (condition ts)) (Bare false) never_line s names n at at used Clean before after
    refl (omega arith) (λ q m x. record { sort = refl; slip = refl; codes = λ z. refl; count = refl })

pub test_declares : Declaration test_line 128
unfolding uses line_codes
test_declares = record { codes = λ q w. refl; names = λ w. refl }

pub relation_declares : Declaration rel_line 129
unfolding uses line_codes
relation_declares = record { codes = λ q w. refl; names = λ w. refl }
