-- Readers that try a round bracket first, of tests and of expressions: the bracket itself, the 33rd, and none.
-- Assumes nothing.
use Prim.Native.Nat.{ℕ, zero, suc, ◌-◌, ◌≤◌}
use native.Mathlib.Omega.{arith}
use mathlib.Core.Path.{◌≡◌, refl, sym}
use mathlib.Core.Bool.{true, false}
use mathlib.Core.List.{List, [], append-nil}
use lib.Dec.{eqb}
use lib.ListN.{drop}
use borrow.Author.Tests.{eq-eqb, ne_eqb}
use Rattle.claims.specs.Bytes.{byte}
use Rattle.claims.specs.Tokens.{Token, tokens}
use Rattle.claims.specs.Grammar.{Found, deep, and_then, goes_on, past, before_mark}
use Rattle.claims.specs.Names.{Use}
use Rattle.claims.specs.Query.{Query}
use Rattle.std.specs.Prelude.{Some, None, Result}
use Rattle.read_tests.specs.declared.Place.{Place}
use Rattle.read_tests.specs.declared.Fault.{Fault}
use Rattle.read_next.specs.Next.{mark_next}
use Rattle.read_tests.specs.Places.{ReaderOutcome, Finds, opened}
use Rattle.read_next.proofs.Next.{mark_stands, mark_missing, goes_on_lem}
use Rattle.read_tests.proofs.Outcomes.{outcome_by}
use Rattle.read_tests.proofs.Bracketed.{Bracket}

-- the readers of one kind of tree that a round bracket may begin, and what is written and used of a tree
pub record Rounds (A : Type 0) : Type 0 where
  pub outer : ℕ → ℕ → List Token → Found A
  pub inner : ℕ → ℕ → List Token → Found A
  pub plain : ℕ → ℕ → List Token → Found A
  pub codes : Query → A → List ℕ
  pub uses : A → List Use

-- the grammar's reader `outer` reads what `inner` reads in round brackets, and else what `plain` reads
pub record Rounded {A : Type 0} (R : Rounds A) : Type 0 where
  pub step : (n d : ℕ) (ts : List Token)
      → R.outer (suc n) d ts
      ≡ elim (goes_on (byte "(") ts) [
        | true ↦ elim (eqb d 32) [
          | true ↦ deep
          | false ↦ and_then (R.inner n (suc d) (past ts)) (λ t us. before_mark (byte ")") t us)
        ]
        | false ↦ R.plain n d ts
      ]

-- where `depth` brackets may still be opened
module _ {A : Type 0} {R : Rounds A} (L : Rounded R) (depth : ℕ) where
  pub round_opens : depth ≤ 32 → (depth ≡ 0 → ⊥) → (n : ℕ) (ts : List Token) → goes_on (byte "(") ts ≡ true
      → R.outer (suc n) (opened depth) ts ≡ and_then (R.inner n (opened (depth - 1)) (past ts)) (λ t us. before_mark (byte ")") t us)
  round_opens most more n ts h =
      let few : opened depth ≡ 32 → ⊥ = λ e. more (omega arith) in
      let next : opened (depth - 1) ≡ suc (opened depth) = omega arith in
      rw (L.step n (opened depth) ts, h, ne_eqb (opened depth) 32 few, next)

  abbrev pub round_bracket : depth ≤ 32 → (depth ≡ 0 → ⊥) → Bracket A A
  round_bracket most more =
      record {
        outer = R.outer;
        inner = R.inner;
        depth = opened depth;
        within = opened (depth - 1);
        wrap = λ t. t;
        opening = byte "(";
        closing = byte ")";
        extra = [];
        inner_codes = R.codes;
        outer_codes = R.codes;
        inner_uses = R.uses;
        outer_uses = R.uses;
        opens = round_opens most more;
        codes_wrap = λ q t. sym (append-nil (R.codes q t));
        uses_wrap = λ t. refl;
      }

  too_deep_lem : (ts : List Token) → depth ≡ 0 → goes_on (byte "(") ts ≡ true → Finds R.outer (opened depth) 1 ts deep
  too_deep_lem ts none h zero l = absurd (omega arith)
  too_deep_lem ts none h (suc f) l = rw (L.step f (opened depth) ts, h, eq-eqb (opened depth) 32 (omega arith))

  -- the way out that meets the 33rd bracket
  pub round_deep : (s : List ℕ) (p : Place) (next : ℕ) → Some next ≡ mark_next s p.at (byte "(") → depth ≡ 0
      → Finds R.outer (opened depth) 1 (tokens (drop p.at s)) deep
  round_deep s p next asked none =
      too_deep_lem (tokens (drop p.at s)) none (goes_on_lem s p.at (byte "(") next (mark_stands s p.at (byte "(") next asked))

-- the way out that meets no bracket, where d are open
module _ {A : Type 0} {R : Rounds A} (L : Rounded R) (d : ℕ) where
  no_bracket : (ts : List Token) (x : Found A) → goes_on (byte "(") ts ≡ false → ((f : ℕ) → R.plain f d ts ≡ x) → Finds R.outer d 1 ts x
  no_bracket ts x h e zero l = absurd (omega arith)
  no_bracket ts x h e (suc f) l = rw (L.step f d ts, h) (e f)

  pub round_none : (s : List ℕ) (p : Place) → None ≡ mark_next s p.at (byte "(")
      → (Reads : List Token → Found A → Type 0)
      → ((y : Found A) → Reads (tokens (drop p.at s)) y → (f : ℕ) → R.plain f d (tokens (drop p.at s)) ≡ y)
      → (names : List ℕ) (n : ℕ) (before after : List ℕ) (x : Result Place Fault) → ReaderOutcome Reads R.codes R.uses s names n p before after x
      → ReaderOutcome (Finds R.outer d 1) R.codes R.uses s names n p before after x
  round_none s p asked Reads h names n before after =
      outcome_by Reads (Finds R.outer d 1) R.codes R.uses s names n p before after
      (λ y r. no_bracket (tokens (drop p.at s)) y (mark_missing s p.at (byte "(") asked) (h y r))
