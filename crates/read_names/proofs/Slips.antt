-- The first slip of several names.
-- Assumes nothing.
use Prim.Native.Nat.{ℕ, suc, ◌+◌, ◌≤◌, ◌<◌}
use native.Mathlib.Omega.{arith}
use mathlib.Core.Path.{◌≡◌, refl, sym, ap, ◌∙◌}
use mathlib.Core.Bool.{Bool, true, false}
use mathlib.Core.List.{List, [], ◌∷◌, ◌++◌}
use mathlib.Core.Option.{Option, some, none}
use lib.ListN.{length}
use borrow.Author.Tests.{eq-eqb, ne_eqb, lt-ltb, le-ltb}
use Rattle.claims.specs.Bytes.{same}
use Rattle.claims.specs.Tree.{Name}
use Rattle.claims.specs.Refusals.{Cause}
use Rattle.claims.specs.Names.{Kind, a_test, a_relation, a_let, Use, uses_test, uses_either, kind_of, test_slip, either_slip, slip, first_slip}
use Rattle.claims.specs.Query.{Query, index_of, tests, relations}
use Rattle.codes.specs.Codes.{let_names, kind_code, code_of}
use Rattle.read_names.specs.Slips.{slip_by, first_of, slip_of_code}
use Rattle.read_names.specs.declared.Slip.{Slip}
use Rattle.read_names.specs.declared.Slip.TheVariants.{Clean, Unknown, OtherKind}
use Rattle.read_names.specs.Keys.{Knows}
use Rattle.read_names.proofs.FirstSlips.{first_none, first_assoc, first_cause}

slip_append : (q : Query) (us vs : List Use)
    → slip_by (first_slip q (us ++ vs)) ≡ first_of (slip_by (first_slip q us)) (slip_by (first_slip q vs))
unfolding first_slip
slip_append q [] vs = refl
slip_append q (u ∷ us) vs = go (slip q u) (slip_append q us vs)
  where
    go : (o : Option Cause)
        → slip_by (first_slip q (us ++ vs)) ≡ first_of (slip_by (first_slip q us)) (slip_by (first_slip q vs))
        → slip_by (elim o [ some c ↦ some c | none ↦ first_slip q (us ++ vs) ])
        ≡ first_of (slip_by (elim o [ some c ↦ some c | none ↦ first_slip q us ])) (slip_by (first_slip q vs))
    go (some c) h = first_cause c (slip_by (first_slip q vs))
    go none h = h

-- the names us, and then vs
pub slips_then : (q : Query) (us vs : List Use) (a b c : Slip) → b ≡ first_of a (slip_by (first_slip q us))
    → c ≡ first_of b (slip_by (first_slip q vs)) → c ≡ first_of a (slip_by (first_slip q (us ++ vs)))
slips_then q us vs a b c e f =
    f ∙ ap (λ x. first_of x (slip_by (first_slip q vs))) e
    ∙ first_assoc a (slip_by (first_slip q us)) (slip_by (first_slip q vs))
    ∙ ap (first_of a) (sym (slip_append q us vs))

pub no_slip : (q : Query) (a : Slip) → a ≡ first_of a (slip_by (first_slip q []))
unfolding first_slip
no_slip q a = first_none a

-- the slip of a code
module _ (low high c : ℕ) where
  pub code_none : c ≡ 0 → Unknown ≡ slip_of_code low high c
  unfolding slip_of_code
  code_none e = rw (eq-eqb c 0 e)

  pub code_below : (c ≡ 0 → ⊥) → c < low → OtherKind ≡ slip_of_code low high c
  unfolding slip_of_code
  code_below f h = rw (ne_eqb c 0 f, lt-ltb c low h)

  pub code_inside : (c ≡ 0 → ⊥) → low ≤ c → c < high → Clean ≡ slip_of_code low high c
  unfolding slip_of_code
  code_inside f l h = rw (ne_eqb c 0 f, le-ltb c low l, lt-ltb c high h)

  pub code_above : (c ≡ 0 → ⊥) → low ≤ c → high ≤ c → OtherKind ≡ slip_of_code low high c
  unfolding slip_of_code
  code_above f l h = rw (ne_eqb c 0 f, le-ltb c low l, le-ltb c high h)

index_within : (n : Name) (ns : List Name) → index_of n ns ≤ length ns
index_within n [] = omega arith
index_within n (m ∷ ms) = go (same n m) (index_within n ms)
  where
    go : (b : Bool) → index_of n ms ≤ length ms → elim b [ true ↦ 0 | false ↦ suc (index_of n ms) ] ≤ suc (length ms)
    go true h = omega arith
    go false h = omega arith

-- the slip of a name by its code
module _ (names : List ℕ) (n : ℕ) (q : Query) (k : Knows names n q) (w : List ℕ) where
  test_code : (o : Option Kind) → slip_of_code 16 32 (kind_code q w o) ≡ slip_by (test_slip o)
  unfolding kind_code test_slip
  test_code none = sym (code_none 16 32 0 refl)
  test_code (some a_test) =
      sym (code_inside 16 32 (16 + index_of w (tests q)) (λ e. omega arith) (omega arith) (omega (arith, k.few_tests, index_within w (tests q))))
  test_code (some a_relation) = sym (code_above 16 32 (32 + index_of w (relations q)) (λ e. omega arith) (omega arith) (omega arith))
  test_code (some a_let) = sym (code_above 16 32 (64 + index_of w (let_names q)) (λ e. omega arith) (omega arith) (omega arith))

  either_code : (o : Option Kind) → slip_of_code 32 128 (kind_code q w o) ≡ slip_by (either_slip o)
  unfolding kind_code either_slip
  either_code none = sym (code_none 32 128 0 refl)
  either_code (some a_test) =
      sym (code_below 32 128 (16 + index_of w (tests q)) (λ e. omega arith) (omega (arith, k.few_tests, index_within w (tests q))))
  either_code (some a_relation) =
      sym (code_inside 32 128 (32 + index_of w (relations q)) (λ e. omega arith) (omega arith)
      (omega (arith, k.few_relations, index_within w (relations q))))
  either_code (some a_let) =
      sym (code_inside 32 128 (64 + index_of w (let_names q)) (λ e. omega arith) (omega arith)
      (omega (arith, k.few_lets, index_within w (let_names q))))

  one_slip : (u : Use) → slip_by (first_slip q (u ∷ [])) ≡ slip_by (slip q u)
  unfolding first_slip
  one_slip u = go (slip q u)
    where
      go : (o : Option Cause) → slip_by (elim o [ some c ↦ some c | none ↦ none ]) ≡ slip_by o
      go (some c) = refl
      go none = refl

  pub test_slip_lem : slip_of_code 16 32 (code_of q w) ≡ slip_by (first_slip q (uses_test w ∷ []))
  unfolding code_of slip
  test_slip_lem = test_code (kind_of q w) ∙ sym (one_slip (uses_test w))

  pub either_slip_lem : slip_of_code 32 128 (code_of q w) ≡ slip_by (first_slip q (uses_either w ∷ []))
  unfolding code_of slip
  either_slip_lem = either_code (kind_of q w) ∙ sym (one_slip (uses_either w))
