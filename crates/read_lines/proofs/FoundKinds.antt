-- The kind of a line that is found by the key of its word: its place is that of the word in the table of line kinds. And what a kind declares.
-- Assumes nothing.
use Rattle.std.proofs.Common.{ℕ, suc, ◌+◌, ◌≡◌, refl, sym, ◌∙◌, ap, subst, Bool, true, false, cond, List, [], ◌∷◌, Option, Some, None, eqb, arith}
use Rattle.std.specs.List.{find}
use native.Mathlib.Nat.{zero-add}
use Rattle.std.proofs.lemmas.Bool.{false≢true}
use Rattle.claims.specs.Tree.{Line}
use Rattle.claims.specs.Tokens.{reserved_words}
use Rattle.claims.specs.Lines.{Choice, line_kinds}
use Rattle.read_tokens.specs.declared.Key.{Key}
use Rattle.read_tokens.specs.Scan.{key_of}
use Rattle.read_names.specs.Keys.{same_key, word_key}
use Rattle.read_bodies.specs.Bodies.{Bare}
use Rattle.read_declarations.specs.inner.Declaring.{DeclaresNext}
use Rattle.read_declarations.specs.inner.Kinds.{kind_place, SortOf}
use Rattle.read_lines.specs.declared.LineKind.{LineKind}
use Rattle.read_lines.specs.declared.LineKind.TheVariants.{Test, Rel, Let, Never, Within, Closed, Assume, Claim}
use Rattle.read_lines.specs.Kinds.{number_of, place_among, declares, all_kinds}

-- the word of a kind has the key k
abbrev pub has_key : Key → LineKind → Bool
has_key k w = same_key (word_key (number_of w)) k

-- the kinds are those of the choices, and stand from place i on
abbrev Aligned : List LineKind → List Choice → ℕ → Type 0
Aligned [] [] i = 8 ≡ i
Aligned [] (c ∷ cs) i = ◌≡◌ {A = Bool} false true
Aligned (w ∷ ws) [] i = ◌≡◌ {A = Bool} false true
Aligned (w ∷ ws) (c ∷ cs) i = (number_of w ≡ i) × (word_key (number_of w) ≡ key_of c.says) × Aligned ws cs (i + 1)

found_among : (k : Key) (ws : List LineKind) (cs : List Choice) (i : ℕ) → Aligned ws cs i → place_among (find (has_key k) ws) ≡ i + kind_place cs k
unfolding kind_place
found_among k [] [] i h = omega (arith, h)
found_among k [] (c ∷ cs) i h = absurd (false≢true h)
found_among k (w ∷ ws) [] i h = absurd (false≢true h)
found_among k (w ∷ ws) (c ∷ cs) i (a, b, h) =
    subst (λ z. place_among (cond (has_key k w) (Some w) (find (has_key k) ws)) ≡ i + cond z 0 (suc (kind_place cs k))) (ap (λ x. same_key x k) b)
    (go (has_key k w) (found_among k ws cs (i + 1) h))
  where
    go : (z : Bool) → place_among (find (has_key k) ws) ≡ i + 1 + kind_place cs k
        → place_among (cond z (Some w) (find (has_key k) ws)) ≡ i + cond z 0 (suc (kind_place cs k))
    go true e = omega (arith, a)
    go false e = omega (arith, e)

pub found_place : (k : Key) → place_among (find (has_key k) all_kinds) ≡ kind_place line_kinds k
unfolding line_kinds word_key reserved_words
found_place k =
    found_among k all_kinds line_kinds 0 (refl, refl, (refl, refl, (refl, refl, (refl, refl, (refl, refl, (refl, refl, (refl, refl, (refl, refl, refl))))))))
    ∙ zero-add (kind_place line_kinds k)

-- an answer that is there, and its number
abbrev There : Option ℕ → Type 0
There None = ⊥
There (Some n) = Unit {0}

abbrev number_in : Option ℕ → ℕ
number_in None = 0
number_in (Some n) = n

module _ (s : List ℕ) (at : ℕ) (l : Line) where
  -- a line of a kind that declares names declares the one that stands next
  pub declares_next : (kind : LineKind) (of : ℕ) → Some of ≡ declares kind → SortOf (number_of kind) s at l → DeclaresNext of s at l
  declares_next Test of e h = subst (λ x. DeclaresNext x s at l) (sym (ap number_in e)) h
  declares_next Rel of e h = subst (λ x. DeclaresNext x s at l) (sym (ap number_in e)) h
  declares_next Let of e h = subst (λ x. DeclaresNext x s at l) (sym (ap number_in e)) h
  declares_next Never of e h = absurd (subst There e tt)
  declares_next Within of e h = absurd (subst There e tt)
  declares_next Closed of e h = absurd (subst There e tt)
  declares_next Assume of e h = absurd (subst There e tt)
  declares_next Claim of e h = absurd (subst There e tt)

  -- a line of another kind declares none, and is the claim where it is of the last kind
  pub declares_none : (kind : LineKind) (c : Bool) → None ≡ declares kind → c ≡ eqb (number_of kind) 7 → SortOf (number_of kind) s at l → Bare c l
  declares_none Test c e f h = absurd (subst There (sym e) tt)
  declares_none Rel c e f h = absurd (subst There (sym e) tt)
  declares_none Let c e f h = absurd (subst There (sym e) tt)
  declares_none Never c e f h = subst (λ x. Bare x l) (sym f) h
  declares_none Within c e f h = subst (λ x. Bare x l) (sym f) h
  declares_none Closed c e f h = subst (λ x. Bare x l) (sym f) h
  declares_none Assume c e f h = subst (λ x. Bare x l) (sym f) h
  declares_none Claim c e f h = subst (λ x. Bare x l) (sym f) h
