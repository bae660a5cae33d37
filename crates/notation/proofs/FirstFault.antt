-- What decides inside refusals 2 and 5: the first byte that is not allowed, with its line, and the leftmost name that slips, whose
-- cause has number 5. (Document 01, "Refusals with an example each".) Each is shown to be the first one by splitting the list there:
-- all before it in order, the rest whatever it is. By the list, from the left.
-- Assumes nothing.
use Prim.Native.Nat.{ℕ, suc, ◌+◌, ◌≤◌}
use native.Mathlib.Nat.{add-zero}
use native.Mathlib.Omega.{arith}
use mathlib.Core.Path.{◌≡◌, refl, sym, ◌∙◌, ap, subst}
use mathlib.Core.Logic.{◌⊎◌, ⊎_elim, ◌↔◌}
use mathlib.Core.Logic.◌⊎◌.{inl, inr}
use mathlib.Core.Bool.{Bool, true, false, cond, ◌||◌, true≢false}
use mathlib.Core.List.{List, [], ◌∷◌, ◌++◌}
use mathlib.Core.Option.{Option, some, none}
use lib.Dec.{eqb, leb}
use lib.ListN.{length}
use borrow.Author.Tests.{eqb-true, eq-eqb, leb-true, le-leb}
use Rattle.kat.specs.Lists.{filter, every}
use Rattle.kat.proofs.Bools.{and_left, and_right, and_both, or_cases, or_left, or_right}
use Rattle.notation.specs.Bytes.{printable}
use Rattle.notation.specs.Tree.{Line}
use Rattle.notation.specs.Names.{Kind, a_test, a_relation, a_let, Use, declares, uses_test, uses_relation, uses_either, kind_of, test_slip, relation_slip, either_slip, declaration_slip, slip, first_slip}
use Rattle.notation.specs.Tokens.{is_reserved}
use Rattle.notation.specs.Refusals.{Cause, number, too_long, bad_byte, notation, too_deep, unknown_name, wrong_kind, declared_twice, reserved_name, too_many, no_claim, after_claim, over_limit, bad_allowance, short_memory, spent_allowance, short_buffer, graph_field, sheet_field, does_not_pass}
use Rattle.notation.specs.Reading.{bad_line}
use Rattle.notation.specs.RefusalOrder.{allowed, endings, FirstBad, LeftmostSlip}

pub allowed_bytes : (b : ℕ) → (allowed b ≡ true) ↔ ((b ≡ 10) ⊎ ((32 ≤ b) × (b ≤ 126)))
allowed_bytes b = (
  (λ e. ⊎_elim (λ h. inl (eqb-true b 10 h))
      (λ h. inr (leb-true 32 b (and_left (leb 32 b) (leb b 126) h), leb-true b 126 (and_right (leb 32 b) (leb b 126) h)))
      (or_cases (eqb b 10) (printable b) e)),
  (λ s. ⊎_elim (λ e. or_left (printable b) (eq-eqb b 10 e))
      (λ h. or_right (eqb b 10) (and_both (le-leb 32 b h.0) (le-leb b 126 h.1))) s),
)

-- badLine at a byte that is not allowed, and past one that is
bad_here : (m b : ℕ) (bs : List ℕ) → allowed b ≡ false → bad_line m (b ∷ bs) ≡ some m
unfolding bad_line
bad_here m b bs h = go (eqb b 10) (printable b) h
  where
    go : (d p : Bool) → (d || p) ≡ false
        → elim d [ true ↦ bad_line (suc m) bs | false ↦ elim p [ true ↦ bad_line m bs | false ↦ some m ] ] ≡ some m
    go true p e = absurd (true≢false e)
    go false true e = absurd (true≢false e)
    go false false e = refl

good_here : (m b : ℕ) (bs : List ℕ) → allowed b ≡ true → bad_line m (b ∷ bs) ≡ bad_line (m + endings (b ∷ [])) bs
unfolding bad_line
good_here m b bs h = go (eqb b 10) (printable b) h
  where
    go : (d p : Bool) → (d || p) ≡ true
        → elim d [ true ↦ bad_line (suc m) bs | false ↦ elim p [ true ↦ bad_line m bs | false ↦ some m ] ]
        ≡ bad_line (m + length (cond d (b ∷ []) [])) bs
    go true p e = ap (λ k. bad_line k bs) (omega arith)
    go false true e = ap (λ k. bad_line k bs) (omega arith)
    go false false e = absurd (true≢false (sym e))

endings_more : (b : ℕ) (bs : List ℕ) → endings (b ∷ bs) ≡ endings (b ∷ []) + endings bs
endings_more b bs = go (eqb b 10)
  where
    go : (d : Bool) → length (cond d (b ∷ filter (λ a. eqb a 10) bs) (filter (λ a. eqb a 10) bs)) ≡ length (cond d (b ∷ []) []) + endings bs
    go true = omega arith
    go false = omega arith

bad_after : (m : ℕ) (before : List ℕ) (b : ℕ) (rest : List ℕ) → every allowed before ≡ true → allowed b ≡ false
    → bad_line m (before ++ (b ∷ rest)) ≡ some (m + endings before)
bad_after m [] b rest e h = bad_here m b rest h ∙ ap some (sym (add-zero m))
bad_after m (a ∷ before) b rest e h =
    good_here m a (before ++ (b ∷ rest)) (and_left (allowed a) (every allowed before) e)
    ∙ bad_after (m + endings (a ∷ [])) before b rest (and_right (allowed a) (every allowed before) e) h
    ∙ ap some (omega (arith, endings_more a before))

first_bad : (m : ℕ) (bs : List ℕ) (n : ℕ) → bad_line m bs ≡ some n → FirstBad m bs n
unfolding bad_line
first_bad m [] n e = absurd (let z : ◌≡◌ {A = ℕ} 0 1 = cc in omega arith)
first_bad m (b ∷ bs) n e = go (allowed b) refl (first_bad (m + endings (b ∷ [])) bs n)
  where
    go : (a : Bool) → allowed b ≡ a → (bad_line (m + endings (b ∷ [])) bs ≡ some n → FirstBad (m + endings (b ∷ [])) bs n)
        → FirstBad m (b ∷ bs) n
    go false h k =
        let s : some m ≡ some n = sym (bad_here m b bs h) ∙ e in
        ([], b, bs, refl, refl, h, let z : m ≡ n = cc in omega arith)
    go true h k =
        let (before, c, rest, q, ev, bad, at) = k (sym (good_here m b bs h) ∙ e) in
        (b ∷ before, c, rest, ap (λ l. b ∷ l) q, and_both h ev, bad, omega (arith, endings_more b before))

-- the line that badLine gives is the line of the first byte that is not allowed, and it gives none where all are allowed
pub bad_line_lem : (m : ℕ) (bs : List ℕ) (n : ℕ) → (bad_line m bs ≡ some n) ↔ FirstBad m bs n
bad_line_lem m bs n = (
  first_bad m bs n,
  (λ (before, b, rest, q, ev, bad, at). ap (bad_line m) q ∙ bad_after m before b rest ev bad ∙ ap some (sym at)),
)

all_allowed : (m : ℕ) (bs : List ℕ) → bad_line m bs ≡ none → every allowed bs ≡ true
all_allowed m [] e = refl
all_allowed m (b ∷ bs) e = go (allowed b) refl (all_allowed (m + endings (b ∷ [])) bs)
  where
    go : (a : Bool) → allowed b ≡ a → (bad_line (m + endings (b ∷ [])) bs ≡ none → every allowed bs ≡ true)
        → every allowed (b ∷ bs) ≡ true
    go true h k = and_both h (k (sym (good_here m b bs h) ∙ e))
    go false h k =
        let s : some m ≡ none = sym (bad_here m b bs h) ∙ e in
        absurd (let z : ◌≡◌ {A = ℕ} 0 1 = cc in omega arith)

none_bad : (m : ℕ) (bs : List ℕ) → every allowed bs ≡ true → bad_line m bs ≡ none
unfolding bad_line
none_bad m [] e = refl
none_bad m (b ∷ bs) e =
    good_here m b bs (and_left (allowed b) (every allowed bs) e)
    ∙ none_bad (m + endings (b ∷ [])) bs (and_right (allowed b) (every allowed bs) e)

pub no_bad_line : (m : ℕ) (bs : List ℕ) → (bad_line m bs ≡ none) ↔ (every allowed bs ≡ true)
no_bad_line m bs = (all_allowed m bs, none_bad m bs)

slip_here : (ls : List Line) (u : Use) (us : List Use) {c : Cause} → slip ls u ≡ some c → first_slip ls (u ∷ us) ≡ some c
unfolding first_slip
slip_here ls u us e = rw (e, first_slip)

slip_past : (ls : List Line) (u : Use) (us : List Use) → slip ls u ≡ none → first_slip ls (u ∷ us) ≡ first_slip ls us
unfolding first_slip
slip_past ls u us e = rw (e, first_slip)

slip_split : (ls : List Line) (us : List Use) (c : Cause) → first_slip ls us ≡ some c → LeftmostSlip ls us c
unfolding first_slip
slip_split ls [] c e = absurd (let z : ◌≡◌ {A = ℕ} 0 1 = cc in omega arith)
slip_split ls (u ∷ us) c e = go (slip ls u) refl (slip_split ls us c)
  where
    go : (o : Option Cause) → slip ls u ≡ o → (first_slip ls us ≡ some c → LeftmostSlip ls us c) → LeftmostSlip ls (u ∷ us) c
    go (some d) h k = ([], u, us, refl, refl, h ∙ sym (slip_here ls u us h) ∙ e)
    go none h k =
        let (before, v, rest, q, none_before, at) = k (sym (slip_past ls u us h) ∙ e) in
        (u ∷ before, v, rest, ap (λ l. u ∷ l) q, slip_past ls u before h ∙ none_before, at)

slip_join : (ls : List Line) (before : List Use) (u : Use) (rest : List Use) (c : Cause) → first_slip ls before ≡ none
    → slip ls u ≡ some c → first_slip ls (before ++ (u ∷ rest)) ≡ some c
slip_join ls [] u rest c e h = slip_here ls u rest h
slip_join ls (v ∷ before) u rest c e h = go (slip ls v) refl (slip_join ls before u rest c)
  where
    go : (o : Option Cause) → slip ls v ≡ o
        → (first_slip ls before ≡ none → slip ls u ≡ some c → first_slip ls (before ++ (u ∷ rest)) ≡ some c)
        → first_slip ls (v ∷ (before ++ (u ∷ rest))) ≡ some c
    go (some d) q k =
        let s : some d ≡ none = sym (slip_here ls v before q) ∙ e in
        absurd (let z : ◌≡◌ {A = ℕ} 0 1 = cc in omega arith)
    go none q k = slip_past ls v (before ++ (u ∷ rest)) q ∙ k (sym (slip_past ls v before q) ∙ e) h

-- the cause is that of the leftmost name that slips
pub leftmost_name : (ls : List Line) (us : List Use) (c : Cause) → (first_slip ls us ≡ some c) ↔ LeftmostSlip ls us c
leftmost_name ls us c = (
  slip_split ls us c,
  (λ (before, u, rest, q, none_before, at). ap (first_slip ls) q ∙ slip_join ls before u rest c none_before at),
)

-- "name unknown, of the wrong kind, declared twice or reserved": one number; and every cause has a number from 1 to 14
pub names_have_one_number : (number unknown_name ≡ 5) × (number wrong_kind ≡ 5) × (number declared_twice ≡ 5) × (number reserved_name ≡ 5)
unfolding number
names_have_one_number = (refl, refl, refl, refl)

pub number_range : (c : Cause) → (1 ≤ number c) × (number c ≤ 14)
unfolding number
number_range too_long = omega arith
number_range bad_byte = omega arith
number_range notation = omega arith
number_range too_deep = omega arith
number_range unknown_name = omega arith
number_range wrong_kind = omega arith
number_range declared_twice = omega arith
number_range reserved_name = omega arith
number_range too_many = omega arith
number_range no_claim = omega arith
number_range after_claim = omega arith
number_range over_limit = omega arith
number_range bad_allowance = omega arith
number_range short_memory = omega arith
number_range spent_allowance = omega arith
number_range short_buffer = omega arith
number_range graph_field = omega arith
number_range sheet_field = omega arith
number_range does_not_pass = omega arith

-- a slip, if there is one, has number 5
abbrev Five : Option Cause → Type 0
Five none = Unit {0}
Five (some c) = number c ≡ 5

test_five : (k : Option Kind) → Five (test_slip k)
unfolding test_slip number
test_five none = refl
test_five (some a_test) = tt
test_five (some a_relation) = refl
test_five (some a_let) = refl

relation_five : (k : Option Kind) → Five (relation_slip k)
unfolding relation_slip number
relation_five none = refl
relation_five (some a_test) = refl
relation_five (some a_relation) = tt
relation_five (some a_let) = refl

either_five : (k : Option Kind) → Five (either_slip k)
unfolding either_slip number
either_five none = refl
either_five (some a_test) = refl
either_five (some a_relation) = tt
either_five (some a_let) = tt

declaration_five : (b : Bool) (k : Option Kind) → Five (declaration_slip b k)
unfolding declaration_slip number
declaration_five true k = refl
declaration_five false none = tt
declaration_five false (some k) = refl

slip_five : (ls : List Line) (u : Use) → Five (slip ls u)
unfolding slip
slip_five ls (declares n) = declaration_five (is_reserved n) (kind_of ls n)
slip_five ls (uses_test n) = test_five (kind_of ls n)
slip_five ls (uses_relation n) = relation_five (kind_of ls n)
slip_five ls (uses_either n) = either_five (kind_of ls n)

-- whatever name slips first, the number is 5
pub slips_have_number_five : (ls : List Line) (us : List Use) (c : Cause) → first_slip ls us ≡ some c → number c ≡ 5
slips_have_number_five ls us c e =
    let (before, u, rest, q, none_before, at) = slip_split ls us c e in
    subst Five at (slip_five ls u)
