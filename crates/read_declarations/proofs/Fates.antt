-- A line's fate: what document 01 says of it, by what was found behind its first word, its end, its slips, and what was declared before.
-- Assumes nothing.
use Prim.Native.Nat.{ℕ}
use native.Mathlib.Omega.{arith}
use mathlib.Core.Path.{◌≡◌, refl, sym, ap, ◌∙◌}
use mathlib.Core.Bool.{Bool, true, false, cond, ◌&&◌}
use mathlib.Core.List.{List, [], ◌∷◌}
use mathlib.Core.Option.{Option, some, none}
use lib.ListN.{drop}
use Rattle.std.specs.Prelude.{Result as Returned, Ok, Err}
use Rattle.claims.specs.Tokens as Notation
use Rattle.claims.specs.Tokens.{tokens, is_reserved}
use Rattle.claims.specs.Grammar.{Found, got, wrong, deep}
use Rattle.claims.specs.Tree.{Name, Line}
use Rattle.claims.specs.Lines.{at_end}
use Rattle.claims.specs.Refusals.{Cause, too_long, bad_byte, notation, too_deep, unknown_name, wrong_kind, declared_twice, reserved_name, too_many, no_claim, after_claim, over_limit, bad_allowance, short_memory, spent_allowance, short_buffer, graph_field, sheet_field, does_not_pass, Result, ok, refuse}
use Rattle.claims.specs.Names.{Kind, a_test, a_relation, a_let, Use, declares, uses_test, uses_relation, uses_either, uses, kind_of, test_slip, relation_slip, either_slip, declaration_slip, slip, first_slip}
use Rattle.claims.specs.Query.{Query}
use Rattle.claims.specs.Reading.{crowded, read_line}
use Rattle.read_tests.specs.declared.Place.{Place}
use Rattle.read_tests.specs.declared.Fault.{Fault}
use Rattle.read_tests.specs.declared.Fault.TheVariants.{Wrong, Deep}
use Rattle.refusals.specs.declared.Reason.{Reason}
use Rattle.refusals.specs.declared.Reason.TheVariants.{Notation as BadNotation, TooDeep, UnknownName, WrongKind, DeclaredTwice, ReservedName}
use Rattle.read_names.specs.declared.Slip.{Slip}
use Rattle.read_names.specs.declared.Slip.TheVariants.{Clean, Unknown, OtherKind, Twice, Reserved}
use Rattle.read_names.specs.Slips.{slip_by}
use Rattle.read_names.proofs.FirstSlips.{cause_slips}
use Rattle.refusals.specs.Causes.{cause_of}
use Rattle.read_declarations.specs.inner.Kinds.{by_slip, checked, whole_line}
use Rattle.read_bodies.specs.Bodies.{BodySays}

-- the causes that a name has
abbrev NameCause : Cause → Type 0
NameCause unknown_name = Unit {0}
NameCause wrong_kind = Unit {0}
NameCause declared_twice = Unit {0}
NameCause reserved_name = Unit {0}
NameCause too_long = ⊥
NameCause bad_byte = ⊥
NameCause notation = ⊥
NameCause too_deep = ⊥
NameCause too_many = ⊥
NameCause no_claim = ⊥
NameCause after_claim = ⊥
NameCause over_limit = ⊥
NameCause bad_allowance = ⊥
NameCause short_memory = ⊥
NameCause spent_allowance = ⊥
NameCause short_buffer = ⊥
NameCause graph_field = ⊥
NameCause sheet_field = ⊥
NameCause does_not_pass = ⊥

abbrev NameSlip : Option Cause → Type 0
NameSlip none = Unit {0}
NameSlip (some c) = NameCause c

test_name_lem : (o : Option Kind) → NameSlip (test_slip o)
unfolding test_slip
test_name_lem none = tt
test_name_lem (some a_test) = tt
test_name_lem (some a_relation) = tt
test_name_lem (some a_let) = tt

relation_name : (o : Option Kind) → NameSlip (relation_slip o)
unfolding relation_slip
relation_name none = tt
relation_name (some a_test) = tt
relation_name (some a_relation) = tt
relation_name (some a_let) = tt

either_name : (o : Option Kind) → NameSlip (either_slip o)
unfolding either_slip
either_name none = tt
either_name (some a_test) = tt
either_name (some a_relation) = tt
either_name (some a_let) = tt

declaration_name : (b : Bool) (o : Option Kind) → NameSlip (declaration_slip b o)
unfolding declaration_slip
declaration_name true o = tt
declaration_name false none = tt
declaration_name false (some k) = tt

slip_name : (q : Query) (u : Use) → NameSlip (slip q u)
unfolding slip
slip_name q (declares n) = declaration_name (is_reserved n) (kind_of q n)
slip_name q (uses_test n) = test_name_lem (kind_of q n)
slip_name q (uses_relation n) = relation_name (kind_of q n)
slip_name q (uses_either n) = either_name (kind_of q n)

first_name : (q : Query) (us : List Use) → NameSlip (first_slip q us)
unfolding first_slip
first_name q [] = tt
first_name q (u ∷ us) = go (slip q u) (slip_name q u) (first_name q us)
  where
    go : (o : Option Cause) → NameSlip o → NameSlip (first_slip q us) → NameSlip (elim o [ some c ↦ some c | none ↦ first_slip q us ])
    go (some c) h i = h
    go none h i = i

-- what a line is refused for is the cause of its slip
module _ (u : ℕ) (w : Reason) where
  told_as : (c : Cause) (v : Reason) → c ≡ cause_of v → ◌≡◌ {A = Returned ℕ Reason} (Err v) (Err w) → some c ≡ some (cause_of w)
  told_as c v i e = let j : v ≡ w = cc in ap some (i ∙ ap cause_of j)

  told : (o : Option Cause) → NameSlip o → by_slip u (slip_by o) ≡ Err w → o ≡ some (cause_of w)
  unfolding by_slip cause_of
  told none h e = let z : ◌≡◌ {A = ℕ} 0 1 = cc in absurd (omega arith)
  told (some unknown_name) h e = told_as unknown_name UnknownName refl e
  told (some wrong_kind) h e = told_as wrong_kind WrongKind refl e
  told (some declared_twice) h e = told_as declared_twice DeclaredTwice refl e
  told (some reserved_name) h e = told_as reserved_name ReservedName refl e
  told (some too_long) h e = absurd h
  told (some bad_byte) h e = absurd h
  told (some notation) h e = absurd h
  told (some too_deep) h e = absurd h
  told (some too_many) h e = absurd h
  told (some no_claim) h e = absurd h
  told (some after_claim) h e = absurd h
  told (some over_limit) h e = absurd h
  told (some bad_allowance) h e = absurd h
  told (some short_memory) h e = absurd h
  told (some spent_allowance) h e = absurd h
  told (some short_buffer) h e = absurd h
  told (some graph_field) h e = absurd h
  told (some sheet_field) h e = absurd h
  told (some does_not_pass) h e = absurd h

clean_cause : (o : Option Cause) → slip_by o ≡ Clean → o ≡ none
clean_cause none e = refl
clean_cause (some c) e = absurd (cause_slips c e)

-- a line without a fault has no slip
fine_clean : (u v : ℕ) (i : Slip) → by_slip u i ≡ Ok v → (i ≡ Clean) × (v ≡ u)
unfolding by_slip
fine_clean u v Clean e = (refl, cc)
fine_clean u v Unknown e = let z : ◌≡◌ {A = ℕ} 0 1 = cc in absurd (omega arith)
fine_clean u v OtherKind e = let z : ◌≡◌ {A = ℕ} 0 1 = cc in absurd (omega arith)
fine_clean u v Twice e = let z : ◌≡◌ {A = ℕ} 0 1 = cc in absurd (omega arith)
fine_clean u v Reserved e = let z : ◌≡◌ {A = ℕ} 0 1 = cc in absurd (omega arith)

-- the fate of a line, by what was found
module _ (q : Query) (ended : Bool) (n : ℕ) where
  fate_found : (x : Found Line) (l : Line) (us : List Notation.Token) → x ≡ got l us
      → whole_line ended x ≡ elim (at_end us && ended) [ true ↦ got l [] | false ↦ wrong ]
  unfolding whole_line
  fate_found x l us e = rw (e, whole_line)

  pub fate_wrong : (x : Found Line) → x ≡ wrong → read_line q n (whole_line ended x) ≡ refuse notation n
  unfolding whole_line read_line
  fate_wrong x e = ap (λ y. read_line q n (whole_line ended y)) e

  fate_deep : (x : Found Line) → x ≡ deep → read_line q n (whole_line ended x) ≡ refuse too_deep n
  unfolding whole_line read_line
  fate_deep x e = ap (λ y. read_line q n (whole_line ended y)) e

  module _ (x : Found Line) (l : Line) (us : List Notation.Token) (e : x ≡ got l us) where
    abbrev closing : Bool → Found Line
    closing b = elim b [ true ↦ got l [] | false ↦ wrong ]

    fate_unended : (at_end us && ended) ≡ false → read_line q n (whole_line ended x) ≡ refuse notation n
    unfolding read_line
    fate_unended h = ap (read_line q n) (fate_found x l us e ∙ ap closing h)

    fate_ended : (at_end us && ended) ≡ true → read_line q n (whole_line ended x) ≡ read_line q n (got l [])
    fate_ended h = ap (read_line q n) (fate_found x l us e ∙ ap closing h)

    module _ (h : (at_end us && ended) ≡ true) where
      fate_slip : (c : Cause) → first_slip q (uses l) ≡ some c → read_line q n (whole_line ended x) ≡ refuse c n
      unfolding read_line
      fate_slip c f = fate_ended h ∙ rw (f, read_line)

      pub fate_crowded : first_slip q (uses l) ≡ none → crowded q l ≡ true → read_line q n (whole_line ended x) ≡ refuse too_many n
      unfolding read_line
      fate_crowded f g = fate_ended h ∙ go (first_slip q (uses l)) f
        where
          go : (o : Option Cause) → o ≡ none
              → ◌≡◌ {A = Result Line} (elim o [ some c ↦ refuse c n | none ↦ elim (crowded q l) [ true ↦ refuse too_many n | false ↦ ok l ] ]) (refuse too_many n)
          go (some c) i = let z : ◌≡◌ {A = ℕ} 0 1 = cc in absurd (omega arith)
          go none i = rw g

      pub fate_taken : first_slip q (uses l) ≡ none → crowded q l ≡ false → read_line q n (whole_line ended x) ≡ ok l
      unfolding read_line
      fate_taken f g = fate_ended h ∙ go (first_slip q (uses l)) f
        where
          go : (o : Option Cause) → o ≡ none
              → ◌≡◌ {A = Result Line} (elim o [ some c ↦ refuse c n | none ↦ elim (crowded q l) [ true ↦ refuse too_many n | false ↦ ok l ] ]) (ok l)
          go (some c) i = let z : ◌≡◌ {A = ℕ} 0 1 = cc in absurd (omega arith)
          go none i = rw g

-- a line that stands whole and has no slip, up to g
pub record Whole (s : List ℕ) (ended : Bool) (r : Returned Place Fault) (u : ℕ) : Type 0 where
  pub place : Place
  pub reached : r ≡ Ok place
  pub ends : (at_end (tokens (drop place.at s)) && ended) ≡ true
  pub clean : place.slip ≡ Clean
  pub used : u ≡ place.used

pub fine_whole : (s : List ℕ) (ended : Bool) (r : Returned Place Fault) (u : ℕ) → checked s ended r ≡ Ok u → Whole s ended r u
unfolding checked
fine_whole s ended (Ok g) u e = go (at_end (tokens (drop g.at s)) && ended) refl e
  where
    go : (a : Bool) → (at_end (tokens (drop g.at s)) && ended) ≡ a
        → cond a (by_slip g.used g.slip) (Err BadNotation) ≡ Ok u → Whole s ended (Ok g) u
    go true h f =
        let c = fine_clean g.used u g.slip f in
        record { place = g; reached = refl; ends = h; clean = c.0; used = c.1 }
    go false h f = let z : ◌≡◌ {A = ℕ} 0 1 = cc in absurd (omega arith)
fine_whole s ended (Err Wrong) u e = let z : ◌≡◌ {A = ℕ} 0 1 = cc in absurd (omega arith)
fine_whole s ended (Err Deep) u e = let z : ◌≡◌ {A = ℕ} 0 1 = cc in absurd (omega arith)

-- a line that does not, or has one
notation_said : (w : Reason) (n : ℕ) → BadNotation ≡ w → ◌≡◌ {A = Result Line} (refuse notation n) (refuse (cause_of w) n)
unfolding cause_of
notation_said w n v = ap (λ x. refuse (cause_of x) n) v

deep_said : (w : Reason) (n : ℕ) → TooDeep ≡ w → ◌≡◌ {A = Result Line} (refuse too_deep n) (refuse (cause_of w) n)
unfolding cause_of
deep_said w n v = ap (λ x. refuse (cause_of x) n) v

pub faulty_fate : (D : List Notation.Token → Found Line) (K : Line → Type 0) (q : Query) (s : List ℕ) (at used : ℕ) (before after : List ℕ)
    (ended : Bool) (w : Reason) (r : Returned Place Fault) → checked s ended r ≡ Err w → BodySays D K q s at used before after r
    → (n : ℕ) → read_line q n (whole_line ended (D (tokens (drop at s)))) ≡ refuse (cause_of w) n
unfolding checked
faulty_fate D K q s at used before after ended w (Ok g) e o n =
    go (at_end (tokens (drop g.at s)) && ended) refl e
  where
    go : (a : Bool) → (at_end (tokens (drop g.at s)) && ended) ≡ a → cond a (by_slip g.used g.slip) (Err BadNotation) ≡ Err w
        → read_line q n (whole_line ended (D (tokens (drop at s)))) ≡ refuse (cause_of w) n
    go true h f =
        fate_slip q ended n (D (tokens (drop at s))) o.line (tokens (drop g.at s)) o.read h (cause_of w)
        (told g.used w (first_slip q (uses o.line)) (first_name q (uses o.line)) (ap (by_slip g.used) (sym o.slip) ∙ f))
    go false h f =
        let v : BadNotation ≡ w = cc in
        fate_unended q ended n (D (tokens (drop at s))) o.line (tokens (drop g.at s)) o.read h ∙ notation_said w n v
faulty_fate D K q s at used before after ended w (Err Wrong) e o n =
    let v : BadNotation ≡ w = cc in
    fate_wrong q ended n (D (tokens (drop at s))) o ∙ notation_said w n v
faulty_fate D K q s at used before after ended w (Err Deep) e o n =
    let v : TooDeep ≡ w = cc in
    fate_deep q ended n (D (tokens (drop at s))) o ∙ deep_said w n v

pub clean_slips : (q : Query) (us : List Use) (x : Slip) → x ≡ slip_by (first_slip q us) → x ≡ Clean → first_slip q us ≡ none
clean_slips q us x e f = clean_cause (first_slip q us) (sym e ∙ f)

-- a declared name that has no slip is new
pub fresh_name : (q : Query) (w : Name) (us : List Use) → first_slip q (declares w ∷ us) ≡ none → kind_of q w ≡ none
unfolding first_slip slip declaration_slip
fresh_name q w us e = go (is_reserved w) (kind_of q w) e
  where
    go : (b : Bool) (o : Option Kind)
        → ◌≡◌ {A = Option Cause} (elim (declaration_slip b o) [ some c ↦ some c | none ↦ first_slip q us ]) none → o ≡ none
    go true o h = let z : ◌≡◌ {A = ℕ} 0 1 = cc in absurd (omega arith)
    go false none h = refl
    go false (some k) h = let z : ◌≡◌ {A = ℕ} 0 1 = cc in absurd (omega arith)
