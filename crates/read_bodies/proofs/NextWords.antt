-- The word that stands next, by what the code asks: one of those that are no names, or a name with its slip.
-- Assumes nothing.
use Prim.Native.Nat.{ℕ, ◌<◌}
use native.Mathlib.Omega.{arith}
use mathlib.Core.Path.{◌≡◌, refl, sym, ap, ◌∙◌, subst}
use mathlib.Core.Logic.{◌⊎◌, ⊎_elim}
use mathlib.Core.Bool.{Bool, true, false, cond}
use mathlib.Core.List.{List, [], ◌∷◌}
use mathlib.Core.Option.{Option, some, none}
use lib.Dec.{eqb}
use lib.ListN.{drop, get_or}
use borrow.Author.Tests.{eq-eqb, ne_eqb, lt-ltb, le-ltb}
use Rattle.claims.specs.Tokens as Notation
use Rattle.claims.specs.Tokens.{tokens, reserved_words, is_reserved}
use Rattle.claims.specs.Grammar.{got, wrong, past, says_next, name_next}
use Rattle.claims.specs.Tree.{Name}
use Rattle.claims.specs.Lines.{Choice, choose, declared}
use Rattle.claims.specs.Refusals.{Cause}
use Rattle.claims.specs.Names.{Kind, a_test, a_relation, a_let, Use, declares, uses_relation, kind_of, relation_slip, declaration_slip, slip, first_slip}
use Rattle.claims.specs.Query.{Query, index_of, relations}
use Rattle.codes.specs.Codes.{code_of}
use Rattle.read_tokens.specs.declared.Key.{Key}
use Rattle.read_tokens.specs.declared.Token.{Token}
use Rattle.read_tokens.specs.declared.Token.TheVariants.{Word, Mark, Bad, End}
use Rattle.read_tokens.specs.Scan.{token_at}
use Rattle.read_names.specs.Keys.{reserved_key, word_key, find_in, Knows}
use denote.Enum.Declared.{tag_of}
use Rattle.read_tokens.specs.contracts.Token.{the_type}
use Rattle.read_tokens.proofs.Tokens.{Scanned, ScannedWord, tokens_scanned}
use Rattle.read_names.proofs.Names.{reserved_name_lem, reserved_is_reserved}
use Rattle.std.specs.Prelude.{Some, None}
use Rattle.read_next.specs.Next.{word_next}
use Rattle.read_next.proofs.Next.{WordStands, word_stands, word_missing}
use Rattle.read_names.specs.Slips.{slip_by, first_of, slip_of_code, declared_slip, relation_number}
use Rattle.read_bodies.specs.Bodies.{word_of, Named}
use Rattle.read_names.specs.declared.Slip.TheVariants.{Clean, Unknown, OtherKind, Twice, Reserved}
use Rattle.read_names.proofs.FirstSlips.{first_none, first_cause, unknown_slips, kind_slips}
use Rattle.codes.proofs.NameKinds.{Coded, coded}

-- the nth word that is no name
abbrev pub keyword : ℕ → Name
keyword n = get_or reserved_words n []

-- it stands next, or does not, as its key is asked for
module _ (s : List ℕ) (at n : ℕ) (small : n < 14) (x : Key) (is : x ≡ word_key n) where
  pub keyword_stands : (e : ℕ) → Some e ≡ word_next s at x → WordStands s at (keyword n) e
  unfolding word_key
  keyword_stands e next = word_stands s at (keyword n) (reserved_name_lem n small) x is e next

  pub keyword_missing : None ≡ word_next s at x → says_next (keyword n) (tokens (drop at s)) ≡ false
  unfolding word_key
  keyword_missing next = word_missing s at (keyword n) (reserved_name_lem n small) x is next

-- the reader that the next word chooses
pub choose_here : (c : Choice) (cs : List Choice) (ts : List Notation.Token) → says_next c.says ts ≡ true → choose (c ∷ cs) ts ≡ c.reads (past ts)
unfolding choose
choose_here c cs ts e = rw (e, choose)

pub choose_next : (c : Choice) (cs : List Choice) (ts : List Notation.Token) → says_next c.says ts ≡ false → choose (c ∷ cs) ts ≡ choose cs ts
unfolding choose
choose_next c cs ts e = rw (e, choose)

pub choose_none : (ts : List Notation.Token) → choose [] ts ≡ wrong
unfolding choose
choose_none ts = refl

-- what was found is no word
abbrev pub NoWord : Token → Type 0
NoWord (Word k e) = ⊥
NoWord (Mark b e) = Unit {0}
NoWord Bad = Unit {0}
NoWord End = Unit {0}

pub no_word : (t : Token) → (tag_of the_type t ≡ 1) ⊎ (tag_of the_type t ≡ 2) ⊎ (tag_of the_type t ≡ 3) → NoWord t
no_word (Word k e) h = ⊎_elim (λ i. absurd (omega arith)) (⊎_elim (λ i. absurd (omega arith)) (λ i. absurd (omega arith))) h
no_word (Mark b e) h = tt
no_word Bad h = tt
no_word End h = tt

pub token_found : (s : List ℕ) (at : ℕ) (t u : Token) → t ≡ token_at s at → t ≡ u → Scanned s at u
token_found s at t u e h = subst (Scanned s at) (sym e ∙ h) (tokens_scanned s at)

module _ (s : List ℕ) (at : ℕ) (t : Token) (e : t ≡ token_at s at) (none : NoWord t) where
  pub declared_missing : declared (tokens (drop at s)) ≡ wrong
  unfolding declared
  declared_missing = go t none (token_found s at t t e refl)
    where
      go : (x : Token) → NoWord x → Scanned s at x → declared (tokens (drop at s)) ≡ wrong
      go (Word k i) n f = absurd n
      go (Mark b i) n f = ap declared f.read
      go Bad n f = ap declared f.1
      go End n f = ap declared f

  pub name_missing : {A : Type 0} (f : Name → A) → name_next f (tokens (drop at s)) ≡ wrong
  unfolding name_next
  name_missing f = go t none (token_found s at t t e refl)
    where
      go : (x : Token) → NoWord x → Scanned s at x → name_next f (tokens (drop at s)) ≡ wrong
      go (Word k i) n g = absurd n
      go (Mark b i) n g = ap (name_next f) g.read
      go Bad n g = ap (name_next f) g.1
      go End n g = ap (name_next f) g

-- the word with the key k was found, and ends at `next`
module _ (s : List ℕ) (at : ℕ) (k : Key) (next : ℕ) (f : ScannedWord s at k next) where
  pub named_here : (t : Token) → t ≡ token_at s at → t ≡ Word k next → Named s at f.spelling
  unfolding word_of
  named_here t e h = record { spelled = f.spelled; key = ap word_of (sym e ∙ h) ∙ f.key }

  pub declared_here : declared (tokens (drop at s)) ≡ got f.spelling (tokens (drop next s))
  unfolding declared
  declared_here = ap declared f.read

  pub name_reserved : {A : Type 0} (g : Name → A) → reserved_key k ≡ true → name_next g (tokens (drop at s)) ≡ wrong
  unfolding name_next
  name_reserved g r =
      let i : is_reserved f.spelling ≡ true = sym (reserved_is_reserved f.spelling f.spelled) ∙ ap reserved_key (sym f.key) ∙ r in
      ap (name_next g) f.read ∙ rw (i, name_next)

  pub name_here : {A : Type 0} (g : Name → A) → reserved_key k ≡ false
      → name_next g (tokens (drop at s)) ≡ got (g f.spelling) (tokens (drop next s))
  unfolding name_next
  name_here g r =
      let i : is_reserved f.spelling ≡ false = sym (reserved_is_reserved f.spelling f.spelled) ∙ ap reserved_key (sym f.key) ∙ r in
      ap (name_next g) f.read ∙ rw (i, name_next)

  module _ (names : List ℕ) (n : ℕ) (q : Query) (h : Knows names n q) where
    code_found : find_in n names k ≡ code_of q f.spelling
    code_found = ap (find_in n names) f.key ∙ h.codes f.spelling f.spelled

    coded_here : Coded q f.spelling (kind_of q f.spelling) (find_in n names k)
    coded_here =
        subst (Coded q f.spelling (kind_of q f.spelling)) (sym code_found)
        (coded q f.spelling (omega (arith, h.few_tests)) (omega (arith, h.few_relations)))

    pub declared_slip_lem : declared_slip n names k ≡ slip_by (slip q (declares f.spelling))
    unfolding declared_slip slip declaration_slip
    declared_slip_lem =
        ap (λ b. cond b Reserved (cond (eqb (find_in n names k) 0) Clean Twice)) (ap reserved_key f.key ∙ reserved_is_reserved f.spelling f.spelled)
        ∙ go (is_reserved f.spelling) (kind_of q f.spelling) coded_here
      where
        go : (b : Bool) (o : Option Kind) → Coded q f.spelling o (find_in n names k)
            → cond b Reserved (cond (eqb (find_in n names k) 0) Clean Twice) ≡ slip_by (declaration_slip b o)
        go true o c = refl
        go false none c = rw (eq-eqb _ _ c)
        go false (some a_test) c = rw (ne_eqb (find_in n names k) 0 (λ z. omega (arith, c.0)))
        go false (some a_relation) c = rw (ne_eqb (find_in n names k) 0 (λ z. omega (arith, c.0)))
        go false (some a_let) c = rw (ne_eqb (find_in n names k) 0 (λ z. omega (arith, c)))

    pub relation_slip_lem : slip_of_code 32 64 (find_in n names k) ≡ slip_by (slip q (uses_relation f.spelling))
    unfolding slip_of_code slip relation_slip
    relation_slip_lem = go (kind_of q f.spelling) (find_in n names k) coded_here
      where
        go : (o : Option Kind) (c : ℕ) → Coded q f.spelling o c → slip_of_code 32 64 c ≡ slip_by (relation_slip o)
        go none c e = rw e
        go (some a_test) c e = rw (ne_eqb c 0 (λ z. omega (arith, e.0)), lt-ltb c 32 e.1)
        go (some a_relation) c e = rw (ne_eqb c 0 (λ z. omega (arith, e.0)), le-ltb c 32 (omega (arith, e.0)), lt-ltb c 64 e.1)
        go (some a_let) c e = rw (ne_eqb c 0 (λ z. omega (arith, e)), le-ltb c 32 (omega (arith, e)), le-ltb c 64 (omega (arith, e)))

    pub relation_number_lem : slip_of_code 32 64 (find_in n names k) ≡ Clean → relation_number (find_in n names k) ≡ index_of f.spelling (relations q)
    unfolding slip_of_code relation_number
    relation_number_lem z = go (kind_of q f.spelling) (find_in n names k) coded_here z
      where
        go : (o : Option Kind) (c : ℕ) → Coded q f.spelling o c → slip_of_code 32 64 c ≡ Clean → relation_number c ≡ index_of f.spelling (relations q)
        go none c e y = absurd (let x : Unknown ≡ Clean = rw e at y in unknown_slips x)
        go (some a_test) c e y = absurd (let x : OtherKind ≡ Clean = rw (ne_eqb c 0 (λ z. omega (arith, e.0)), lt-ltb c 32 e.1) at y in kind_slips x)
        go (some a_relation) c e y = rw (le-ltb c 32 (omega (arith, e.0)), lt-ltb c 64 e.1) (omega (arith, e.0))
        go (some a_let) c e y =
            absurd (let x : OtherKind ≡ Clean = rw (ne_eqb c 0 (λ z. omega (arith, e)), le-ltb c 32 (omega (arith, e)), le-ltb c 64 (omega (arith, e))) at y in kind_slips x)

-- the first slip of a name and others behind it
pub slip_first : (q : Query) (u : Use) (us : List Use)
    → slip_by (first_slip q (u ∷ us)) ≡ first_of (slip_by (slip q u)) (slip_by (first_slip q us))
unfolding first_slip
slip_first q u us = go (slip q u)
  where
    go : (o : Option Cause) → slip_by (elim o [ some c ↦ some c | none ↦ first_slip q us ]) ≡ first_of (slip_by o) (slip_by (first_slip q us))
    go (some c) = first_cause c (slip_by (first_slip q us))
    go none = refl

pub slip_alone : (q : Query) (u : Use) → slip_by (first_slip q (u ∷ [])) ≡ slip_by (slip q u)
unfolding first_slip
slip_alone q u = slip_first q u [] ∙ sym (first_none (slip_by (slip q u)))
