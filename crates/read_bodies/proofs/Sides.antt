-- Assumptions and claims: one E behind `empty` or `irreflexive`, or two with `in` between them.
-- Assumes nothing.
use Prim.Native.Nat.{ℕ, ◌≤◌}
use native.Mathlib.Omega.{arith}
use mathlib.Core.Path.{◌≡◌, refl, sym, ap, ◌∙◌}
use mathlib.Core.Bool.{Bool, true, false}
use mathlib.Core.List.{List, [], ◌∷◌, ◌++◌, append_assoc}
use lib.ListN.{length, drop, length-append}
use lib.Seq.{sets}
use Rattle.std.specs.Prelude.{Result, Ok, Err}
use Rattle.claims.specs.Bytes.{text}
use Rattle.claims.specs.Tokens as Notation
use Rattle.claims.specs.Tokens.{tokens, reserved_words}
use Rattle.claims.specs.Grammar.{Found, got, wrong, past, says_next}
use Rattle.claims.specs.Tree.{Tree, includes, empty, irreflexive, Line, assume_empty, assume_irreflexive, claim_line}
use Rattle.claims.specs.Lines.{choose, mapped, expression, include_reader, claims}
use Rattle.claims.specs.Names.{tree_uses, claim_uses, uses, first_slip}
use Rattle.claims.specs.Query.{Query}
use Rattle.memory.specs.Memory.{zeros}
use Rattle.codes.specs.Codes.{tree_codes, claim_codes, line_codes}
use Rattle.read_tests.specs.declared.Place.{Place}
use Rattle.read_tests.specs.declared.Fault.{Fault}
use Rattle.read_tests.specs.declared.Fault.TheVariants.{Wrong, Deep}
use Rattle.read_names.specs.Keys.{Knows}
use Rattle.read_names.specs.declared.Slip.TheVariants.{Clean}
use Rattle.read_names.specs.Slips.{slip_by}
use Rattle.read_bodies.specs.Bodies.{ending, BodyOutcome, Bare, OneSided, one_side}
use Rattle.read_bodies.specs.inner.Parts.{TreeThen}
use Rattle.read_next.proofs.Stores.{stores_then}
use Rattle.read_names.proofs.Slips.{slips_then}
use Rattle.read_next.proofs.Next.{WordStands}
use Rattle.read_bodies.proofs.Parts.{tree_line}
use Rattle.read_bodies.proofs.NextWords.{keyword, choose_here, choose_next, choose_none}

-- what is read from a later place on, under another reader
pub body_via : (D E : List Notation.Token → Found Line) (K : Line → Type 0) (s names : List ℕ) (n at later used : ℕ) (before after : List ℕ)
    → D (tokens (drop at s)) ≡ E (tokens (drop later s)) → at ≤ later → (r : Result Place Fault)
    → BodyOutcome E K s names n later used before after r → BodyOutcome D K s names n at used before after r
body_via D E K s names n at later used before after e h (Ok g) (a, b) = (
  record { onward = omega (arith, a.onward); within = a.within; room = omega (arith, a.room) },
  (λ q m. let o = b q m in
      record { line = o.line; sort = o.sort; read = e ∙ o.read; slip = o.slip; written = o.written; used = o.used }),
)
body_via D E K s names n at later used before after e h (Err Wrong) (a, b) = (a, λ q m. e ∙ b q m)
body_via D E K s names n at later used before after e h (Err Deep) (a, b) = (a, λ q m. e ∙ b q m)

-- one E
pub side_passed : (D : List Notation.Token → Found Line) (kind : Tree → Line) (code : ℕ) (c : Bool) → OneSided kind code c
    → (s names : List ℕ) (n at later used : ℕ) (before after : List ℕ)
    → D (tokens (drop at s)) ≡ mapped kind (expression (tokens (drop later s))) → at ≤ later → (r : Result Place Fault)
    → TreeThen code s names n (record { at = later; used = used; slip = Clean }) before after r
    → BodyOutcome D (Bare c) s names n at used before after r
side_passed D kind code c i s names n at later used before after e h =
    tree_line expression (ending code tree_codes) tree_uses D (Bare c) kind s names n at later used Clean before after e h
    (λ q m x. record {
      sort = i.plain x;
      slip = ap (λ us. slip_by (first_slip q us)) (sym (i.names x));
      codes = λ z. sym (i.codes q x);
      count = ap length (sym (i.codes q x));
    })

module _ (f g : Tree → Line) (s : List ℕ) (at : ℕ) where
  pub side_empty : (e : ℕ) → WordStands s at (keyword 9) e → choose (one_side f g) (tokens (drop at s)) ≡ mapped f (expression (tokens (drop e s)))
  unfolding one_side reserved_words
  side_empty e w = choose_here _ _ (tokens (drop at s)) w.says ∙ ap (λ ts. mapped f (expression ts)) w.passes

  pub side_irreflexive : says_next (keyword 9) (tokens (drop at s)) ≡ false → (e : ℕ) → WordStands s at (keyword 11) e
      → choose (one_side f g) (tokens (drop at s)) ≡ mapped g (expression (tokens (drop e s)))
  unfolding one_side reserved_words
  side_irreflexive h e w =
      choose_next _ _ (tokens (drop at s)) h ∙ choose_here _ _ (tokens (drop at s)) w.says ∙ ap (λ ts. mapped g (expression ts)) w.passes

  pub side_none : says_next (keyword 9) (tokens (drop at s)) ≡ false → says_next (keyword 11) (tokens (drop at s)) ≡ false
      → choose (one_side f g) (tokens (drop at s)) ≡ wrong
  unfolding one_side reserved_words
  side_none h i = choose_next _ _ (tokens (drop at s)) h ∙ choose_next _ _ (tokens (drop at s)) i ∙ choose_none (tokens (drop at s))

pub assumes_empty : OneSided assume_empty 133 false
unfolding line_codes uses
assumes_empty = record { codes = λ q e. refl; names = λ e. refl; plain = λ e. refl }

pub assumes_irreflexive : OneSided assume_irreflexive 134 false
unfolding line_codes uses
assumes_irreflexive = record { codes = λ q e. refl; names = λ e. refl; plain = λ e. refl }

pub claims_empty : OneSided (λ e. claim_line (empty e)) 137 true
unfolding line_codes claim_codes uses claim_uses
claims_empty = record { codes = λ q e. refl; names = λ e. refl; plain = λ e. refl }

pub claims_irreflexive : OneSided (λ e. claim_line (irreflexive e)) 138 true
unfolding line_codes claim_codes uses claim_uses
claims_irreflexive = record { codes = λ q e. refl; names = λ e. refl; plain = λ e. refl }

-- a claim by its first word
module _ (s : List ℕ) (at : ℕ) where
  pub claim_include : (e : ℕ) → WordStands s at (keyword 10) e → choose claims (tokens (drop at s)) ≡ include_reader (tokens (drop e s))
  unfolding claims reserved_words
  claim_include e w = choose_here _ _ (tokens (drop at s)) w.says ∙ ap include_reader w.passes

  pub claim_side : says_next (keyword 10) (tokens (drop at s)) ≡ false
      → choose claims (tokens (drop at s)) ≡ choose (one_side (λ e. claim_line (empty e)) (λ e. claim_line (irreflexive e))) (tokens (drop at s))
  unfolding claims one_side reserved_words
  claim_side h = choose_next _ _ (tokens (drop at s)) h

-- `E in E`
module _ (ts us : List Notation.Token) (e : Tree) (h : expression ts ≡ got e us) where
  abbrev rest : Bool → Found Line
  rest b = elim b [ true ↦ mapped (λ f. claim_line (includes e f)) (expression (past us)) | false ↦ wrong ]

  include_left : include_reader ts ≡ rest (says_next (text "in") us)
  unfolding include_reader
  include_left = rw (h, include_reader)

  include_no : says_next (keyword 8) us ≡ false → include_reader ts ≡ wrong
  unfolding reserved_words
  include_no g = include_left ∙ ap rest g

  include_in : says_next (keyword 8) us ≡ true → include_reader ts ≡ mapped (λ f. claim_line (includes e f)) (expression (past us))
  unfolding reserved_words
  include_in g = include_left ∙ ap rest g

abbrev start : ℕ → ℕ → Place
start at used = record { at = at; used = used; slip = Clean }

module _ (s names : List ℕ) (n at used : ℕ) (before mid : List ℕ) where
  pub include_failed : (e : Fault) → TreeThen 135 s names n (start at used) before mid (Err e)
      → BodyOutcome include_reader (Bare true) s names n at used before mid (Err e)
  unfolding include_reader
  include_failed Wrong (a, b) = (a, λ q m. rw (b q m, include_reader))
  include_failed Deep (a, b) = (a, λ q m. rw (b q m, include_reader))

  module _ (g : Place) (left : TreeThen 135 s names n (start at used) before mid (Ok g)) where
    pub include_missing : says_next (keyword 8) (tokens (drop g.at s)) ≡ false → (after : List ℕ) → after ≡ zeros 4096
        → BodyOutcome include_reader (Bare true) s names n at used before after (Err Wrong)
    include_missing h after z =
        (z, λ q m. let o = left.1 q m in include_no (tokens (drop at s)) (tokens (drop g.at s)) o.tree o.read h)

    module _ (next : ℕ) (i : WordStands s g.at (keyword 8) next) where
      joined : (q : Query) (m : Knows names n q)
          → include_reader (tokens (drop at s))
          ≡ mapped (λ f. claim_line (includes (left.1 q m).tree f)) (expression (tokens (drop next s)))
      joined q m =
          let o = left.1 q m in
          include_in (tokens (drop at s)) (tokens (drop g.at s)) o.tree o.read i.says
          ∙ (ap (λ ts. mapped (λ f. claim_line (includes (left.1 q m).tree f)) (expression ts)) i.passes)

      around : (xs ys : List ℕ) → (xs ++ (135 ∷ [])) ++ (ys ++ (136 ∷ [])) ≡ (xs ++ (135 ∷ ys)) ++ (136 ∷ [])
      around xs ys = simp append_assoc

      pub include_passed : (after : List ℕ) (x : Result Place Fault)
          → TreeThen 136 s names n (record { at = next; used = g.used; slip = g.slip }) mid after x
          → BodyOutcome include_reader (Bare true) s names n at used before after x
      unfolding uses claim_uses line_codes claim_codes
      include_passed after (Ok h) (a, b) =
          let f = left.0 in (
            record {
              onward = omega (arith, f.onward, i.after, a.onward);
              within = a.within;
              room = omega (arith, f.room, f.within, i.after, i.within, a.room);
            },
            (λ q m. let o = left.1 q m in
                let p = b q m in
                record {
                  line = claim_line (includes o.tree p.tree);
                  sort = refl;
                  read = joined q m ∙ ap (mapped (λ f. claim_line (includes o.tree f))) p.read;
                  slip = slips_then q (tree_uses o.tree) (tree_uses p.tree) Clean g.slip h.slip o.slip p.slip;
                  written = λ z.
                      stores_then before used (tree_codes q o.tree ++ (135 ∷ [])) (tree_codes q p.tree ++ (136 ∷ [])) mid after g.used
                      o.written o.used p.written
                      ∙ ap (sets before used) (around (tree_codes q o.tree) (tree_codes q p.tree));
                  used =
                      omega (
                        arith,
                        o.used,
                        p.used,
                        length-append (tree_codes q o.tree ++ (135 ∷ [])) (tree_codes q p.tree ++ (136 ∷ [])),
                        ap length (around (tree_codes q o.tree) (tree_codes q p.tree)),
                      );
                }),
          )
      include_passed after (Err Wrong) (a, b) =
          (a, λ q m. joined q m ∙ ap (mapped (λ f. claim_line (includes (left.1 q m).tree f))) (b q m))
      include_passed after (Err Deep) (a, b) =
          (a, λ q m. joined q m ∙ ap (mapped (λ f. claim_line (includes (left.1 q m).tree f))) (b q m))
