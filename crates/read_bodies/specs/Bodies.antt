-- What the readers of a line's body promise: what stands behind the line's first word is read whole, and its codes are written, before
-- the line's end and its names are judged. (Document 01, "The query" and "Refusals with an example each".)
-- Assumes nothing.
use Rattle.std.specs.Prelude.{Result, Ok, Err, ℕ, ◌+◌, ◌-◌, ◌≤◌, ◌<◌, ◌≡◌, Bool, true, false, List, [], ◌∷◌, ◌++◌, length, drop}
use Rattle.std.proofs.lemmas.List.Edits.{sets}
use Rattle.claims.specs.Tokens.{Token as Piece, tokens}
use Rattle.claims.specs.Grammar.{Found, got, wrong, deep}
use Rattle.claims.specs.Tree.{Name, Tree, Line, test_line, rel_line, let_line, never_line, within_line, closed_line, assume_empty, assume_irreflexive, claim_line}
use Rattle.claims.specs.Bytes.{text}
use Rattle.claims.specs.Lines.{Choice, mapped, expression, condition}
use Rattle.claims.specs.Names.{Use, declares, uses, test_uses, tree_uses, first_slip}
use Rattle.claims.specs.Query.{Query}
use Rattle.memory.specs.Memory.{zeros}
use Rattle.codes.specs.Codes.{test_codes, tree_codes, line_codes}
use Rattle.read_tokens.specs.declared.Key.{Key}
use Rattle.read_tokens.specs.declared.Token.{Token}
use Rattle.read_tokens.specs.declared.Token.TheVariants.{Word, Mark, Bad, End}
use Rattle.read_tokens.specs.Scan.{key_of, token_at, Spelled}
use Rattle.read_names.specs.Keys.{Knows as Found-in}
use Rattle.read_tests.specs.declared.Place.{Place}
use Rattle.read_tests.specs.declared.Fault.{Fault}
use Rattle.read_tests.specs.declared.Fault.TheVariants.{Wrong, Deep}
use Rattle.read_names.specs.declared.Slip.TheVariants.{Clean}
use Rattle.read_names.specs.Slips.{first_of, slip_by}

-- the place r behind what begins at `at` with `used` codes written: what is left of the line has room, with so many codes more
pub record Behind (s : List ℕ) (at used more : ℕ) (r : Place) : Type 0 where
  pub onward : at < r.at
  pub within : r.at ≤ length s
  pub room : r.used + (length s - r.at) ≤ used + (length s - at) + more

-- a reader ends behind what it read, or with a fault, and then the memory for codes is all 0
abbrev pub Ends : List ℕ → ℕ → ℕ → ℕ → List ℕ → Result Place Fault → Type 0
Ends s at used more after (Ok r) = Behind s at used more r
Ends s at used more after (Err Wrong) = after ≡ zeros 4096
Ends s at used more after (Err Deep) = after ≡ zeros 4096

-- What the reader D of the grammar found from the place p to the place r, in the lines q: the tree, its codes, and the first slip.
pub record ReadTree {A : Type 0} (D : List Piece → Found A) (codes : A → List ℕ) (uses : A → List Use) (q : Query) (s : List ℕ)
    (p : Place) (before after : List ℕ) (r : Place) : Type 0 where
  pub tree : A
  pub read : D (tokens (drop p.at s)) ≡ got tree (tokens (drop r.at s))
  pub written : after ≡ sets before p.used (codes tree)
  pub used : r.used ≡ p.used + length (codes tree)
  pub slip : r.slip ≡ first_of p.slip (slip_by (first_slip q (uses tree)))

module _ {A : Type 0} (D : List Piece → Found A) where
  abbrev pub Answers : (A → List ℕ) → (A → List Use) → Query → List ℕ → Place → List ℕ → List ℕ → Result Place Fault → Type 0
  Answers codes uses q s p before after (Ok r) = ReadTree D codes uses q s p before after r
  Answers codes uses q s p before after (Err Wrong) = D (tokens (drop p.at s)) ≡ wrong
  Answers codes uses q s p before after (Err Deep) = D (tokens (drop p.at s)) ≡ deep

  -- so it is for every query whose names stand in the table; there may be so many codes more than bytes read
  abbrev pub Reads : (Query → A → List ℕ) → (A → List Use) → ℕ → List ℕ → List ℕ → ℕ → Place → List ℕ → List ℕ → Result Place Fault → Type 0
  Reads codes uses more s names n p before after r =
      Ends s p.at p.used more after r × ((q : Query) → Found-in names n q → Answers (codes q) uses q s p before after r)

-- a tree's codes with a code behind them
abbrev pub ending : {A : Type 0} → ℕ → (Query → A → List ℕ) → Query → A → List ℕ
ending code codes q a = codes q a ++ (code ∷ [])

-- a T with a code behind it
abbrev pub TestThen : ℕ → List ℕ → List ℕ → ℕ → Place → List ℕ → List ℕ → Result Place Fault → Type 0
TestThen code s names n p before after r = Reads condition (ending code test_codes) test_uses 1 s names n p before after r

-- The reader D found a line of the sort in the tokens from `at` on, and the place r stands behind it. The codes are those of the line
-- where no name has a slip.
pub record Body (D : List Piece → Found Line) (Sort : Line → Type 0) (q : Query) (s : List ℕ) (at from : ℕ) (before after : List ℕ)
    (r : Place) : Type 0 where
  pub line : Line
  pub sort : Sort line
  pub read : D (tokens (drop at s)) ≡ got line (tokens (drop r.at s))
  pub slip : r.slip ≡ slip_by (first_slip q (uses line))
  pub written : r.slip ≡ Clean → after ≡ sets before from (line_codes q line)
  pub used : r.used ≡ from + length (line_codes q line)

module _ (D : List Piece → Found Line) (Sort : Line → Type 0) where
  abbrev pub BodySays : Query → List ℕ → ℕ → ℕ → List ℕ → List ℕ → Result Place Fault → Type 0
  BodySays q s at used before after (Ok r) = Body D Sort q s at used before after r
  BodySays q s at used before after (Err Wrong) = D (tokens (drop at s)) ≡ wrong
  BodySays q s at used before after (Err Deep) = D (tokens (drop at s)) ≡ deep

  -- so it is for every query whose names stand in the table
  abbrev pub BodyOutcome : List ℕ → List ℕ → ℕ → ℕ → ℕ → List ℕ → List ℕ → Result Place Fault → Type 0
  BodyOutcome s names n at used before after r =
      Ends s at used 1 after r × ((q : Query) → Found-in names n q → BodySays q s at used before after r)

-- a line that declares nothing; c says whether it is a claim
abbrev pub Bare : Bool → Line → Type 0
Bare c (test_line n) = ⊥
Bare c (rel_line n) = ⊥
Bare c (let_line n e) = ⊥
Bare c (never_line t) = c ≡ false
Bare c (within_line n t u) = c ≡ false
Bare c (closed_line n) = c ≡ false
Bare c (assume_empty e) = c ≡ false
Bare c (assume_irreflexive e) = c ≡ false
Bare c (claim_line x) = c ≡ true

-- the key of a word, that of no bytes for what is no word
unfoldable pub word_of : Token → Key
word_of (Word k e) = k
word_of (Mark b e) = record { high = 0; low = 0 }
word_of Bad = record { high = 0; low = 0 }
word_of End = record { high = 0; low = 0 }

-- the name w stands next
pub record Named (s : List ℕ) (at : ℕ) (w : Name) : Type 0 where
  pub spelled : Spelled w
  pub key : word_of (token_at s at) ≡ key_of w

-- a line that declares the name that stands next and holds nothing else
abbrev pub Declares : (Name → Line) → List ℕ → ℕ → Line → Type 0
Declares kind s at l = (w : Name) × (l ≡ kind w) × Named s at w

-- a let of the name that stands next
abbrev pub DeclaresLet : List ℕ → ℕ → Line → Type 0
DeclaresLet s at l = (w : Name) × (e : Tree) × (l ≡ let_line w e) × Named s at w

-- the line of a name that is declared has this code alone
pub record Declaration (kind : Name → Line) (code : ℕ) : Type 0 where
  pub codes : (q : Query) (w : Name) → line_codes q (kind w) ≡ code ∷ []
  pub names : (w : Name) → uses (kind w) ≡ declares w ∷ []

-- a line that holds one E has this code behind it
pub record OneSided (kind : Tree → Line) (code : ℕ) (c : Bool) : Type 0 where
  pub codes : (q : Query) (e : Tree) → line_codes q (kind e) ≡ tree_codes q e ++ (code ∷ [])
  pub names : (e : Tree) → uses (kind e) ≡ tree_uses e
  pub plain : (e : Tree) → Bare c (kind e)

-- `empty E` or `irreflexive E`, as a line of its kind each
unfoldable pub one_side : (Tree → Line) → (Tree → Line) → List Choice
one_side f g =
    record { says = text "empty"; reads = λ ts. mapped f (expression ts) }
    ∷ record { says = text "irreflexive"; reads = λ ts. mapped g (expression ts) }
    ∷ []
